-- Rules written into heads and a room, and read back. Assumes nothing.
use mathlib.Core.Path.{◌≡◌, refl, sym, ap, ap₂, ◌∙◌}
use mathlib.Core.List.{List, [], ◌∷◌, ◌++◌, map, append_assoc, append-nil, Memᴰ}
use Prim.Native.Nat.{ℕ, zero, suc, ◌+◌, ◌*◌}
use native.Mathlib.Nat.{suc-mul, mul-suc, add-zero, add_assoc}
use native.Mathlib.Omega.{arith}
use lib.IntN.{ℤ}
use lib.ListN.{length, take, drop, length-append, length-map, take-append-drop, length-drop}
use lib.Seq.{take_at, drop_at, drop-drop}
use Rattle.meaning.specs.Limits.{coefficient_limit, bound_limit}
use Rattle.meaning.specs.Rules.{Rule, allowed, forbidden, linear, scope_of, room}
use Rattle.meaning.specs.Calls.{rows, held}
use Rattle.meaning.specs.Proper.{Around, ProperRule}
use Rattle.filters.specs.declared.Head.{Head}
use Rattle.filters.specs.Layout.{shift, unshift, scope_at, tuples_at, coefficients_at, rule_by, size_by, kind_of, last_of, joined, numbers_of, head_of, heads_of, room_of}
use Rattle.filters.proofs.Shifts.{unshift_shift, unshift_all}

-- ---- tuples one after the other

pub joined_rows : (t a : ℕ) (cells : List ℕ) → length cells ≡ t * a → joined (rows t a cells) ≡ cells
unfolding joined rows
joined_rows zero a [] h = refl
joined_rows zero a (x ∷ cells) h = absurd (omega arith)
joined_rows (suc t) a cells h =
    ap (λ (l : List ℕ). take a cells ++ l) (joined_rows t a (drop a cells) (omega (arith, length-drop a cells, suc-mul t a))) ∙ take-append-drop a cells

-- every tuple has a cells
abbrev pub Even : ℕ → List (List ℕ) → Type 0
Even a ts = (t : List ℕ) → Memᴰ t ts → length t ≡ a

pub length_joined : (a : ℕ) (ts : List (List ℕ)) → Even a ts → length (joined ts) ≡ a * length ts
unfolding joined
length_joined a [] h = omega arith
length_joined a (t ∷ ts) h =
    let ih = length_joined a ts (λ u m. h u (Memᴰ.tail m)) in
    omega (arith, length-append t (joined ts), h t (Memᴰ.head refl), mul-suc a (length ts))

pub rows_joined : (a : ℕ) (ts : List (List ℕ)) (rest : List ℕ) → Even a ts → rows (length ts) a (joined ts ++ rest) ≡ ts
unfolding joined rows
rows_joined a [] rest h = refl
rows_joined a (t ∷ ts) rest h =
    let e = append_assoc t (joined ts) rest in
    let l = h t (Memᴰ.head refl) in
    ap₂ ◌∷◌ (ap (take a) e ∙ take_at t (joined ts ++ rest) a l)
    (ap (λ (c : List ℕ). rows (length ts) a c) (ap (drop a) e ∙ drop_at t (joined ts ++ rest) a l) ∙ rows_joined a ts rest (λ u m. h u (Memᴰ.tail m)))

-- ---- a rule's numbers

-- what follows the scope
abbrev behind_scope : Rule → List ℕ
behind_scope (allowed s ts) = joined ts
behind_scope (forbidden s ts) = joined ts
behind_scope (linear s cs b) = map (shift coefficient_limit) cs ++ (0 ∷ [])

numbers_split : (r : Rule) → numbers_of r ≡ scope_of r ++ behind_scope r
numbers_split (allowed s ts) = refl
numbers_split (forbidden s ts) = refl
numbers_split (linear s cs b) = append_assoc s (map (shift coefficient_limit) cs) (0 ∷ [])

length_behind : {n : ℕ} (r : Rule) → ProperRule n r → length (scope_of r) + length (behind_scope r) ≡ room r
length_behind (allowed s ts) p = omega (arith, length_joined (length s) ts p.parts.long)
length_behind (forbidden s ts) p = omega (arith, length_joined (length s) ts p.parts.long)
length_behind (linear s cs b) p =
    let m = length-map cs (shift coefficient_limit) in
    omega (arith, length-append (map (shift coefficient_limit) cs) (0 ∷ []), p.parts.long)

pub length_numbers_of : {n : ℕ} (r : Rule) → ProperRule n r → length (numbers_of r) ≡ room r
length_numbers_of r p = ap length (numbers_split r) ∙ length-append (scope_of r) (behind_scope r) ∙ length_behind r p

pub size_room : (r : Rule) → size_by (kind_of r) (length (scope_of r)) (last_of r) ≡ room r
size_room (allowed s ts) = refl
size_room (forbidden s ts) = refl
size_room (linear s cs b) = refl

-- where a rule's numbers lie in the room from a start, it is read from there
module _ (cells : List ℕ) (start : ℕ) (rest : List ℕ) where
  scope_read : (s behind : List ℕ) → drop start cells ≡ (s ++ behind) ++ rest → scope_at cells start (length s) ≡ s
  scope_read s behind e = ap (take (length s)) (e ∙ append_assoc s behind rest) ∙ take_at s (behind ++ rest) (length s) refl

  behind_read : (s behind : List ℕ) → drop start cells ≡ (s ++ behind) ++ rest → drop (start + length s) cells ≡ behind ++ rest
  behind_read s behind e =
      sym (drop-drop (length s) start cells) ∙ ap (drop (length s)) (e ∙ append_assoc s behind rest) ∙ drop_at s (behind ++ rest) (length s) refl

  tuples_read : (s : List ℕ) (ts : List (List ℕ)) → Even (length s) ts → drop start cells ≡ (s ++ joined ts) ++ rest → tuples_at cells start (length s) (length ts) ≡ ts
  tuples_read s ts h e = ap (rows (length ts) (length s)) (behind_read s (joined ts) e) ∙ rows_joined (length s) ts rest h

  coefficients_read : (s : List ℕ) (cs : List ℤ) → ((c : ℤ) → Memᴰ c cs → Around coefficient_limit c) → length cs ≡ length s
      → drop start cells ≡ (s ++ (map (shift coefficient_limit) cs ++ (0 ∷ []))) ++ rest → coefficients_at cells start (length s) ≡ cs
  coefficients_read s cs h l e =
      let kept = map (shift coefficient_limit) cs in
      let i = behind_read s (kept ++ (0 ∷ [])) e ∙ append_assoc kept (0 ∷ []) rest in
      ap (λ (c : List ℕ). map (unshift coefficient_limit) (take (length s) c)) i
      ∙ ap (map (unshift coefficient_limit)) (take_at kept ((0 ∷ []) ++ rest) (length s) (length-map cs (shift coefficient_limit) ∙ l))
      ∙ unshift_all coefficient_limit cs h

  by_parts : {n : ℕ} (r : Rule) → ProperRule n r → drop start cells ≡ (scope_of r ++ behind_scope r) ++ rest
      → rule_by cells (kind_of r) (length (scope_of r)) start (last_of r) ≡ r
  by_parts (allowed s ts) p e = ap₂ allowed (scope_read s (joined ts) e) (tuples_read s ts p.parts.long e)
  by_parts (forbidden s ts) p e = ap₂ forbidden (scope_read s (joined ts) e) (tuples_read s ts p.parts.long e)
  by_parts (linear s cs b) p e =
      let i = scope_read s (behind_scope (linear s cs b)) e in
      let j = coefficients_read s cs p.parts.coefficients p.parts.long e in
      let k = unshift_shift bound_limit b p.parts.bound in
      cc

  pub rule_read : {n : ℕ} (r : Rule) → ProperRule n r → drop start cells ≡ numbers_of r ++ rest
      → rule_by cells (kind_of r) (length (scope_of r)) start (last_of r) ≡ r
  rule_read r p e = by_parts r p (e ∙ ap (λ (l : List ℕ). l ++ rest) (numbers_split r))

-- ---- rules one after the other

pub length_heads_of : (start : ℕ) (rs : List Rule) → length (heads_of start rs) ≡ length rs
unfolding heads_of
length_heads_of start [] = refl
length_heads_of start (r ∷ rs) = ap suc (length_heads_of (start + room r) rs)

-- every rule is proper
abbrev pub AllProper : ℕ → List Rule → Type 0
AllProper n rs = (r : Rule) → Memᴰ r rs → ProperRule n r

pub length_room_of : {n : ℕ} (rs : List Rule) → AllProper n rs → length (room_of rs) ≡ held rs
unfolding room_of held
length_room_of [] h = refl
length_room_of (r ∷ rs) h =
    omega (arith, length-append (numbers_of r) (room_of rs), length_numbers_of r (h r (Memᴰ.head refl)), length_room_of rs (λ q m. h q (Memᴰ.tail m)))

pub heads_of_append : (start : ℕ) (ps qs : List Rule) → heads_of start (ps ++ qs) ≡ heads_of start ps ++ heads_of (start + held ps) qs
unfolding heads_of held
heads_of_append start [] qs = ap (λ (k : ℕ). heads_of k qs) (sym (add-zero start))
heads_of_append start (p ∷ ps) qs =
    ap (λ (l : List Head). head_of start p ∷ l) (heads_of_append (start + room p) ps qs ∙ ap (λ (k : ℕ). heads_of (start + room p) ps ++ heads_of k qs) (add_assoc start (room p) (held ps)))

pub room_of_append : (ps qs : List Rule) → room_of (ps ++ qs) ≡ room_of ps ++ room_of qs
unfolding room_of
room_of_append [] qs = refl
room_of_append (p ∷ ps) qs = ap (λ (l : List ℕ). numbers_of p ++ l) (room_of_append ps qs) ∙ sym (append_assoc (numbers_of p) (room_of ps) (room_of qs))

pub held_append : (ps qs : List Rule) → held (ps ++ qs) ≡ held ps + held qs
unfolding held
held_append [] qs = omega arith
held_append (p ∷ ps) qs = omega (arith, held_append ps qs)

pub heads_of_more : (start : ℕ) (rs : List Rule) (r : Rule) → heads_of start (rs ++ (r ∷ [])) ≡ heads_of start rs ++ (head_of (start + held rs) r ∷ [])
unfolding heads_of
heads_of_more start rs r = heads_of_append start rs (r ∷ [])

pub room_of_more : (rs : List Rule) (r : Rule) → room_of (rs ++ (r ∷ [])) ≡ room_of rs ++ numbers_of r
unfolding room_of
room_of_more rs r = room_of_append rs (r ∷ []) ∙ ap (λ (l : List ℕ). room_of rs ++ l) (append-nil (numbers_of r))
