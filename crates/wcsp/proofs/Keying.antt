-- Marks at the keys of the tuples that lie in cells, kept while one more is written behind them. Assumes nothing.
use mathlib.Core.Path.{◌≡◌, refl, sym, ap, ap₂, ◌∙◌, subst, subst⁻¹}
use mathlib.Core.Logic.{⊎_elim}
use mathlib.Core.Bool.{Bool, true, false}
use mathlib.Core.List.Memᴰ
use mathlib.Core.List.{List, [], ◌∷◌, ◌++◌, Memᴰ}
use Prim.Native.Nat.{ℕ, zero, suc, ◌+◌, ◌-◌, ◌*◌, ◌/◌, ◌≤◌, ◌<◌}
use native.Mathlib.Nat.{suc-mul, mul-div_left}
use native.Mathlib.Omega.{arith}
use lib.ListN.{length, get_or, set, take, drop, length-set, length-drop}
use lib.Seq.{length-take-le, take-take, take-add, drop_at, drop-drop}
use Rattle.meaning.specs.Calls.{some, same, rows}
use Rattle.tuples.specs.Keys.{key_limit, key_from}
use Rattle.tuples.specs.Rows.{tuples_in}
use Rattle.tuples.proofs.Rows.{part_is, tuple_long}
use Rattle.tuples.proofs.Marks.{unmarked, marked_too}
use Rattle.wcsp.specs.Steps.{Behind, Keyed}

-- rows lie in the cells before their end
rows_kept : (n a : ℕ) (l m : List ℕ) → n * a ≤ length l → n * a ≤ length m → take (n * a) l ≡ take (n * a) m → rows n a l ≡ rows n a m
unfolding rows
rows_kept zero a l m hl hm e = refl
rows_kept (suc n) a l m hl hm e =
    let k : suc n * a ≡ a + n * a = omega (arith, suc-mul n a) in
    let whole : take (a + n * a) l ≡ take (a + n * a) m = subst (λ (i : ℕ). take i l ≡ take i m) k e in
    let first = sym (take-take a (a + n * a) l (omega arith)) ∙ ap (take a) whole ∙ take-take a (a + n * a) m (omega arith) in
    let rest : (x : List ℕ) → suc n * a ≤ length x → drop a (take (a + n * a) x) ≡ take (n * a) (drop a x) =
    λ x h. ap (drop a) (take-add a (n * a) x) ∙ drop_at (take a x) (take (n * a) (drop a x)) a (length-take-le a x (omega (arith, k))) in
    let others = sym (rest l hl) ∙ ap (drop a) whole ∙ rest m hm in
    ap₂ ◌∷◌ first (rows_kept n a (drop a l) (drop a m) (omega (arith, k, length-drop a l)) (omega (arith, k, length-drop a m)) others)

-- the tuple behind the first `count`, looked for among them
pub listed_before : (a count : ℕ) (cells : List ℕ) → 0 < a → count * a + a ≤ length cells
    → some (same (take (count * a + a - count * a) (drop (count * a) cells))) (tuples_in (length (take (count * a + a - count * a) (drop (count * a) cells))) (take (count * a) cells))
    ≡ some (same (take a (drop (count * a) cells))) (rows count a cells)
listed_before a count cells h fits =
    let last = take a (drop (count * a) cells) in
    let front = take (count * a) cells in
    let long : length front ≡ count * a = length-take-le (count * a) cells (omega arith) in
    let many : length front / a ≡ count = ap (λ (n : ℕ). n / a) long ∙ mul-div_left count h in
    ap (λ (t : List ℕ). some (same t) (tuples_in (length t) front)) (part_is a cells (count * a))
    ∙ ap (λ (n : ℕ). some (same last) (tuples_in n front)) (tuple_long a cells (count * a) fits)
    ∙ ap (λ (n : ℕ). some (same last) (rows n a front)) many
    ∙ ap (some (same last)) (rows_kept count a front cells (omega arith) (omega arith) (take-take (count * a) (count * a) cells (omega arith)))

rows_more : (n a : ℕ) (l : List ℕ) → rows (n + 1) a l ≡ rows n a l ++ (take a (drop (n * a) l) ∷ [])
unfolding rows
rows_more zero a l = let e : 0 ≡ 0 * a = omega arith in ap (λ (k : ℕ). take a (drop k l) ∷ []) e
rows_more (suc n) a l =
    let e : a + n * a ≡ suc n * a = omega (arith, suc-mul n a) in
    let two : suc n + 1 ≡ suc (n + 1) = omega arith in
    ap (λ (k : ℕ). rows k a l) two
    ∙ ap (λ (ts : List (List ℕ)). take a l ∷ ts) (rows_more n a (drop a l) ∙ ap (λ (u : List ℕ). rows n a (drop a l) ++ (take a u ∷ [])) (drop-drop (n * a) a l ∙ ap (λ (k : ℕ). drop k l) e))

pub keyed_none : (marked : List Bool) (a : ℕ) (cells : List ℕ) → length marked ≡ key_limit → Keyed marked (rows 0 a cells)
unfolding rows
keyed_none marked a cells l = record { long = l; marks = λ u m. absurd (Memᴰ.not-nil m) }

pub keyed_behind : {marked : List Bool} (a count : ℕ) (before after : List ℕ) → count * a ≤ length before → Behind (count * a) before after
    → Keyed marked (rows count a before) → Keyed marked (rows count a after)
keyed_behind {marked} a count before after h b k = subst (Keyed marked) (rows_kept count a before after h (omega (arith, b.long)) (sym b.kept)) k

module _ (marked : List Bool) (a count : ℕ) (cells : List ℕ) (keyed : Keyed marked (rows count a cells)) (key : ℕ) (key_is : key ≡ key_from 0 (take a (drop (count * a) cells))) where
  last : List ℕ
  last = take a (drop (count * a) cells)

  -- marks at their keys, and at the last one's
  one_more : (new : List Bool) → length new ≡ key_limit → ((u : List ℕ) → Memᴰ u (rows count a cells) → get_or new (key_from 0 u) false ≡ true)
      → get_or new (key_from 0 last) false ≡ true → Keyed new (rows (count + 1) a cells)
  unfolding last
  one_more new l others own = record {
    long = l;
    marks = λ u m. ⊎_elim (others u) (λ k. ap (λ (t : List ℕ). get_or new (key_from 0 t) false) (Memᴰ.eq_of_singleton k) ∙ own)
        (Memᴰ.append_cases (rows count a cells) (subst (Memᴰ u) (rows_more count a cells) m));
  }

  pub marked_before : get_or marked key false ≡ true → Keyed marked (rows (count + 1) a cells)
  unfolding last
  marked_before e = one_more marked keyed.long keyed.marks (ap (λ (k : ℕ). get_or marked k false) (sym key_is) ∙ e)

  pub marked_now : key < key_limit → Keyed (set marked key true) (rows (count + 1) a cells)
  unfolding last
  marked_now small =
      let all = marked_too marked (rows count a cells) last (omega (arith, keyed.long, key_is)) keyed.marks in
      subst⁻¹ (λ (k : ℕ). Keyed (set marked k true) (rows (count + 1) a cells)) key_is
      (one_more (set marked (key_from 0 last) true) (length-set marked (key_from 0 last) true ∙ keyed.long) (λ u m. all u (Memᴰ.tail m)) (all last (Memᴰ.head refl)))

  pub not_listed : get_or marked key false ≡ false → some (same (take a (drop (count * a) cells))) (rows count a cells) ≡ false
  not_listed e = unmarked marked (rows count a cells) (take a (drop (count * a) cells)) keyed.marks (ap (λ (k : ℕ). get_or marked k false) (sym key_is) ∙ e)
