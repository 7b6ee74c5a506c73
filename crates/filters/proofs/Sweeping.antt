-- Sweeps: what filtering by the rules one after the other keeps, and what it has come to when nothing is dropped any more.
-- Assumes nothing.
use mathlib.Core.Path.{◌≡◌, refl, sym, ◌∙◌}
use mathlib.Core.Logic.{◌⊎◌, inl, inr, ⊎_elim, by_cases}
use mathlib.Core.List.Memᴰ
use mathlib.Core.List.{List, [], ◌∷◌, ◌++◌, map-append, Memᴰ}
use Prim.Native.Nat.{ℕ, ◌+◌, ◌≤◌, ◌<◌}
use native.Mathlib.Decide.{ℕ_discrete, dec_lt}
use native.Mathlib.Numerals.{add-one}
use native.Mathlib.Omega.{arith}
use lib.Bits.{bit_or, or_add_and, and_le_l, and_comm}
use lib.ListN.{length, get_or, take, get_or-eq_default}
use lib.Seq.{ext_get_or, take-suc}
use Rattle.meaning.specs.Limits.{value_limit, variable_limit}
use Rattle.meaning.specs.Values.{Has, size}
use Rattle.meaning.specs.Rules.{Rule, scope_of}
use Rattle.meaning.specs.Lists.{Closed}
use Rattle.meaning.proofs.Digits.{zero_bit, bit_high, bit_cases}
use Rattle.meaning.proofs.Sizes.{total_le, total_lt, size_le}
use Rattle.meaning.proofs.Sets.{some_digit, word_of_digits, same_size}
use Rattle.meaning.proofs.Largest.{◌⊑◌, same_lists, Removes, stays}
use Rattle.meaning.proofs.Listed.{Words}
use Rattle.filters.specs.declared.Head.{Head}
use Rattle.filters.specs.Layout.{no_head, head, rule_under, rule_at, rules_at}
use Rattle.blocks.specs.Keeping.{Changed}
use Rattle.filters.specs.Filter.{Filtered, Filtering, Swept, none, more, weight, Sweeping, LargestIn, Toward}

-- ---- the rules that lie in the room

pub rules_more : (heads : List Head) (room : List ℕ) (k : ℕ) → k < length heads
    → rules_at (take (k + 1) heads) room ≡ rules_at (take k heads) room ++ (rule_at heads room k ∷ [])
rules_more heads room k l =
    rw (add-one k, take-suc heads k no_head l) (map-append (rule_under room) (take k heads) (head heads k ∷ []))

-- ---- sweeps

member : (x : ℕ) (l : List ℕ) → Dec (Memᴰ x l)
member x [] = no Memᴰ.not-nil
member x (y ∷ l) = step (ℕ_discrete x y) (member x l)
  where
    step : Dec (x ≡ y) → Dec (Memᴰ x l) → Dec (Memᴰ x (y ∷ l))
    step (yes e) d = yes (Memᴰ.head e)
    step (no n) (yes m) = yes (Memᴰ.tail m)
    step (no n) (no k) = no λ m. ⊎_elim n k (Memᴰ.cases_cons m)

-- filtering by a rule of a network removes only what has no support
pub filtered_removes : {rules : List Rule} {r : Rule} {L K : List ℕ} → Memᴰ r rules → Filtered r L K → Removes rules L K
filtered_removes {r} {L} {K} m f = record {
  long = f.long;
  kept = f.kept;
  reason = λ x v l gone.
      by_cases (member x (scope_of r)) (λ i. (r, m, i, λ s. gone (f.all x v l (λ j. s)))) (λ n. absurd (gone (f.all x v l (λ j. absurd (n j)))));
}

pub swept_long : {rs : List Rule} {L K : List ℕ} → Swept rs L K → length K ≡ length L
swept_long none = refl
swept_long (more f s) = swept_long s ∙ f.long

pub swept_within : {rs : List Rule} {L K : List ℕ} → Swept rs L K → K ⊑ L
swept_within none x v h = h
swept_within (more f s) x v h = f.kept x v (swept_within s x v h)

pub swept_keeps : {rules rs : List Rule} {J L M : List ℕ} → ((r : Rule) → Memᴰ r rs → Memᴰ r rules) → Closed rules J → J ⊑ L → Swept rs L M → J ⊑ M
swept_keeps sub shut low none = low
swept_keeps {J} sub shut low (more {L} {K} {M} f s) =
    swept_keeps (λ r m. sub r (Memᴰ.tail m)) shut
    (stays {K = J} {L = L} {L' = K} shut low (filtered_removes (sub _ (Memᴰ.head refl)) f)) s

-- a sweep that drops nothing shows that the lists are closed
pub swept_closed : {rs : List Rule} {L M : List ℕ} → Swept rs L M → L ⊑ M → Closed rs L
swept_closed none h r m = absurd (Memᴰ.not-nil m)
swept_closed (more {r} {rs} {L} {K} {M} f s) h q m =
    let low : L ⊑ K = λ x v l. swept_within s x v (h x v l) in
    let e : K ≡ L = same_lists f.long f.kept low in
    ⊎_elim (λ d. rw d (λ x i v l. f.supported x v i (low x v l)))
    (λ k. rw e at (swept_closed s (λ x v l. h x v (f.kept x v l)) q k)) (Memᴰ.cases_cons m)

pub swept_more : {rs : List Rule} {r : Rule} {L K M : List ℕ} → Swept rs L K → Filtered r K M → Swept (rs ++ (r ∷ [])) L M
swept_more none f = more f none
swept_more (more g s) f = more g (swept_more s f)

-- ---- the weight falls

pub words_below : (K L : List ℕ) → Words L → K ⊑ L → Words K
words_below K L fit sub x =
    word_of_digits (get_or K x 0) λ v h.
    ⊎_elim (λ e. e) (λ e. absurd (let z = bit_high value_limit {m = get_or L x 0} v (fit x) h in let k = sub x v e in omega arith)) (bit_cases (get_or K x 0) v)

pub weight_le : (K L : List ℕ) → K ⊑ L → weight K ≤ weight L
weight_le K L sub = total_le (λ x. size (get_or K x 0)) (λ x. size (get_or L x 0)) variable_limit (λ x l. size_le (get_or K x 0) (get_or L x 0) (sub x))

weight_lt : (K L : List ℕ) (x : ℕ) → Words L → K ⊑ L → x < variable_limit → ¬ (get_or K x 0 ≡ get_or L x 0) → weight K < weight L
weight_lt K L x fit sub inside other =
    total_lt (λ y. size (get_or K y 0)) (λ y. size (get_or L y 0)) variable_limit x inside
    (λ y l. size_le (get_or K y 0) (get_or L y 0) (sub y)) fewer
  where
    fewer : size (get_or K x 0) < size (get_or L x 0)
    fewer =
        by_cases (dec_lt (size (get_or K x 0)) (size (get_or L x 0))) (λ l. l) λ n.
        absurd (other (same_size (get_or K x 0) (get_or L x 0) (words_below K L fit sub x) (fit x) (sub x) (omega (arith, size_le (get_or K x 0) (get_or L x 0) (sub x)))))

-- nothing has changed, or something has
pub changed_none : {L K : List ℕ} → length K ≡ length L → Changed L K 0 → K ≡ L
changed_none {L} {K} e c = ext_get_or 0 K L e (λ x h. c.same x (zero_bit x))

-- a list that has changed is that of a variable
pub changed_small : {L K : List ℕ} {d : ℕ} → length K ≡ length L → length L ≡ variable_limit → Changed L K d → (x : ℕ) → Has d x → x < variable_limit
changed_small {L} {K} e long c x h =
    by_cases (dec_lt x variable_limit) (λ l. l) λ n.
    absurd (c.other x h (get_or-eq_default K 0 {n = x} (omega arith) ∙ sym (get_or-eq_default L 0 {n = x} (omega arith))))

pub changed_some : {L K : List ℕ} {d : ℕ} → length K ≡ length L → length L ≡ variable_limit → Words L → K ⊑ L → Changed L K d → 0 < d → weight K < weight L
changed_some {L} {K} {d} e long fit sub c p =
    let (x, h) = some_digit d p in
    weight_lt K L x fit sub (changed_small e long c x h) (c.other x h)

or_none : (c d : ℕ) → bit_or c d ≡ 0 → (c ≡ 0) × (d ≡ 0)
or_none c d e =
    let s = or_add_and c d in
    let l = and_le_l c d in
    let m = and_le_l d c in
    let k = and_comm c d in
    (omega arith, omega arith)

pub sweeping_none : (L : List ℕ) → Sweeping [] L L 0
sweeping_none L = record { swept = none; nothing = λ e. refl; something = λ h. absurd (omega arith) }

pub sweeping_more : {rs : List Rule} {r : Rule} {L K M : List ℕ} (c d : ℕ) → length L ≡ variable_limit → Words L → Sweeping rs L K c → Filtering r K M d
    → Sweeping (rs ++ (r ∷ [])) L M (bit_or c d)
sweeping_more {rs} {r} {L} {K} {M} c d long fit s f = record {
  swept = swept_more s.swept f.filtered;
  nothing = λ e.
      let (p, q) = or_none c d e in
      changed_none f.filtered.long (rw q at f.changed) ∙ s.nothing p;
  something = λ h. ⊎_elim (λ p. omega (arith, s.something p, weight_le M K f.filtered.kept)) (λ p. omega (arith, falls p, weight_le K L (swept_within s.swept))) (either h);
}
  where
    falls : 0 < d → weight M < weight K
    falls p = changed_some f.filtered.long (swept_long s.swept ∙ long) (words_below K L fit (swept_within s.swept)) f.filtered.kept f.changed p

    either : 0 < bit_or c d → (0 < c) ⊎ (0 < d)
    either h = by_cases (dec_lt 0 c) inl (λ n. inr (let s = or_add_and c d in omega arith))

-- ---- to the end

pub toward_start : (rules : List Rule) (B : List ℕ) → Toward rules B B
toward_start rules B = record { long = refl; within = λ x v h. h; most = λ K low shut. low }

pub toward_more : {rules : List Rule} {B L M : List ℕ} → Toward rules B L → Swept rules L M → Toward rules B M
toward_more t s = record {
  long = swept_long s ∙ t.long;
  within = λ x v h. t.within x v (swept_within s x v h);
  most = λ K low shut. swept_keeps {J = K} (λ r m. m) shut (t.most K low shut) s;
}

pub toward_end : {rules : List Rule} {B L : List ℕ} → Toward rules B L → Closed rules L → LargestIn rules B L
toward_end t shut = record { long = t.long; within = t.within; closed = shut; most = t.most }

-- the last sweep shows that the lists are closed
pub sweep_last : {rs : List Rule} {L M : List ℕ} {c : ℕ} → Sweeping rs L M c → c ≡ 0 → Closed rs M
sweep_last {L} {M} s e = let q : M ≡ L = s.nothing e in rw q (swept_closed s.swept (λ x v h. rw q h))
