-- Proposition 3 of document 000: a sorted vector is judged place by place by counting how many elements reach a number.
-- Assumes nothing.
use mathlib.Core.Path.{◌≡◌, refl, sym}
use mathlib.Core.Logic.{◌↔◌, by_cases}
use mathlib.Core.Bool.{Bool, true, false, not}
use mathlib.Core.List.{List, [], ◌∷◌}
use Prim.Native.Nat.{ℕ, zero, suc, ◌+◌, ◌-◌, ◌≤◌, ◌<◌}
use native.Mathlib.Nat.{not-suc-le-zero, le_of_suc-le-suc, le_refl}
use native.Mathlib.Decide.{dec_lt}
use native.Mathlib.Omega.{arith}
use lib.Dec.{T, leb, leb→le, nleb→lt}
use lib.ListN.{length, get_or, get_or-eq_default}
use lib.Seq.{ext_get_or}
use Rattle.meaning.specs.Order.{sorted}
use Rattle.meaning.proofs.Counting.{one, reach, count_le}
use Rattle.meaning.proofs.Sorting.{sorted_length, count_sorted, LeAll, Ascending, sorted_ascending}

-- ---- a place of an ascending vector, by counting

-- where all are at least y, the count is the length
reach_all : (y x : ℕ) (s : List ℕ) → y ≤ x → LeAll x s → reach y s ≡ length s
reach_all y x [] h a = refl
reach_all y x (z ∷ s) h a = step (leb y z) (nleb→lt y z) (reach_all y x s h a.1)
  where
    step : (b : Bool) → (T (not b) → z < y) → reach y s ≡ length s → one b + reach y s ≡ suc (length s)
    step true gt ih = omega arith
    step false gt ih = let l = gt tt in let k = a.0 in absurd (omega arith)

at_of_reach : (y : ℕ) (s : List ℕ) (i : ℕ) → Ascending s → i < length s → length s ≤ i + reach y s → y ≤ get_or s i 0
at_of_reach y [] i a h r = absurd (not-suc-le-zero h)
at_of_reach y (x ∷ s) zero a h r = step (leb y x) (leb→le y x) r
  where
    step : (b : Bool) → (T b → y ≤ x) → suc (length s) ≤ 0 + (one b + reach y s) → y ≤ x
    step true le r = le tt
    step false le r = absurd (omega (arith, count_le (leb y) s))
at_of_reach y (x ∷ s) (suc i) a h r =
    at_of_reach y s i a.1 (le_of_suc-le-suc h) (step (leb y x) (leb→le y x) r)
  where
    step : (b : Bool) → (T b → y ≤ x) → suc (length s) ≤ suc i + (one b + reach y s) → length s ≤ i + reach y s
    step true le r = omega (arith, reach_all y x s (le tt) a.0)
    step false le r = omega arith

reach_of_at : (y : ℕ) (s : List ℕ) (i : ℕ) → Ascending s → i < length s → y ≤ get_or s i 0 → length s ≤ i + reach y s
reach_of_at y [] i a h k = absurd (not-suc-le-zero h)
reach_of_at y (x ∷ s) zero a h k = omega (arith, reach_all y x (x ∷ s) k (le_refl x, a.0))
reach_of_at y (x ∷ s) (suc i) a h k = omega (arith, reach_of_at y s i a.1 (le_of_suc-le-suc h) k)

-- one place of the sorted vector is at least y just if enough elements are
pub place_iff : (u : List ℕ) (i y : ℕ) → i < length u → (y ≤ get_or (sorted u) i 0) ↔ (length u - i ≤ reach y u)
place_iff u i y h =
    let k : i < length (sorted u) = omega (arith, sorted_length u) in (
      λ l. omega (arith, reach_of_at y (sorted u) i (sorted_ascending u) k l, count_sorted (leb y) u, sorted_length u),
      λ r.
          at_of_reach y (sorted u) i (sorted_ascending u) k (omega (arith, count_sorted (leb y) u, sorted_length u)),
    )

-- Proposition 3: the sorted vector is at least y, place by place, just if at least n − i elements reach each y_i, counted from 0
pub sorted_iff_reach : (n : ℕ) (u y : List ℕ) → length u ≡ n
    → ((i : ℕ) → i < n → get_or y i 0 ≤ get_or (sorted u) i 0) ↔ ((i : ℕ) → i < n → n - i ≤ reach (get_or y i 0) u)
sorted_iff_reach n u y e = (
  λ l i h. omega (arith, (place_iff u i (get_or y i 0) (omega arith)).0 (l i h)),
  λ r i h.
      (place_iff u i (get_or y i 0) (omega arith)).1 (omega (arith, r i h)),
)

-- ---- place by place

infix 50 ◌≼◌
-- at each place at most: past its end a list counts as zeros
abbrev pub ◌≼◌ : List ℕ → List ℕ → Type 0
u ≼ w = (i : ℕ) → get_or u i 0 ≤ get_or w i 0

pub ≼_trans : (u v w : List ℕ) → u ≼ v → v ≼ w → u ≼ w
≼_trans u v w l m i = omega (arith, l i, m i)

pub ≼_antisym : (u w : List ℕ) → length u ≡ length w → u ≼ w → w ≼ u → u ≡ w
≼_antisym u w e l m = ext_get_or 0 u w e (λ i h. omega (arith, l i, m i))

-- a vector that reaches at least as far everywhere is sorted at least as high
pub sorted_mono : (u w : List ℕ) → length u ≡ length w → ((y : ℕ) → reach y u ≤ reach y w) → sorted u ≼ sorted w
sorted_mono u w e r i = by_cases (dec_lt i (length u)) inside beyond
  where
    inside : i < length u → get_or (sorted u) i 0 ≤ get_or (sorted w) i 0
    inside h =
        let y = get_or (sorted u) i 0 in
        let k = (place_iff u i y h).0 (le_refl y) in
        (place_iff w i y (omega arith)).1 (omega (arith, r y))

    beyond : ¬ (i < length u) → get_or (sorted u) i 0 ≤ get_or (sorted w) i 0
    beyond h = omega (arith, get_or-eq_default (sorted u) 0 {n = i} (omega (arith, sorted_length u)))

-- what two vectors reach decides their sorted vectors
pub sorted_ext : (u w : List ℕ) → length u ≡ length w → ((y : ℕ) → reach y u ≡ reach y w) → sorted u ≡ sorted w
sorted_ext u w e r =
    ≼_antisym (sorted u) (sorted w) (omega (arith, sorted_length u, sorted_length w))
    (sorted_mono u w e (λ y. omega (arith, r y)))
    (sorted_mono w u (sym e) (λ y. omega (arith, r y)))

-- a vector that is larger place by place reaches at least as far
pub reach_mono : (y : ℕ) (u w : List ℕ) → length u ≡ length w → u ≼ w → reach y u ≤ reach y w
reach_mono y [] [] e l = omega arith
reach_mono y [] (b ∷ w) e l = omega arith
reach_mono y (a ∷ u) [] e l = absurd (omega arith)
reach_mono y (a ∷ u) (b ∷ w) e l =
    step (leb y a) (leb y b) (leb→le y a) (nleb→lt y b) (l 0) (reach_mono y u w (omega arith) (λ i. l (suc i)))
  where
    step : (p q : Bool) → (T p → y ≤ a) → (T (not q) → b < y) → a ≤ b → reach y u ≤ reach y w → one p + reach y u ≤ one q + reach y w
    step true true f g h ih = omega arith
    step true false f g h ih = let j = f tt in let k = g tt in absurd (omega arith)
    step false true f g h ih = omega arith
    step false false f g h ih = omega arith

pub sorted_≼ : (u w : List ℕ) → length u ≡ length w → u ≼ w → sorted u ≼ sorted w
sorted_≼ u w e l = sorted_mono u w e (λ y. reach_mono y u w e l)
