-- Whole numbers kept as naturals, and the terms of a linear rule at the values where they are least. Assumes nothing.
use mathlib.Core.Path.{◌≡◌, refl, ap, ◌∙◌}
use mathlib.Core.Bool.{Bool, true, false, cond, not}
use mathlib.Core.List.{List, [], ◌∷◌, map, Memᴰ}
use Prim.Native.Nat.{ℕ, zero, suc, ◌+◌, ◌-◌, ◌*◌, ◌^◌, ◌≤◌, ◌<◌}
use native.Mathlib.Nat.{mul-le-mul_left, not-suc-le-zero, le_of_suc-le-suc}
use native.Mathlib.Omega.{arith}
use lib.Count.{count_trailing_zeros, count_leading_zeros}
use lib.Dec.{T, ltb, ltb→lt, nltb→le}
use lib.IntN.{pos, negsuc, ◌*ℤ◌}
use lib.ListN.{length, get_or}
use Rattle.meaning.specs.Limits.{coefficient_limit}
use Rattle.meaning.specs.Values.{Has}
use Rattle.meaning.specs.Rules.{sum}
use Rattle.meaning.proofs.Whole.{up, dn, le_in, sum_parts, mul_parts}
use Rattle.meaning.proofs.Linear.{Least}
use Rattle.meaning.proofs.Listed.{Words}
use Rattle.values.specs.Sets.{Lowest, Highest}
use Rattle.values.proofs.Ends.{lowest_trailing, highest_leading}
use Rattle.values.proofs.Unique.{lowest_unique, highest_unique}
use Rattle.filters.specs.Layout.{unshift}
use Rattle.filters.specs.Linear.{rise, fall}
use Rattle.filters.proofs.Nearness.{nothing, from_low, to_high}

-- ---- a number kept k more

pub unshift_parts : (k n : ℕ) → (up (unshift k n) ≡ n - k) × (dn (unshift k n) ≡ k - n)
unshift_parts k n = step (ltb n k) (ltb→lt n k) (nltb→le n k)
  where
    step : (t : Bool) → (T t → n < k) → (T (not t) → k ≤ n)
        → (up (cond t (negsuc (k - suc n)) (pos (n - k))) ≡ n - k) × (dn (cond t (negsuc (k - suc n)) (pos (n - k))) ≡ k - n)
    step true f g = let h = f tt in (omega arith, omega arith)
    step false f g = let h = g tt in (omega arith, omega arith)

pub at_map : (ks : List ℕ) (j : ℕ) → j < length ks → get_or (map (unshift coefficient_limit) ks) j (pos 0) ≡ unshift coefficient_limit (get_or ks j 0)
at_map [] j h = absurd (not-suc-le-zero h)
at_map (k ∷ ks) zero h = refl
at_map (k ∷ ks) (suc j) h = at_map ks j (le_of_suc-le-suc h)

-- a term's parts
module _ (k v : ℕ) where
  pub term_up : up (unshift coefficient_limit k *ℤ pos v) ≡ rise k * v
  term_up = (mul_parts (unshift coefficient_limit k) v).0 ∙ ap (λ (n : ℕ). n * v) (unshift_parts coefficient_limit k).0

  pub term_dn : dn (unshift coefficient_limit k *ℤ pos v) ≡ fall k * v
  term_dn = (mul_parts (unshift coefficient_limit k) v).1 ∙ ap (λ (n : ℕ). n * v) (unshift_parts coefficient_limit k).1

-- ---- where a term is least

-- with the kept coefficient k, among the values of m: at the highest for a negative coefficient, at the lowest for another
pub least_at : ℕ → ℕ → ℕ
least_at k m = cond (ltb k coefficient_limit) (63 - count_leading_zeros 64 m) (count_trailing_zeros 64 m)

module _ (k m : ℕ) (fit : m < 2 ^ 64) where
  pub least_low : (w : ℕ) → coefficient_limit ≤ k → Lowest m w → least_at k m ≡ w
  unfolding least_at
  least_low w l h = step (ltb k coefficient_limit) (ltb→lt k coefficient_limit)
    where
      step : (t : Bool) → (T t → k < coefficient_limit) → cond t (63 - count_leading_zeros 64 m) (count_trailing_zeros 64 m) ≡ w
      step true f = let g = f tt in absurd (omega arith)
      step false f = lowest_unique m (count_trailing_zeros 64 m) w (lowest_trailing m fit) h

  module _ (some : 0 < m) where
    pub least_high : (w : ℕ) → k < coefficient_limit → Highest m w → least_at k m ≡ w
    unfolding least_at
    least_high w l h = step (ltb k coefficient_limit) (nltb→le k coefficient_limit)
      where
        step : (t : Bool) → (T (not t) → coefficient_limit ≤ k) → cond t (63 - count_leading_zeros 64 m) (count_trailing_zeros 64 m) ≡ w
        step true f = highest_unique m (63 - count_leading_zeros 64 m) w (highest_leading m fit some) h
        step false f = let g = f tt in absurd (omega arith)

    pub least_has : Has m (least_at k m)
    unfolding least_at
    least_has = step (ltb k coefficient_limit)
      where
        step : (t : Bool) → Has m (cond t (63 - count_leading_zeros 64 m) (count_trailing_zeros 64 m))
        step true = let h = highest_leading m fit some in h.here (h.some some)
        step false = let h = lowest_trailing m fit in h.here (h.some some)

    pub least_term : (v : ℕ) → Has m v → rise k * least_at k m + fall k * v ≤ rise k * v + fall k * least_at k m
    unfolding least_at
    least_term v g = step (ltb k coefficient_limit) (ltb→lt k coefficient_limit) (nltb→le k coefficient_limit)
      where
        lo : ℕ
        lo = count_trailing_zeros 64 m

        hi : ℕ
        hi = 63 - count_leading_zeros 64 m

        low : Lowest m lo
        low = lowest_trailing m fit

        high : Highest m hi
        high = highest_leading m fit some

        step : (t : Bool) → (T t → k < coefficient_limit) → (T (not t) → coefficient_limit ≤ k)
            → rise k * cond t hi lo + fall k * v ≤ rise k * v + fall k * cond t hi lo
        step true f f' =
            let l = f tt in
            let z : rise k ≡ 0 = omega arith in
            omega (arith, nothing v z, nothing hi z, mul-le-mul_left (fall k) (to_high m lo hi low high v g))
        step false f f' =
            let l = f' tt in
            let z : fall k ≡ 0 = omega arith in
            omega (arith, nothing v z, nothing lo z, mul-le-mul_left (rise k) (from_low m lo hi low high v g))

-- ---- all terms

-- the values where the terms are least, and the sum of a weight times those
unfoldable pub leasts : List ℕ → List ℕ → List ℕ → List ℕ
leasts L [] ks = []
leasts L (x ∷ s) [] = []
leasts L (x ∷ s) (k ∷ ks) = least_at k (get_or L x 0) ∷ leasts L s ks

unfoldable pub weighed : (ℕ → ℕ) → List ℕ → List ℕ → List ℕ → ℕ
weighed f L [] ks = 0
weighed f L (x ∷ s) [] = 0
weighed f L (x ∷ s) (k ∷ ks) = f k * least_at k (get_or L x 0) + weighed f L s ks

module _ (L : List ℕ) where
  pub leasts_at : (s ks : List ℕ) (j : ℕ) → j < length s → j < length ks → get_or (leasts L s ks) j 0 ≡ least_at (get_or ks j 0) (get_or L (get_or s j 0) 0)
  unfolding leasts
  leasts_at [] ks j h g = absurd (not-suc-le-zero h)
  leasts_at (x ∷ s) [] j h g = absurd (not-suc-le-zero g)
  leasts_at (x ∷ s) (k ∷ ks) zero h g = refl
  leasts_at (x ∷ s) (k ∷ ks) (suc j) h g = leasts_at s ks j (le_of_suc-le-suc h) (le_of_suc-le-suc g)

  pub leasts_length : (s ks : List ℕ) → length s ≡ length ks → length (leasts L s ks) ≡ length s
  unfolding leasts
  leasts_length [] ks e = refl
  leasts_length (x ∷ s) [] e = absurd (omega arith)
  leasts_length (x ∷ s) (k ∷ ks) e = ap suc (leasts_length s ks (omega arith))

  -- the least sum, as a difference of naturals
  pub leasts_sum : (s ks : List ℕ)
      → up (sum (map (unshift coefficient_limit) ks) (leasts L s ks)) + weighed fall L s ks
      ≡ dn (sum (map (unshift coefficient_limit) ks) (leasts L s ks)) + weighed rise L s ks
  unfolding leasts weighed sum
  leasts_sum [] [] = refl
  leasts_sum [] (k ∷ ks) = refl
  leasts_sum (x ∷ s) [] = refl
  leasts_sum (x ∷ s) (k ∷ ks) =
      let w = least_at k (get_or L x 0) in
      let rest = sum (map (unshift coefficient_limit) ks) (leasts L s ks) in
      omega (arith, leasts_sum s ks, sum_parts (unshift coefficient_limit k *ℤ pos w) rest, term_up k w, term_dn k w)

  module _ (fit : Words L) where
    pub leasts_least : (s ks : List ℕ) → length s ≡ length ks → ((x : ℕ) → Memᴰ x s → 0 < get_or L x 0)
        → Least L s (map (unshift coefficient_limit) ks) (leasts L s ks)
    unfolding leasts
    leasts_least [] [] e some = tt
    leasts_least [] (k ∷ ks) e some = absurd (omega arith)
    leasts_least (x ∷ s) [] e some = absurd (omega arith)
    leasts_least (x ∷ s) (k ∷ ks) e some =
        let m = get_or L x 0 in
        let w = least_at k m in
        let c = unshift coefficient_limit k in
        let one = some x (Memᴰ.head refl) in (
          least_has k m (fit x) one,
          λ v h. le_in (c *ℤ pos w) (c *ℤ pos v)
              (omega (arith, term_up k w, term_dn k w, term_up k v, term_dn k v, least_term k m (fit x) one v h)),
          leasts_least s ks (omega arith) (λ y g. some y (Memᴰ.tail g)),
        )
