-- The least sum of a linear rule, summed place by place. Assumes nothing.
use mathlib.Core.Path.{◌≡◌, refl, ◌∙◌}
use mathlib.Core.List.{List}
use Prim.Native.Nat.{ℕ, ◌+◌, ◌-◌, ◌*◌, ◌^◌, ◌≤◌, ◌<◌}
use native.Mathlib.Nat.{mul-le-mul}
use native.Mathlib.Numerals.{add-one}
use native.Mathlib.Omega.{arith}
use borrow.Author.Count.{below_more}
use lib.ListN.{length, get_or, drop}
use lib.Seq.{drop-cons}
use Rattle.meaning.specs.Limits.{coefficient_limit, bound_limit}
use Rattle.meaning.proofs.Listed.{Words}
use Rattle.values.specs.Sets.{Lowest, Highest}
use Rattle.filters.specs.Linear.{rise, fall}
use Rattle.filters.proofs.Nearness.{nothing}
use Rattle.filters.proofs.Terms.{least_at, least_low, least_high, weighed}

-- above and below are what 0 and the bound are kept as, with what the first i terms add to either; no list passed is empty
pub record Summed (L s ks : List ℕ) (bound i above below : ℕ) : Type 0 where
  pub rising : above + weighed rise L (drop i s) (drop i ks) ≡ bound_limit + weighed rise L s ks
  pub falling : below + weighed fall L (drop i s) (drop i ks) ≡ bound + weighed fall L s ks
  pub above_small : above ≤ bound_limit + i * 4194304
  pub below_small : below ≤ bound + i * 4194304
  pub some : (j : ℕ) → j < i → 0 < get_or L (get_or s j 0) 0

weighed_next : (f : ℕ → ℕ) (L s ks : List ℕ) (i : ℕ) → i < length s → i < length ks
    → weighed f L (drop i s) (drop i ks) ≡ f (get_or ks i 0) * least_at (get_or ks i 0) (get_or L (get_or s i 0) 0) + weighed f L (drop (i + 1) s) (drop (i + 1) ks)
unfolding weighed
weighed_next f L s ks i h g = rw (add-one, drop-cons s i 0 h, drop-cons ks i 0 g)

-- the turn of a term, whose list has a value
module _ (L s ks : List ℕ) (bound : ℕ) (short : (j : ℕ) → get_or ks j 0 < 2 ^ 16) (fit : Words L) (i above below : ℕ) (l : i < length s) (m : i < length ks)
    (so : Summed L s ks bound i above below) (one : ¬ (get_or L (get_or s i 0) 0 ≡ 0)) (w : ℕ) where
  abbrev x : ℕ
  x = get_or s i 0

  abbrev k : ℕ
  k = get_or ks i 0

  next : (f : ℕ → ℕ) → least_at k (get_or L x 0) ≡ w → weighed f L (drop i s) (drop i ks) ≡ f k * w + weighed f L (drop (i + 1) s) (drop (i + 1) ks)
  next f e = weighed_next f L s ks i l m ∙ (rw e refl)

  some_next : (j : ℕ) → j < i + 1 → 0 < get_or L (get_or s j 0) 0
  some_next = below_more (λ j. 0 < get_or L (get_or s j 0) 0) i so.some (omega arith)

  -- a term with a negative coefficient, at its highest value
  pub summed_high : k < coefficient_limit → Highest (get_or L x 0) w → Summed L s ks bound (i + 1) above (below + (coefficient_limit - k) * w)
  summed_high neg high =
      let e = least_high k (get_or L x 0) (fit x) (omega arith) w neg high in
      let z = nothing {n = rise k} w (omega arith) in
      record {
        rising = omega (arith, so.rising, next rise e);
        falling = omega (arith, so.falling, next fall e);
        above_small = omega (arith, so.above_small);
        below_small = omega (arith, so.below_small, mul-le-mul {n₁ = coefficient_limit - k} {n₂ = 65536} (omega arith) high.small);
        some = some_next;
      }

  -- any other, at its lowest
  pub summed_low : coefficient_limit ≤ k → Lowest (get_or L x 0) w → Summed L s ks bound (i + 1) (above + (k - coefficient_limit) * w) below
  summed_low up low =
      let e = least_low k (get_or L x 0) (fit x) w up low in
      let z = nothing {n = fall k} w (omega arith) in
      record {
        rising = omega (arith, so.rising, next rise e);
        falling = omega (arith, so.falling, next fall e);
        above_small = omega (arith, so.above_small, mul-le-mul {n₁ = k - coefficient_limit} {n₂ = 65536} (omega (arith, short i)) low.small);
        below_small = omega (arith, so.below_small);
        some = some_next;
      }
