-- The ways to choose values at all places but one, place by place. Assumes nothing.
use mathlib.Core.Path.{◌≡◌, refl, sym, ap, ◌∙◌}
use mathlib.Core.List.{List, [], ◌∷◌, ◌++◌}
use Prim.Native.Nat.{ℕ, zero, suc, ◌+◌, ◌*◌, ◌^◌, ◌≤◌, ◌<◌}
use native.Mathlib.Nat.{mul_assoc, mul-one, one-mul, mul-le-mul, pow-suc, pow-le-pow_right}
use native.Mathlib.Numerals.{add-one}
use native.Mathlib.Omega.{arith}
use lib.ListN.{length, get_or}
use Rattle.meaning.specs.Values.{size}
use Rattle.meaning.proofs.Sizes.{size_max}
use Rattle.meaning.proofs.Listed.{product, product_but}
use Rattle.filters.specs.Tables.{places}
use Rattle.filters.proofs.Places.{places_long}

product_more : (L s : List ℕ) (x : ℕ) → product L (s ++ (x ∷ [])) ≡ product L s * size (get_or L x 0)
product_more L [] x = mul-one (size (get_or L x 0)) ∙ sym (one-mul (size (get_or L x 0)))
product_more L (y ∷ s) x =
    ap (λ (n : ℕ). size (get_or L y 0) * n) (product_more L s x) ∙ sym (mul_assoc (size (get_or L y 0)) (product L s) (size (get_or L x 0)))

-- one more place than the j-th
but_other : (L s : List ℕ) (x j : ℕ) → ¬ (length s ≡ j) → product_but L (s ++ (x ∷ [])) j ≡ product_but L s j * size (get_or L x 0)
but_other L [] x zero d = absurd (d refl)
but_other L [] x (suc j) d = mul-one (size (get_or L x 0)) ∙ sym (one-mul (size (get_or L x 0)))
but_other L (y ∷ s) x zero d = product_more L s x
but_other L (y ∷ s) x (suc j) d =
    ap (λ (n : ℕ). size (get_or L y 0) * n) (but_other L s x j (λ e. d (ap suc e)))
    ∙ sym (mul_assoc (size (get_or L y 0)) (product_but L s j) (size (get_or L x 0)))

-- the j-th place itself
but_same : (L s : List ℕ) (x j : ℕ) → length s ≡ j → product_but L (s ++ (x ∷ [])) j ≡ product_but L s j
but_same L [] x zero e = refl
but_same L [] x (suc j) e = absurd (omega arith)
but_same L (y ∷ s) x zero e = absurd (omega arith)
but_same L (y ∷ s) x (suc j) e = ap (λ (n : ℕ). size (get_or L y 0) * n) (but_same L s x j (omega arith))

-- the ways of the first i places but the j-th; no more than 64 at each
pub record Ways (masks : List ℕ) (j i ways : ℕ) : Type 0 where
  pub product : ways ≡ product_but masks (places i) j
  pub few : ways ≤ 64 ^ i

module _ (masks : List ℕ) (j : ℕ) where
  pub ways_none : Ways masks j 0 1
  unfolding places
  ways_none = record { product = refl; few = omega arith }

  module _ (i ways : ℕ) (w : Ways masks j i ways) where
    pub ways_other : ¬ (i ≡ j) → Ways masks j (i + 1) (ways * size (get_or masks i 0))
    unfolding places
    ways_other d = rw add-one (record {
      product = ap (λ (n : ℕ). n * size (get_or masks i 0)) w.product ∙ sym (but_other masks (places i) i j (λ e. d (sym (places_long i) ∙ e)));
      few = rw (pow-suc 64 i) (mul-le-mul w.few (size_max (get_or masks i 0)));
    })

    pub ways_same : i ≡ j → Ways masks j (i + 1) ways
    unfolding places
    ways_same e = rw add-one (record {
      product = w.product ∙ sym (but_same masks (places i) i j (places_long i ∙ e));
      few = rw (pow-suc 64 i) (omega (arith, w.few));
    })

    -- so another factor fits
    pub ways_fit : i < 8 → ways * size (get_or masks i 0) < 2 ^ 64
    ways_fit h =
        let step = mul-le-mul w.few (size_max (get_or masks i 0)) in
        let most : 64 ^ i ≤ 64 ^ 7 = pow-le-pow_right {n = 64} (omega arith) {i = i} {j = 7} (omega arith) in
        omega arith
