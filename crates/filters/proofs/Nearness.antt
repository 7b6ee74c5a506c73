-- The values of a list at which a term is near its least: all of them, those up to a place, or those from a place on. Assumes nothing.
use mathlib.Core.Path.{◌≡◌, ap, ◌∙◌}
use mathlib.Core.Logic.{◌↔◌, by_cases}
use Prim.Native.Nat.{ℕ, ◌+◌, ◌-◌, ◌*◌, ◌/◌, ◌^◌, ◌≤◌, ◌<◌}
use native.Mathlib.Nat.{mul-add, add-mul, mul_comm, mul-le-mul_left, zero-mul, le-div_iff_mul-le}
use native.Mathlib.Decide.{dec_lt}
use native.Mathlib.Omega.{arith}
use Rattle.meaning.specs.Limits.{coefficient_limit}
use Rattle.meaning.specs.Values.{Has}
use Rattle.meaning.proofs.Digits.{has_small}
use Rattle.meaning.proofs.Sets.{has_nonzero}
use Rattle.values.specs.Sets.{Lowest, Highest, First, AtOrAbove}
use Rattle.filters.specs.Linear.{rise, fall, Near}

-- ---- a product and a quotient

-- a weight times a distance that passes the slack
module _ (a d slack : ℕ) (past : slack < a * d) where
  pub weight_some : 0 < a
  weight_some = by_cases (dec_lt 0 a) (λ p. p) (λ f. absurd (go (omega arith)))
    where
      go : a ≡ 0 → ⊥
      go e = omega (arith, rw (e, zero-mul d) at past)

-- what a weight makes of two values, by their distance
within_iff : (a slack p q : ℕ) → 0 < a → p ≤ q → (q - p ≤ slack / a) ↔ (a * q ≤ slack + a * p)
within_iff a slack p q some l = (
  λ h. omega (arith, split, (le-div_iff_mul-le some).0 h),
  λ h. (le-div_iff_mul-le some).1 (omega (arith, split)),
)
  where
    split : a * q ≡ a * p + (q - p) * a
    split = let e : q ≡ p + (q - p) = omega arith in ap (λ (n : ℕ). a * n) e ∙ mul-add a p (q - p) ∙ ap (λ (n : ℕ). a * p + n) (mul_comm a (q - p))

pub nothing : {n : ℕ} (v : ℕ) → n ≡ 0 → n * v ≡ 0
nothing v e = rw (e, zero-mul v)

-- ---- the ends of a list

module _ (m lo hi : ℕ) (low : Lowest m lo) (high : Highest m hi) where
  pub from_low : (v : ℕ) → Has m v → lo ≤ v
  from_low v h = by_cases (dec_lt v lo) (λ l. let z = low.none v l in absurd (omega arith)) (λ f. omega arith)

  pub to_high : (v : ℕ) → Has m v → v ≤ hi
  to_high v h = by_cases (dec_lt hi v) (λ l. let z = high.none v l in absurd (omega arith)) (λ f. omega arith)

  module _ (k slack weight : ℕ) (is : weight ≡ rise k + fall k) where
    parts : (v : ℕ) → weight * v ≡ rise k * v + fall k * v
    parts v = ap (λ (n : ℕ). n * v) is ∙ add-mul (rise k) (fall k) v

    -- the whole list is near where its ends are
    pub near_all : weight * (hi - lo) ≤ slack → (v : ℕ) → Has m v → Near k m slack v
    near_all s v h w g =
        let r = rise k in
        let f = fall k in
        let d = hi - lo in
        let p : r * v ≤ r * (w + d) = mul-le-mul_left r (let a = to_high v h in let b = from_low w g in omega arith) in
        let q : f * w ≤ f * (v + d) = mul-le-mul_left f (let a = to_high w g in let b = from_low v h in omega arith) in
        omega (arith, mul-add r w d, mul-add f v d, parts d)

    module _ (mask : ℕ) (past : slack < weight * (hi - lo)) (v : ℕ) (here : Has m v) where
      near_iff : (p q : ℕ) → p ≤ q → (q - p ≤ slack / weight) ↔ (weight * q ≤ slack + weight * p)
      near_iff p q = within_iff weight slack p q (weight_some weight (hi - lo) slack past)

      -- a negative coefficient: from a place on
      pub near_above : k < coefficient_limit → AtOrAbove m (hi - slack / weight) mask → Has mask v ↔ Near k m slack v
      near_above neg above = (there, back)
        where
          none : (w : ℕ) → rise k * w ≡ 0
          none w = nothing w (omega arith)

          there : Has mask v → Near k m slack v
          there h w g =
              let l = by_cases (dec_lt v (hi - slack / weight)) (λ b. let z = above.below v b in absurd (omega arith)) (λ f. f) in
              let near = (near_iff v hi (to_high v here)).0 (omega arith) in
              let far = mul-le-mul_left (fall k) (to_high w g) in
              omega (arith, none v, none w, none hi, parts hi, parts v)

          back : Near k m slack v → Has mask v
          back n =
              let far = n hi (high.here (high.some (has_nonzero m v here))) in
              let near = (near_iff v hi (to_high v here)).1 (omega (arith, none v, none hi, parts hi, parts v)) in
              above.kept v (omega arith) ∙ here

      -- any other: up to a place
      pub near_first : coefficient_limit ≤ k → m < 2 ^ 64 → First (lo + slack / weight + 1) mask → Has mask v ↔ Near k m slack v
      near_first pos fit first = (there, back)
        where
          none : (w : ℕ) → fall k * w ≡ 0
          none w = nothing w (omega arith)

          there : Has mask v → Near k m slack v
          there h w g =
              let l = by_cases (dec_lt v (lo + slack / weight + 1)) (λ b. b) (λ f. let z = first.none v (omega arith) in absurd (omega arith)) in
              let near = (near_iff lo v (from_low v here)).0 (omega arith) in
              let far = mul-le-mul_left (rise k) (from_low w g) in
              omega (arith, none v, none w, none lo, parts lo, parts v)

          back : Near k m slack v → Has mask v
          back n =
              let far = n lo (low.here (low.some (has_nonzero m v here))) in
              let near = (near_iff lo v (from_low v here)).1 (omega (arith, none v, none lo, parts lo, parts v)) in
              first.here v (omega arith) (has_small m v fit here)
