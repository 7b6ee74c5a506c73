-- Whole numbers kept as natural ones, k more, and what the code does to them. Assumes nothing.
use mathlib.Core.Path.{◌≡◌, refl, ap, ap₂, ◌∙◌, subst⁻¹}
use mathlib.Core.List.{List, [], ◌∷◌, map, Memᴰ}
use Prim.Native.Nat.{ℕ, suc, ◌+◌, ◌-◌, ◌^◌, ◌≤◌, ◌<◌}
use native.Mathlib.Omega.{arith}
use borrow.Author.Tests.{lt-ltb, le-ltb}
use lib.IntN.{ℤ, pos, negsuc, nat_abs, ◌+ℤ◌}
use mir.Syntax.{w32}
use mir.Val.{SFits, hbits, to_z, of_z}
use mir.ValLaws.{to_z-of_z}
use Rattle.meaning.specs.Proper.{Around}
use Rattle.filters.specs.Layout.{shift, unshift}

-- what is kept says the number
pub unshift_shift : (k : ℕ) (z : ℤ) → Around k z → unshift k (shift k z) ≡ z
unshift_shift k (pos n) h = rw (le-ltb (k + n) k (omega arith)) (ap pos (omega arith))
unshift_shift k (negsuc n) h = rw (lt-ltb (k - suc n) k (omega arith)) (ap negsuc (omega arith))

pub unshift_all : (k : ℕ) (zs : List ℤ) → ((z : ℤ) → Memᴰ z zs → Around k z) → map (unshift k) (map (shift k) zs) ≡ zs
unshift_all k [] h = refl
unshift_all k (z ∷ zs) h = ap₂ ◌∷◌ (unshift_shift k z (h z (Memᴰ.head refl))) (unshift_all k zs (λ y m. h y (Memᴰ.tail m)))

-- ---- the code's sum and cast

shift_sum : (k : ℕ) (z : ℤ) → Around k z → z +ℤ pos k ≡ pos (shift k z)
shift_sum k (pos n) h = let e : n + k ≡ k + n = omega arith in ap pos e
shift_sum k (negsuc n) h = rw (le-ltb k (suc n) (omega arith))

pub shift_small : (k : ℕ) (z : ℤ) → Around k z → shift k z ≤ k + k
shift_small k (pos n) h = omega arith
shift_small k (negsuc n) h = omega arith

-- the code's number is z, by way of its 32 bits
module _ (k : ℕ) (z : ℤ) (fits : SFits w32 z) (near : Around k z) where
  total : ℤ
  total = to_z w32 (of_z w32 z) +ℤ pos k

  total_is : total ≡ pos (shift k z)
  unfolding total
  total_is = ap (λ (y : ℤ). y +ℤ pos k) (to_z-of_z w32 z fits) ∙ shift_sum k z near

  module _ (small : k + k < 2 ^ hbits w32) where
    pub sum_fits : SFits w32 (to_z w32 (of_z w32 z) +ℤ pos k)
    unfolding total
    sum_fits = subst⁻¹ (SFits w32) total_is (record { sfits = omega (arith, shift_small k z near) })

    whole : to_z w32 (of_z w32 (to_z w32 (of_z w32 z) +ℤ pos k)) ≡ pos (shift k z)
    unfolding total
    whole = to_z-of_z w32 total sum_fits ∙ total_is

    pub sum_kept : nat_abs (to_z w32 (of_z w32 (to_z w32 (of_z w32 z) +ℤ pos k))) ≡ shift k z
    sum_kept = ap nat_abs whole
