-- A coefficient that is read out of a slice is in range where all are. Assumes nothing.
use mathlib.Core.Path.{refl, subst⁻¹}
use mathlib.Core.List.Memᴰ
use mathlib.Core.List.{List, [], ◌∷◌}
use Prim.Native.Nat.{ℕ, zero, suc, ◌^◌, ◌<◌}
use native.Mathlib.Omega.{arith}
use mir.Syntax.{w32}
use mir.Val.{hbits, to_z, of_z}
use lib.IntN.{ℤ, pos}
use lib.Signed.{mag}
use lib.ListN.{length, get_or}
use Rattle.meaning.specs.Limits.{coefficient_limit}
use Rattle.meaning.specs.Proper.{Around}
use Rattle.state.specs.Writing.{InRange}
use Rattle.arguments.proofs.Limits.{as_read}

module _ (cs : List ℤ) (j : ℕ) (fits : mag (get_or cs j (pos 0)) < 2 ^ hbits w32) where
  pub coefficient_near : InRange cs → j < length cs → Around coefficient_limit (to_z w32 (of_z w32 (get_or cs j (pos 0))))
  coefficient_near h k = subst⁻¹ (Around coefficient_limit) (as_read (get_or cs j (pos 0)) fits) (near cs j h k)
    where
      near : (cs : List ℤ) (j : ℕ) → InRange cs → j < length cs → Around coefficient_limit (get_or cs j (pos 0))
      near [] j h k = absurd (omega arith)
      near (c ∷ cs) zero h k = h c (Memᴰ.head refl)
      near (c ∷ cs) (suc j) h k = near cs j (λ y m. h y (Memᴰ.tail m)) (omega arith)
