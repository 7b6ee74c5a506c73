-- A whole number that was read out of a slice. Assumes nothing.
use mathlib.Core.Path.{◌≡◌}
use Prim.Native.Nat.{◌^◌, ◌<◌}
use mir.Syntax.{w32}
use mir.Val.{hbits, to_z, of_z}
use mir.ValLaws.{to_z-of_z}
use lib.IntN.{ℤ}
use lib.Signed.{mag}

-- a number that was read out of a slice
pub as_read : (z : ℤ) → mag z < 2 ^ hbits w32 → to_z w32 (of_z w32 z) ≡ z
as_read z h = to_z-of_z w32 z (record { sfits = h })
