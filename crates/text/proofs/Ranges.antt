-- Numbers from a low one to a high one. Assumes nothing.
use mathlib.Core.Path.{◌≡◌, refl}
use mathlib.Core.Bool.{Bool, true, false, ◌&&◌, false≢true}
use Prim.Native.Nat.{ℕ, ◌≤◌}
use borrow.Author.Tests.{leb-true}
use lib.Dec.{leb}
use Rattle.text.specs.Bytes.{within}

pub and_true : (x y : Bool) → x && y ≡ true → (x ≡ true) × (y ≡ true)
and_true true y e = (refl, e)
and_true false y e = absurd (false≢true e)

pub lies : (low high n : ℕ) → within low high n ≡ true → (low ≤ n) × (n ≤ high)
lies low high n e = let (l, h) = and_true (leb low n) (leb n high) e in (leb-true low n l, leb-true n high h)
