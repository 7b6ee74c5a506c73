-- Digits are the bytes from 48 to 57. Assumes nothing.
use mathlib.Core.Path.{◌≡◌, refl}
use mathlib.Core.Bool.{Bool, true, false, ◌||◌, cond, false≢true}
use Prim.Native.Nat.{ℕ, ◌≤◌}
use lib.Dec.{eqb}
use Rattle.text.specs.declared.ByteSort.TheVariants.{Blank, Digit, Mark, Bad}
use Rattle.text.specs.Bytes.{within, sort_of, by_sort, is_digit}
use Rattle.text.proofs.Ranges.{lies}

pub digit_range : (b : ℕ) → is_digit b ≡ true → (48 ≤ b) × (b ≤ 57)
unfolding is_digit sort_of
digit_range b e = lies 48 57 b (go (eqb b 9 || (eqb b 10 || (eqb b 13 || eqb b 32))) (within 48 57 b) (within 33 126 b) e)
  where
    go : (x y z : Bool) → by_sort false true false false (cond x Blank (cond y Digit (cond z Mark Bad))) ≡ true → y ≡ true
    go true y z e = absurd (false≢true e)
    go false true z e = refl
    go false false true e = absurd (false≢true e)
    go false false false e = absurd (false≢true e)
