-- Reading a token as a number, digit after digit. Assumes nothing.
use mathlib.Core.Path.{◌≡◌}
use mathlib.Core.Bool.{true}
use mathlib.Core.List.{List}
use Prim.Native.Nat.{ℕ, ◌+◌, ◌-◌, ◌*◌, ◌^◌, ◌<◌}
use native.Mathlib.Numerals.{add-one}
use native.Mathlib.Omega.{arith}
use lib.ListN.{length, get_or, take}
use Rattle.std.specs.List.{list_all}
use Rattle.std.proofs.lemmas.List.Folds.{list_all_more}
use Rattle.std.proofs.lemmas.List.Sums.{fold_more}
use Rattle.text.specs.Bytes.{is_digit}
use Rattle.text.specs.Tokens.{value_of}
use Rattle.text.proofs.Sorts.{digit_range}

-- the first i bytes of the token t are digits, and their value is v
pub record Digits (t : List ℕ) (i v : ℕ) : Type 0 where
  pub digits : list_all is_digit (take i t) ≡ true
  pub valued : v ≡ value_of (take i t)
  pub small : v < 10 ^ i

pub one_more : (t : List ℕ) (i v : ℕ) → Digits t i v → i < length t → is_digit (get_or t i 0) ≡ true → Digits t (i + 1) (v * 10 + (get_or t i 0 - 48))
unfolding value_of
one_more t i v r l e = record {
  digits = simp (list_all_more is_digit t i 0 l, r.digits, e);
  valued = let q = r.valued in rw (fold_more (λ v d. v * 10 + (d - 48)) 0 t i 0 l, ← q);
  small = let (a, b) = digit_range (get_or t i 0) e in let s = r.small in rw (add-one i) (omega arith);
}
