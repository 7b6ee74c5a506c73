-- A token that holds a bad byte is neither a number nor a name. Assumes nothing.
use mathlib.Core.Path.{◌≡◌, refl}
use mathlib.Core.Bool.{Bool, true, false, and-false, false≢true}
use mathlib.Core.List.{List}
use Prim.Native.Nat.{ℕ, ◌<◌}
use lib.ListN.{length, get_or}
use Rattle.std.proofs.lemmas.List.Folds.{list_all_at}
use Rattle.text.specs.declared.ByteSort.{ByteSort}
use Rattle.text.specs.declared.ByteSort.TheVariants.{Blank, Digit, Mark, Bad}
use Rattle.text.specs.Bytes.{by_sort, sort_of, is_digit, is_visible, is_bad}
use Rattle.text.specs.Tokens.{is_number, is_name}

-- where bad bytes get the answer false, a bad byte does
bad_answer : (blank digit mark : Bool) (s : ByteSort) → by_sort false false false true s ≡ true → by_sort blank digit mark false s ≡ false
bad_answer blank digit mark Blank e = absurd (false≢true e)
bad_answer blank digit mark Digit e = absurd (false≢true e)
bad_answer blank digit mark Mark e = absurd (false≢true e)
bad_answer blank digit mark Bad e = refl

module _ (t : List ℕ) (i : ℕ) (within : i < length t) (bad : is_bad (get_or t i 0) ≡ true) where
  pub bad_no_number : is_number t ≡ false
  unfolding is_number is_digit is_bad
  bad_no_number = simp (list_all_at is_digit t i 0 within (bad_answer false true false (sort_of (get_or t i 0)) bad), and-false)

  pub bad_no_name : is_name t ≡ false
  unfolding is_name is_visible is_bad
  bad_no_name = simp (list_all_at is_visible t i 0 within (bad_answer false true true (sort_of (get_or t i 0)) bad), and-false)
