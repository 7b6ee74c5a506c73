-- Any two results that a public contract of this crate allows are the same. A reader's methods promise of its text and place what `read_number` and
-- `read_name` promise of theirs. Assumes nothing.
use mathlib.Core.Path.{◌≡◌, sym, ◌∙◌}
use mathlib.Core.List.{List}
use Prim.Native.Nat.{ℕ}
use Rattle.text.specs.declared.ByteSort.{ByteSort}
use Rattle.std.specs.Prelude.{Result}
use Rattle.text.specs.declared.Number.{Number}
use Rattle.text.specs.declared.Malformed.{Malformed}
use Rattle.text.specs.Bytes.{IsSortOf}
use Rattle.text.specs.Words.{SkipsBlanks}
use Rattle.text.specs.Tokens.{ReadsNumber, ReadsName}

pub sort_of_unique : (byte : ℕ) (r s : ByteSort) → IsSortOf byte r → IsSortOf byte s → r ≡ s
sort_of_unique byte r s h k = h ∙ sym k

module _ (text : List ℕ) (at : ℕ) where
  pub skip_blanks_unique : (r s : ℕ) → SkipsBlanks text at r → SkipsBlanks text at s → r ≡ s
  skip_blanks_unique r s h k = h ∙ sym k

  pub read_number_unique : (r s : Result Number Malformed) → ReadsNumber text at r → ReadsNumber text at s → r ≡ s
  read_number_unique r s h k = h ∙ sym k

  pub read_name_unique : (r s : Result ℕ Malformed) → ReadsName text at r → ReadsName text at s → r ≡ s
  read_name_unique r s h k = h ∙ sym k
