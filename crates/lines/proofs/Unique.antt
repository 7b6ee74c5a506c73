-- Any two results that a public contract of this crate allows are the same, the buffer and the count. Assumes nothing.
use mathlib.Core.Path.{◌≡◌, sym, ◌∙◌}
use mathlib.Core.List.{List}
use Prim.Native.Nat.{ℕ}
use Rattle.lines.specs.Writing.{Written}
use Rattle.lines.specs.Promises.{WritesTooLong, WritesInconsistent, WritesRefused, WritesFound}

-- any text
pub written_unique : (before text a b : List ℕ) (m n : ℕ) → Written before text a m → Written before text b n → (a ≡ b) × (m ≡ n)
written_unique before text a b m n x y = (x.is ∙ sym y.is, x.counted ∙ sym y.counted)

module _ (before a b : List ℕ) (m n : ℕ) where
  pub write_too_long_unique : WritesTooLong before a m → WritesTooLong before b n → (a ≡ b) × (m ≡ n)
  write_too_long_unique = written_unique before _ a b m n

  pub write_inconsistent_unique : WritesInconsistent before a m → WritesInconsistent before b n → (a ≡ b) × (m ≡ n)
  write_inconsistent_unique = written_unique before _ a b m n

  pub write_refused_unique : (number at : ℕ) → WritesRefused number at before a m → WritesRefused number at before b n → (a ≡ b) × (m ≡ n)
  write_refused_unique number at = written_unique before _ a b m n

  pub write_found_unique : (values sorted : List ℕ) → WritesFound values sorted before a m → WritesFound values sorted before b n → (a ≡ b) × (m ≡ n)
  write_found_unique values sorted = written_unique before _ a b m n
