-- Tuples that lie one after the other in a list of cells, and whether one is among them.
use Rattle.std.specs.Prelude.{◌≡◌, Bool, List, ℕ, ◌/◌, length, take, drop}
use Rattle.meaning.specs.Calls.{rows, some, same}

-- the tuple at a place of the cells
abbrev pub tuple_at : ℕ → List ℕ → ℕ → List ℕ
tuple_at arity cells place = take arity (drop place cells)

-- the tuples that cells make, one after the other
abbrev pub tuples_in : ℕ → List ℕ → List (List ℕ)
tuples_in arity cells = rows (length cells / arity) arity cells

-- r says whether the two tuples are the same
abbrev pub AreSame : List ℕ → List ℕ → Bool → Type 0
AreSame t u r = r ≡ same t u

-- r says whether the tuple is one of those that the cells make, each of as many cells as it has
abbrev pub IsListed : List ℕ → List ℕ → Bool → Type 0
IsListed tuple cells r = r ≡ some (same tuple) (tuples_in (length tuple) cells)
