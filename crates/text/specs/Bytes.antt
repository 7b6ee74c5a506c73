-- The four sorts of bytes in document 01.
use Rattle.std.specs.Prelude.{◌≡◌, Bool, true, false, ◌&&◌, ◌||◌, cond, ℕ, leb, eqb}
use Rattle.text.specs.declared.ByteSort.{ByteSort}
use Rattle.text.specs.declared.ByteSort.TheVariants.{Blank, Digit, Mark, Bad}

-- n is one of the numbers from low to high
abbrev pub within : ℕ → ℕ → ℕ → Bool
within low high n = leb low n && leb n high

unfoldable pub sort_of : ℕ → ByteSort
sort_of b =
    cond (eqb b 9 || (eqb b 10 || (eqb b 13 || eqb b 32))) Blank
    (cond (within 48 57 b) Digit
    (cond (within 33 126 b) Mark
    Bad))

-- r is the byte's sort
abbrev pub IsSortOf : ℕ → ByteSort → Type 0
IsSortOf byte r = r ≡ sort_of byte

-- an answer for each sort
abbrev pub by_sort : Bool → Bool → Bool → Bool → ByteSort → Bool
by_sort blank digit mark bad Blank = blank
by_sort blank digit mark bad Digit = digit
by_sort blank digit mark bad Mark = mark
by_sort blank digit mark bad Bad = bad

unfoldable pub is_blank : ℕ → Bool
is_blank b = by_sort true false false false (sort_of b)

unfoldable pub is_digit : ℕ → Bool
is_digit b = by_sort false true false false (sort_of b)

-- a digit or another mark
unfoldable pub is_visible : ℕ → Bool
is_visible b = by_sort false true true false (sort_of b)

unfoldable pub is_bad : ℕ → Bool
is_bad b = by_sort false false false true (sort_of b)
