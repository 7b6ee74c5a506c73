-- The lines that the program writes (document 01), as bytes. Fields are parted by one space, each line ends with byte 10.
use Rattle.std.specs.Prelude.{cond, ◌&&◌, List, [], ◌∷◌, ◌++◌, ℕ, zero, suc, ◌+◌, ◌/◌, ◌%◌, ltb, leb, length}
use Prim.Native.Char.{code}
use Prim.Native.String.{String}
use Prim.Native.String as text
use Rattle.meaning.specs.Limits.{variable_limit, objective_limit}

-- a text's bytes, by its letters' numbers
abbrev pub bytes : String → List ℕ
bytes text.[] = []
bytes (text.◌∷◌ c s) = code c ∷ bytes s

-- the last k decimal digits of n, or all where it has fewer
unfoldable pub spell : ℕ → ℕ → List ℕ
spell zero n = []
spell (suc k) n = cond (ltb n 10) ((48 + n) ∷ []) (spell k (n / 10) ++ ((48 + n % 10) ∷ []))

-- n's decimal digits, with no leading zero; a usize has at most 20
unfoldable pub decimal : ℕ → List ℕ
decimal n = spell 20 n

-- a number after one space
abbrev pub field : ℕ → List ℕ
field n = 32 ∷ decimal n

-- each number after one space
abbrev pub numbers : List ℕ → List ℕ
numbers [] = []
numbers (n ∷ ns) = field n ++ numbers ns

unfoldable pub too_long_line : List ℕ
too_long_line = bytes "too long\n"

unfoldable pub inconsistent_line : List ℕ
inconsistent_line = bytes "inconsistent\n"

-- the refusal's number and the offset
unfoldable pub refused_line : ℕ → ℕ → List ℕ
refused_line number at = bytes "refused" ++ field number ++ bytes " at" ++ field at ++ bytes "\n"

-- every variable's value, and the objective values upwards
unfoldable pub found_lines : List ℕ → List ℕ → List ℕ
found_lines values sorted = bytes "found\nvalues" ++ numbers values ++ bytes "\nsorted" ++ numbers sorted ++ bytes "\n"

-- nothing for more than 32 values or 16 objective values
unfoldable pub found_text : List ℕ → List ℕ → List ℕ
found_text values sorted =
    cond (leb (length values) variable_limit && leb (length sorted) objective_limit) (found_lines values sorted) []
