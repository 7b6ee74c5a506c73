-- What the functions of `lines` promise: a text of document 01 stands at the buffer's start, later places are as before, and r says how many bytes it has.
use Rattle.std.specs.Prelude.{List, ℕ}
use Rattle.lines.specs.Lines.{too_long_line, inconsistent_line, refused_line, found_text}
use Rattle.lines.specs.Writing.{Written}

-- `too long`
abbrev pub WritesTooLong : List ℕ → List ℕ → ℕ → Type 0
WritesTooLong before after r = Written before too_long_line after r

-- `inconsistent`
abbrev pub WritesInconsistent : List ℕ → List ℕ → ℕ → Type 0
WritesInconsistent before after r = Written before inconsistent_line after r

-- `refused`, with the refusal's number and the offset
abbrev pub WritesRefused : ℕ → ℕ → List ℕ → List ℕ → ℕ → Type 0
WritesRefused number at before after r = Written before (refused_line number at) after r

-- `found`, with every variable's value and the objective values upwards
abbrev pub WritesFound : List ℕ → List ℕ → List ℕ → List ℕ → ℕ → Type 0
WritesFound values sorted before after r = Written before (found_text values sorted) after r
