-- The refusals of the code in document 01's table, and the numbers that answers say.
use Rattle.std.specs.Prelude.{◌≡◌, List, ℕ, decimal, Result, Ok, Err}
use Rattle.meaning.specs.Refusals as Table
use Rattle.refusals.specs.declared.Refusal.{Refusal}
use Rattle.refusals.specs.declared.Refusal.TheVariants.{NoSuchVariable, VariableTwice, WrongLength, OutOfRange, TupleTwice, Full, Malformed, NotLeft, TooManyDecisions, TooDeep, ShortBuffer, NoObjective, Decided}

-- document 01's table
abbrev pub table_of : Refusal → Table.Refusal
table_of NoSuchVariable = Table.no_such_variable
table_of VariableTwice = Table.variable_twice
table_of WrongLength = Table.wrong_length
table_of OutOfRange = Table.out_of_range
table_of TupleTwice = Table.tuple_twice
table_of Full = Table.full
table_of Malformed = Table.malformed
table_of NotLeft = Table.not_left
table_of TooManyDecisions = Table.too_many_decisions
table_of TooDeep = Table.too_deep
table_of ShortBuffer = Table.short_buffer
table_of NoObjective = Table.no_objective
table_of Decided = Table.decided

-- r is the refusal's number in document 01's table
abbrev pub IsNumberOf : Refusal → ℕ → Type 0
IsNumberOf refusal r = r ≡ Table.number (table_of refusal)

-- what is printed of it: that number's digits
abbrev pub printed : Refusal → List ℕ
printed refusal = decimal (Table.number (table_of refusal))

-- the number that an answer says, 0 where the call is not refused
abbrev pub number_of : {A : Type 0} → Result A Refusal → ℕ
number_of (Ok a) = 0
number_of (Err r) = Table.number (table_of r)
