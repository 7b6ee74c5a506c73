-- The table of refusals (document 01, "What the numbers mean").
use Rattle.std.specs.Prelude.{Bool, cond, List, [], ◌∷◌, ℕ}

pub data Refusal : Type 0 where
  no_such_variable variable_twice wrong_length out_of_range tuple_twice full malformed : Refusal
  not_left too_many_decisions too_deep short_buffer no_objective decided : Refusal

abbrev pub number : Refusal → ℕ
number no_such_variable = 1  -- a variable number isn't below the count
number variable_twice = 2  -- a variable stands twice in one constraint
number wrong_length = 3  -- arity, number of terms or objective length out of range; list lengths that don't fit the arity
number out_of_range = 4  -- a value, coefficient, bound or domain size out of range; in a file, also 0 variables
number tuple_twice = 5  -- a tuple twice in one table; in a file, also a tuple whose cost says what the default says
number full = 6  -- more than 32 variables, 48 constraints or 4,096 numbers would be held
number malformed = 7  -- file text malformed, ended too soon, or going on after its end
number not_left = 8  -- pin or ban of a value not left
number too_many_decisions = 9  -- pin or ban with 32 outstanding
number too_deep = 10  -- take-back to a depth above the number outstanding
number short_buffer = 11  -- output buffer shorter than the number of variables
number no_objective = 12  -- solving before an objective vector is named
number decided = 13  -- adding a variable or constraint with decisions outstanding

-- the number of the first test that holds, in the order given; 0 where none does: the call is accepted
unfoldable pub first : List (Bool × Refusal) → ℕ
first [] = 0
first (t ∷ ts) = cond t.0 (number t.1) (first ts)
