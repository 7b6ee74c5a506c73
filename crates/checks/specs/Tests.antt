-- What an added rule is tested for, in document 01's order, where so much stands.
use Rattle.std.specs.Prelude.{◌≡◌, Bool, not, ◌||◌, List, [], ◌∷◌, ℕ, ◌+◌, ◌*◌, ◌%◌, leb, ltb, eqb, ℤ, length, Result}
use Rattle.meaning.specs.Limits.{value_limit, rule_limit, room_limit, arity_limit, term_limit, coefficient_limit, bound_limit}
use Rattle.meaning.specs.Refusals.{Refusal, no_such_variable, variable_twice, wrong_length, out_of_range, tuple_twice, full, decided, first}
use Rattle.meaning.specs.Order.{outside}
use Rattle.meaning.specs.Calls.{some, same, repeats, beyond}
use Rattle.refusals.specs.declared.Refusal as Codes
use Rattle.refusals.specs.Numbers.{number_of}
use Rattle.tuples.specs.Rows.{tuples_in}
use Rattle.checks.specs.declared.Counts.{Counts}

-- there are no more rules, or no more room for so many numbers
abbrev pub overfull : Counts → ℕ → Bool
overfull n numbers = leb rule_limit n.rules || ltb room_limit (n.used + numbers)

-- a table over s whose tuples make the cells
abbrev pub table_tests : Counts → List ℕ → List ℕ → List (Bool × Refusal)
table_tests n s cells =
    (ltb 0 n.depth, decided)
    ∷ (outside arity_limit (length s) || not (eqb (length cells % length s) 0), wrong_length)
    ∷ (some (leb n.variables) s, no_such_variable)
    ∷ (repeats eqb s, variable_twice)
    ∷ (some (leb value_limit) cells, out_of_range)
    ∷ (repeats same (tuples_in (length s) cells), tuple_twice)
    ∷ (overfull n (length s + length cells), full)
    ∷ []

-- a linear rule over s with the coefficients cs and the bound b
abbrev pub linear_tests : Counts → List ℕ → List ℤ → ℤ → List (Bool × Refusal)
linear_tests n s cs b =
    (ltb 0 n.depth, decided)
    ∷ (outside term_limit (length s) || not (eqb (length cs) (length s)), wrong_length)
    ∷ (some (leb n.variables) s, no_such_variable)
    ∷ (repeats eqb s, variable_twice)
    ∷ (some (beyond coefficient_limit) cs || beyond bound_limit b, out_of_range)
    ∷ (overfull n (2 * length s + 1), full)
    ∷ []

-- r refuses the table, or the linear rule, by the first of its tests that holds, and accepts it where none does
abbrev pub TestsTable : Counts → List ℕ → List ℕ → Result Unit Codes.Refusal → Type 0
TestsTable n s cells r = number_of r ≡ first (table_tests n s cells)

abbrev pub TestsLinear : Counts → List ℕ → List ℤ → ℤ → Result Unit Codes.Refusal → Type 0
TestsLinear n s cs b r = number_of r ≡ first (linear_tests n s cs b)
