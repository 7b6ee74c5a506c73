-- What a file means (document 01, "Reading wcsp"): its first fault, or the variables and tables that it adds, and what they leave standing.
use Rattle.std.specs.Prelude.{Bool, ◌||◌, List, [], ◌∷◌, map, ℕ, ◌+◌, ◌-◌, ◌*◌, ◌^◌, leb, ltb, eqb, length, get_or}
use Rattle.meaning.specs.Limits.{variable_limit, value_limit, rule_limit, room_limit, arity_limit}
use Rattle.meaning.specs.Refusals.{Refusal, no_such_variable, variable_twice, wrong_length, out_of_range, tuple_twice, full}
use Rattle.meaning.specs.Rules.{Rule}
use Rattle.meaning.specs.Standing.{Standing}
use Rattle.meaning.specs.Calls.{Call, Sort, add_variable, add_table, some, same, rule_listing}
use Rattle.filters.specs.Layout.{joined}
use Rattle.text.specs.Words.{token_start}
use Rattle.costs.specs.Costs.{same_said, sort_by}
use Rattle.reading.specs.Reading.{Reading, got, next, Tests, any_number, range, judged, number, name, several, ended, times}

pub record Header : Type 0 where
  pub variables : ℕ
  pub largest : ℕ
  pub constraints : ℕ

pub record Table : Type 0 where
  pub sort : Sort
  pub scope : List ℕ
  pub tuples : List (List ℕ)

pub record File : Type 0 where
  pub sizes : List ℕ
  pub tables : List Table

-- the room that tables take: a table of a variables and t tuples takes a + a·t
unfoldable pub taken : List Table → ℕ
taken [] = 0
taken (t ∷ ts) = length t.scope + length t.scope * length t.tuples + taken ts

-- ---- what each number is tested for; `before` are those of the same list that stand before it

abbrev pub size_tests : ℕ → List ℕ → Tests
size_tests largest before = range 1 out_of_range largest out_of_range

abbrev pub variable_tests : ℕ → List ℕ → Tests
variable_tests n before x = (leb n x, no_such_variable) ∷ (some (eqb x) before, variable_twice) ∷ []

-- each below its variable's size
abbrev pub value_tests : List ℕ → List ℕ → List ℕ → Tests
value_tests sizes scope before v = (leb (get_or sizes (get_or scope (length before) 0) 0) v, out_of_range) ∷ []

abbrev pub count_tests : ℕ → ℕ → Tests
count_tests used arity t = (ltb room_limit (used + (arity + arity * t)), full) ∷ []

abbrev pub tuple_tests : ℕ → ℕ → List (List ℕ) → List ℕ → List (Bool × Refusal)
tuple_tests default cost before values = (same_said default cost || some (same values) before, tuple_twice) ∷ []

-- ---- from left to right

module _ (text : List ℕ) where
  abbrev pub header : Reading Header
  header =
      next (name text 0) (λ _ p.
      next (number text (range 1 out_of_range variable_limit full) p) (λ n p.
      next (number text (range 1 out_of_range value_limit out_of_range) p) (λ k p.
      next (number text (range 0 full rule_limit full) p) (λ c p.
      next (number text any_number p) (λ _ p.
      got (record { variables = n; largest = k; constraints = c }) p)))))

  module _ (sizes : List ℕ) where
    -- a tuple, its values and its cost; its fault is reported at its first byte, after its cost is read
    abbrev pub tuple : List ℕ → ℕ → List (List ℕ) → ℕ → Reading (List ℕ)
    tuple scope default before at =
        next (several text (value_tests sizes scope) (length scope) at) (λ values p.
        next (number text any_number p) (λ cost p.
        judged (tuple_tests default cost before values) (token_start text at) (got values p)))

    -- a table, where the tables before it take some room
    abbrev pub table : List Table → ℕ → Reading Table
    table before at =
        next (number text (range 1 wrong_length arity_limit wrong_length) at) (λ a p.
        next (several text (variable_tests (length sizes)) a p) (λ scope p.
        next (number text any_number p) (λ default p.
        next (number text (count_tests (taken before) a) p) (λ t p.
        next (times (tuple scope default) t [] p) (λ ts p.
        got (record { sort = sort_by default; scope = scope; tuples = ts }) p)))))

  abbrev pub file : Reading File
  file =
      next header (λ h p.
      next (several text (size_tests h.largest) h.variables p) (λ sizes p.
      next (times (table sizes) h.constraints [] p) (λ ts p.
      next (ended text p) (λ _ p.
      got (record { sizes = sizes; tables = ts }) p))))

-- ---- the calls that an accepted file stands for, the latest first

-- a size s means the values 0 to s − 1
abbrev pub values_below : ℕ → ℕ
values_below s = 2 ^ s - 1

unfoldable pub variable_calls : List ℕ → List Call → List Call
variable_calls [] before = before
variable_calls (s ∷ sizes) before = variable_calls sizes (add_variable (values_below s) ∷ before)

abbrev pub table_call : Table → Call
table_call t = add_table t.sort t.scope (joined t.tuples)

unfoldable pub table_calls : List Table → List Call → List Call
table_calls [] before = before
table_calls (t ∷ ts) before = table_calls ts (table_call t ∷ before)

abbrev pub calls : File → List Call
calls f = table_calls f.tables (variable_calls f.sizes [])

-- ---- what these calls leave standing: a set of values for each size, a rule for each table, in file order, and nothing else

abbrev pub table_rule : Table → Rule
table_rule t = rule_listing t.sort t.scope t.tuples

abbrev pub standing_of : File → Standing
standing_of f = record { declared = map values_below f.sizes; rules = map table_rule f.tables; objectives = []; decisions = [] }
