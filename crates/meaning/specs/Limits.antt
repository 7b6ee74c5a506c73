-- Every limit of document 01, once, under its name.
use Rattle.std.specs.Prelude.{ℕ}

-- a value is below it
abbrev pub value_limit : ℕ
value_limit = 64

-- at most so many variables and rules, and so many numbers of room for the rules
abbrev pub variable_limit : ℕ
variable_limit = 32

abbrev pub rule_limit : ℕ
rule_limit = 48

abbrev pub room_limit : ℕ
room_limit = 4096

-- a table has at most so many variables, a linear rule so many terms
abbrev pub arity_limit : ℕ
arity_limit = 8

abbrev pub term_limit : ℕ
term_limit = 32

-- a coefficient and a bound lie between minus this and this
abbrev pub coefficient_limit : ℕ
coefficient_limit = 1000

abbrev pub bound_limit : ℕ
bound_limit = 5000000

-- at most so many objectives, and outstanding decisions
abbrev pub objective_limit : ℕ
objective_limit = 16

abbrev pub decision_limit : ℕ
decision_limit = 32
