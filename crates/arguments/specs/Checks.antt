-- What the checks of a call's arguments speak of besides document 01's tests.
use Rattle.std.specs.Prelude.{Bool, List, ℕ, ◌+◌, drop}
use Rattle.meaning.specs.Calls.{some, same}
use Rattle.tuples.specs.Rows.{tuple_at, tuples_in}

-- the tuple at a place stands again after it
abbrev pub listed_again : ℕ → List ℕ → ℕ → Bool
listed_again arity cells place = some (same (tuple_at arity cells place)) (tuples_in arity (drop (place + arity) cells))
