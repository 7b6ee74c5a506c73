-- What pins, bans, taking back and the question for the values left promise.
use Rattle.std.specs.Prelude.{◌≡◌, Bool, List, [], ◌∷◌, ℕ, leb, eqb, get_or, set, Result, Ok, Err}
use Rattle.meaning.specs.Limits.{value_limit, decision_limit}
use Rattle.meaning.specs.Values.{bit}
use Rattle.meaning.specs.Refusals as Table
use Rattle.meaning.specs.Refusals.{first, no_such_variable, out_of_range, too_many_decisions, not_left}
use Rattle.meaning.specs.Standing.{Standing, Decision}
use Rattle.meaning.specs.Lists.{Largest, Cut}
use Rattle.meaning.specs.Calls.{Call, pin, ban, take_back, left_refusal, decide}
use Rattle.meaning.specs.Histories.{Leaves}
use Rattle.blocks.specs.Blocks.{list_after}
use Rattle.state.specs.declared.State.{State}
use Rattle.state.specs.Holds.{Holds}
use Rattle.state.specs.Promises.{Answers}
use Rattle.refusals.specs.declared.Refusal.{Refusal}
use Rattle.refusals.specs.Numbers.{number_of}

-- the set that an answer gives; none where it refuses
abbrev pub left_values : Result ℕ Refusal → ℕ
left_values (Ok m) = m
left_values (Err r) = 0

-- the pin that keeps the value v of the variable x gives the answer and leaves the state t
abbrev pub Pins : State → ℕ → ℕ → Result Unit Refusal → State → Type 0
Pins s x v answer t = Answers s (pin x v) (number_of answer) t

-- the ban that removes it gives the answer and leaves the state t
abbrev pub Bans : State → ℕ → ℕ → Result Unit Refusal → State → Type 0
Bans s x v answer t = Answers s (ban x v) (number_of answer) t

-- taking back to depth k gives the answer and leaves the state t
abbrev pub TakesBack : State → ℕ → Result Unit Refusal → State → Type 0
TakesBack s k answer t = Answers s (take_back k) (number_of answer) t

-- The question for x's values left answers with them, or with the refusal.
abbrev pub TellsLeft : State → ℕ → Result ℕ Refusal → Type 0
TellsLeft s x r =
    (h : List Call) (w : Standing) (L : List ℕ) → Leaves h w → Holds s w → Largest w L → (number_of r ≡ left_refusal w x) × (left_values r ≡ get_or L x 0)

-- ---- within the crate

-- what the state says is left to x
abbrev pub left_to : State → ℕ → ℕ
left_to s x = list_after s.lists s.depth x

-- the tests of a pin or a ban, by what the state says
abbrev pub tests_in : State → ℕ → ℕ → List (Bool × Table.Refusal)
tests_in s x v =
    (leb s.variables x, no_such_variable)
    ∷ (leb value_limit v, out_of_range)
    ∷ (leb decision_limit s.depth, too_many_decisions)
    ∷ (eqb (bit (left_to s x) v) 0, not_left)
    ∷ []

abbrev pub Tested : State → ℕ → ℕ → Result Unit Refusal → Type 0
Tested s x v r = number_of r ≡ first (tests_in s x v)

-- the state t holds what stands in s with one decision more, where that leaves `kept` of x's values and all of the others'
abbrev pub Narrowed : State → ℕ → ℕ → State → Type 0
Narrowed s x kept t =
    (h : List Call) (w : Standing) (L : List ℕ) (d : Decision) → Leaves h w → Holds s w → Largest w L → Cut d L (set L x kept) → Holds t (decide w d)

-- the tests give the answer; the state stays, or has the decision that leaves `kept` of x's values
abbrev pub Outcome : State → ℕ → ℕ → Result Unit Refusal → State → Type 0
Outcome s x kept (Ok a) t = Narrowed s x kept t
Outcome s x kept (Err r) t = t ≡ s

abbrev pub Decided : State → ℕ → ℕ → ℕ → Result Unit Refusal → State → Type 0
Decided s x v kept answer t = Tested s x v answer × Outcome s x kept answer t
