-- What a new state is, and what adding variables and naming objectives promise.
use Rattle.std.specs.Prelude.{List, ℕ, Result}
use Rattle.meaning.specs.Standing.{nothing}
use Rattle.meaning.specs.Calls.{add_variable, name_objectives}
use Rattle.refusals.specs.declared.Refusal.{Refusal}
use Rattle.refusals.specs.Numbers.{number_of}
use Rattle.state.specs.declared.State.{State}
use Rattle.state.specs.Holds.{Holds}
use Rattle.state.specs.Promises.{Answers}

-- a new state: nothing stands in it
abbrev pub IsNew : State → Type 0
IsNew s = Holds s nothing

-- adding a variable with the marked values gives the answer and leaves the state t
abbrev pub AddsVariable : State → ℕ → Result Unit Refusal → State → Type 0
AddsVariable s marks answer t = Answers s (add_variable marks) (number_of answer) t

-- naming these variables as the objectives gives the answer and leaves the state t
abbrev pub NamesObjectives : State → List ℕ → Result Unit Refusal → State → Type 0
NamesObjectives s variables answer t = Answers s (name_objectives variables) (number_of answer) t
