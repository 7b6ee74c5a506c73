-- Demand 1 for a new state, its variables and its objectives: two results that a public contract allows are equal. Assumes nothing.
use mathlib.Core.Path.{◌≡◌}
use mathlib.Core.List.{List}
use Prim.Native.Nat.{ℕ}
use Rattle.meaning.specs.Calls.{add_variable, name_objectives}
use Rattle.std.specs.Prelude.{Result}
use Rattle.refusals.specs.declared.Refusal.{Refusal}
use Rattle.state.specs.declared.State.{State}
use Rattle.state.specs.Holds.{Reached}
use Rattle.state.proofs.Unique.{holds_unique, answers_unique}
use Rattle.setup.specs.Promises.{IsNew, AddsVariable, NamesObjectives}

pub new_unique : {s t : State} → IsNew s → IsNew t → s ≡ t
new_unique = holds_unique

module _ {s : State} (reached : Reached s) (a b : Result Unit Refusal) {t u : State} where
  pub add_variable_unique : (marks : ℕ) → AddsVariable s marks a t → AddsVariable s marks b u → (a ≡ b) × (t ≡ u)
  add_variable_unique marks = answers_unique reached (add_variable marks)

  pub name_objectives_unique : (variables : List ℕ) → NamesObjectives s variables a t → NamesObjectives s variables b u → (a ≡ b) × (t ≡ u)
  name_objectives_unique variables = answers_unique reached (name_objectives variables)
