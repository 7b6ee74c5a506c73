-- Runs of calls at the desk, refused ones included: each is made by value or on the state lent, by what its contract says and nothing else.
use Rattle.std.specs.Prelude.{List, [], ◌∷◌, ℕ, Result}
use Rattle.meaning.specs.Standing.{nothing}
use Rattle.meaning.specs.Calls.{Call, pin, ban, take_back}
use Rattle.state.specs.declared.State.{State}
use Rattle.refusals.specs.declared.Refusal.{Refusal}
use Rattle.state.specs.Holds.{Holds}
use Rattle.state.specs.Promises.{Answers}
use Rattle.decide.specs.Decisions.{Pins, Bans, TakesBack}

-- the calls, the latest first, and the state that they leave; of a call on the state lent, s is the state at entry and t at exit
pub data DeskRun : List Call → State → Type 0 where
  new : {s : State} → Holds s nothing → DeskRun [] s
  by_value : {h : List Call} {s t : State} (c : Call) (number : ℕ) → DeskRun h s → Answers s c number t → DeskRun (c ∷ h) t
  lent_pin : {h : List Call} {s t : State} (x v : ℕ) (r : Result Unit Refusal) → DeskRun h s → Pins s x v r t → DeskRun (pin x v ∷ h) t
  lent_ban : {h : List Call} {s t : State} (x v : ℕ) (r : Result Unit Refusal) → DeskRun h s → Bans s x v r t → DeskRun (ban x v ∷ h) t
  lent_take_back : {h : List Call} {s t : State} (k : ℕ) (r : Result Unit Refusal) → DeskRun h s → TakesBack s k r t → DeskRun (take_back k ∷ h) t
