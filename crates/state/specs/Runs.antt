-- Runs of calls on a new state, refused ones included, by what the contracts say of each call and nothing else.
use Rattle.std.specs.Prelude.{List, [], ◌∷◌, ℕ}
use Rattle.meaning.specs.Standing.{nothing}
use Rattle.meaning.specs.Calls.{Call}
use Rattle.state.specs.declared.State.{State}
use Rattle.state.specs.Holds.{Holds}
use Rattle.state.specs.Promises.{Answers}

-- the calls, the latest first, and the state that they leave
pub data Run : List Call → State → Type 0 where
  start : {s : State} → Holds s nothing → Run [] s
  step : {h : List Call} {s t : State} (c : Call) (number : ℕ) → Run h s → Answers s c number t → Run (c ∷ h) t
