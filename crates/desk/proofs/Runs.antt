-- Demand 3 at the desk: calls by value and calls on the state lent may be mixed, and the state holds what the whole history leaves standing. Assumes nothing.
use mathlib.Core.List.{List, ◌∷◌}
use Prim.Native.Nat.{ℕ, ◌≤◌}
use lib.ListN.{length}
use Rattle.meaning.specs.Standing.{Standing}
use Rattle.meaning.specs.Lists.{Largest}
use Rattle.meaning.specs.Calls.{Call, pin, ban, take_back}
use Rattle.meaning.specs.Histories.{Leaves}
use Rattle.state.specs.declared.State.{State}
use Rattle.std.specs.Prelude.{Result}
use Rattle.refusals.specs.declared.Refusal.{Refusal}
use Rattle.blocks.specs.Blocks.{block}
use Rattle.state.specs.Holds.{Holds, Reached, up_to}
use Rattle.refusals.specs.Numbers.{number_of}
use Rattle.decide.specs.Decisions.{Pins, Bans, TakesBack}
use Rattle.state.specs.Runs.{Run, start, step}
use Rattle.state.proofs.Runs.{run_reached, run_stands, run_largest, run_depths}
use Rattle.desk.specs.DeskRuns.{DeskRun, new, by_value, lent_pin, lent_ban, lent_take_back}

-- ---- one call more, on the state lent: s at entry, t at exit, and the answer r
pub pin_runs : {h : List Call} {s t : State} (x v : ℕ) (r : Result Unit Refusal) → Run h s → Pins s x v r t → Run (pin x v ∷ h) t
pin_runs x v r before promised = step (pin x v) (number_of r) before promised

pub ban_runs : {h : List Call} {s t : State} (x v : ℕ) (r : Result Unit Refusal) → Run h s → Bans s x v r t → Run (ban x v ∷ h) t
ban_runs x v r before promised = step (ban x v) (number_of r) before promised

pub take_back_runs : {h : List Call} {s t : State} (k : ℕ) (r : Result Unit Refusal) → Run h s → TakesBack s k r t → Run (take_back k ∷ h) t
take_back_runs k r before promised = step (take_back k) (number_of r) before promised

-- ---- every run at the desk is a run, so all that is known of runs is known of it
pub desk_run : {h : List Call} {s : State} → DeskRun h s → Run h s
desk_run (new hold) = start hold
desk_run (by_value c number d promised) = step c number (desk_run d) promised
desk_run (lent_pin x v r d promised) = pin_runs x v r (desk_run d) promised
desk_run (lent_ban x v r d promised) = ban_runs x v r (desk_run d) promised
desk_run (lent_take_back k r d promised) = take_back_runs k r (desk_run d) promised

-- the state may be lent to any call
pub desk_reached : {h : List Call} {s : State} → DeskRun h s → Reached s
desk_reached d = run_reached (desk_run d)

pub desk_stands : {h : List Call} {s : State} (w : Standing) → DeskRun h s → Leaves h w → Holds s w
desk_stands w d = run_stands w (desk_run d)

-- the lists left are the largest, and so are those after each of the outstanding decisions
pub desk_largest : {h : List Call} {s : State} (w : Standing) → DeskRun h s → Leaves h w → Largest w (block s.lists (length w.decisions) (length w.declared))
desk_largest w d = run_largest w (desk_run d)

pub desk_depths : {h : List Call} {s : State} (w : Standing) → DeskRun h s → Leaves h w → (k : ℕ) → k ≤ length w.decisions → Largest (up_to w k) (block s.lists k (length w.declared))
desk_depths w d = run_depths w (desk_run d)
