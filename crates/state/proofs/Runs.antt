-- Demand 3: after any run of calls the state holds what the history leaves standing, so its lists are the largest.
-- Assumes nothing.
use mathlib.Core.Path.{◌≡◌}
use mathlib.Core.List.{List, [], ◌∷◌}
use Prim.Native.Nat.{ℕ, ◌≤◌}
use lib.ListN.{length}
use Rattle.meaning.specs.Standing.{Standing, nothing}
use Rattle.meaning.specs.Lists.{Largest}
use Rattle.meaning.specs.Calls.{Call, after}
use Rattle.meaning.specs.Histories.{Leaves, none, call}
use Rattle.meaning.proofs.Histories.{leaves_unique}
use Rattle.state.specs.declared.State.{State}
use Rattle.blocks.specs.Blocks.{block}
use Rattle.state.specs.Holds.{Holds, Reached, up_to}
use Rattle.state.specs.Promises.{Answers}
use Rattle.state.specs.Runs.{Run, start, step}
use Rattle.state.proofs.Holding.{current}

pub run_holds : {h : List Call} {s : State} → Run h s → (w : Standing) × Leaves h w × Holds s w
run_holds (start hold) = (nothing, none, hold)
run_holds (step {h} c n r a) =
    let (w, l, hold) = run_holds r in
    let most = current hold in
    (after w _ c, call c l most, (a h w _ l hold most).1)

-- so every state that a run leaves may be lent to any call
pub run_reached : {h : List Call} {s : State} → Run h s → Reached s
run_reached {h} r = let (w, l, hold) = run_holds r in (h, w, l, hold)

-- whatever the history leaves standing, the state holds: counts, rules and objectives, and the lists left are the largest
pub run_stands : {h : List Call} {s : State} (w : Standing) → Run h s → Leaves h w → Holds s w
run_stands {h} {s} w r l =
    let (u, k, hold) = run_holds r in
    let e : u ≡ w = leaves_unique h k l in
    rw e at hold

pub run_largest : {h : List Call} {s : State} (w : Standing) → Run h s → Leaves h w → Largest w (block s.lists (length w.decisions) (length w.declared))
run_largest w r l = current (run_stands w r l)

-- and so are those that stood after each of the outstanding decisions
pub run_depths : {h : List Call} {s : State} (w : Standing) → Run h s → Leaves h w → (k : ℕ) → k ≤ length w.decisions
    → Largest (up_to w k) (block s.lists k (length w.declared))
run_depths w r l k few = (run_stands w r l).lists.left k few

-- and so may the state that one call more leaves
pub reached_after : {s t : State} {n : ℕ} (c : Call) → Reached s → Answers s c n t → Reached t
reached_after c (h, w, l, hold) a =
    let most = current hold in
    (c ∷ h, after w _ c, call c l most, (a h w _ l hold most).1)

pub reached_new : {s : State} → Holds s nothing → Reached s
reached_new hold = ([], nothing, none, hold)
