-- What values left and solving answer after any run of calls, and after a take-back in it. Assumes nothing.
use mathlib.Core.Path.{◌≡◌, sym, ap, ◌∙◌}
use mathlib.Core.Bool.{Bool, true, false, cond}
use mathlib.Core.List.{List, [], ◌∷◌, ◌++◌}
use Prim.Native.Nat.{ℕ, ◌≤◌, ◌<◌}
use native.Mathlib.Omega.{arith}
use Rattle.meaning.specs.Refusals.{first}
use Rattle.meaning.specs.Standing.{Standing}
use Rattle.meaning.specs.Calls.{Call, take_back, unknown, outstanding, accepted}
use Rattle.meaning.specs.Histories.{Leaves, call}
use Rattle.meaning.specs.TakingBack.{making}
use Rattle.meaning.proofs.Steps.{objectives_largest}
use Rattle.meaning.proofs.Histories.{after_accepted}
use Rattle.meaning.proofs.TakingBack.{gives_what_stood}
use Rattle.refusals.specs.declared.Refusal.TheVariants.{NoSuchVariable}
use Rattle.refusals.proofs.Unique.{same_refusal, not_accepted}
use Rattle.state.specs.declared.State.{State}
use Rattle.state.specs.Promises.{Answers}
use Rattle.state.specs.Runs.{Run, step}
use Rattle.state.proofs.Runs.{run_stands, run_largest}
use Rattle.state.proofs.Unique.{holds_unique}
use Rattle.std.specs.Prelude.{Result, Ok, Err}
use Rattle.refusals.specs.declared.Refusal.{Refusal}
use Rattle.refusals.specs.Numbers.{number_of}
use Rattle.decide.specs.Decisions.{left_values}
use Rattle.desk.specs.DeskRuns.{DeskRun}
use Rattle.desk.proofs.Runs.{desk_run}
use Rattle.guarantees.specs.Telling.{RightOf, Restores, TakenBack}

-- ---- a run

-- the number and the values fix the answer
left_is : (unknown : Bool) (m : ℕ) (r : Result ℕ Refusal) → number_of r ≡ cond unknown 1 0 → left_values r ≡ m → r ≡ cond unknown (Err NoSuchVariable) (Ok m)
left_is true m (Ok n) e f = absurd (omega arith)
left_is true m (Err q) e f = ap Err (same_refusal q NoSuchVariable e)
left_is false m (Ok n) e f = ap Ok f
left_is false m (Err q) e f = not_accepted q e

-- after any run the values left are the largest lists of what the history leaves, and solving answers as of it
pub run_right : {h : List Call} {s : State} {w : Standing} → Run h s → Leaves h w → RightOf s w
unfolding first
run_right {h} {w} r l =
    let hold = run_stands w r l in
    record {
      left = λ x a told L most. let (e, f) = told h w L l hold most in left_is (unknown w x) _ a e f;
      solved = λ before after a solves. solves h w l hold;
    }

-- ---- a take-back in a run

-- the run passed through a state that the part of its history before a call left
run_passed : (later : List Call) (c : Call) {earlier : List Call} {s : State} → Run (later ++ c ∷ earlier) s → (v : State) × Run earlier v
run_passed [] c (step _ n r a) = (_, r)
run_passed (_ ∷ later) c (step _ n r a) = run_passed later c r

module _ {h : List Call} {s t : State} {w : Standing} {number : ℕ} (r : Run h s) (l : Leaves h w) (k : ℕ) (a : Answers s (take_back k) number t) where
  -- one call more, and it is accepted
  then : Run (take_back k ∷ h) t
  then = step (take_back k) number r a

  then_leaves : k ≤ outstanding w → Leaves (take_back k ∷ h) (accepted w (take_back k))
  then_leaves few = rw (after_accepted w [] (take_back k) ((gives_what_stood l k).taken few [])) at (call (take_back k) l (run_largest w r l))

  restores : k < outstanding w → Restores h w k t
  restores low =
      let was = (gives_what_stood l k).fewer low in
      let right = run_right then (rw was.back at (then_leaves (omega arith))) in
      record {
        stood = was;
        passed = run_passed was.later (making was.decision) (rw was.history at r);
        left = λ x v earlier b c now before.
            let most = run_largest was.before earlier was.leaves in
            right.left x b now _ (objectives_largest w.objectives most) ∙ sym ((run_right earlier was.leaves).left x c before _ most);
        right = right;
      }

  -- and after a take-back, what they were before the first decision that it dropped was made
  pub run_taken_back : TakenBack h s w k number t
  run_taken_back = record {
    taken = λ few. (a h w _ l (run_stands w r l) (run_largest w r l)).0 ∙ (gives_what_stood l k).taken few [];
    fewer = restores;
    same = λ e. holds_unique (run_stands w then (rw ((gives_what_stood l k).same e) at (then_leaves (omega arith)))) (run_stands w r l);
  }

-- ---- at the desk

pub desk_right : {h : List Call} {s : State} {w : Standing} → DeskRun h s → Leaves h w → RightOf s w
desk_right d = run_right (desk_run d)

pub desk_taken_back : {h : List Call} {s t : State} {w : Standing} {number : ℕ} → DeskRun h s → Leaves h w → (k : ℕ) → Answers s (take_back k) number t
    → TakenBack h s w k number t
desk_taken_back d = run_taken_back (desk_run d)
