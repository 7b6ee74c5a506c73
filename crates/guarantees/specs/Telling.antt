-- What values left and solving answer after any run of calls, and after a take-back in it. Histories have their latest call first.
use Rattle.std.specs.Prelude.{◌≡◌, cond, List, ℕ, ◌≤◌, ◌<◌, get_or, Result, Ok, Err}
use Rattle.meaning.specs.Standing.{Standing}
use Rattle.meaning.specs.Lists.{Largest}
use Rattle.meaning.specs.Calls.{Call, unknown, outstanding}
use Rattle.meaning.specs.TakingBack.{with_objectives, Stood}
use Rattle.refusals.specs.declared.Refusal.{Refusal}
use Rattle.refusals.specs.declared.Refusal.TheVariants.{NoSuchVariable}
use Rattle.state.specs.declared.State.{State}
use Rattle.state.specs.Runs.{Run}
use Rattle.decide.specs.Decisions.{TellsLeft}
use Rattle.leximin.specs.declared.Solved.{Solved}
use Rattle.leximin.specs.Solving.{Solves, SolvedAs}

-- refusal 1 where there is no variable x, and else x's list in L
abbrev pub list_of : Standing → List ℕ → ℕ → Result ℕ Refusal
list_of w L x = cond (unknown w x) (Err NoSuchVariable) (Ok (get_or L x 0))

-- Whatever the contracts let be told of the state s is right of w: the values left are those of the largest lists, and solving answers as it should.
pub record RightOf (s : State) (w : Standing) : Type 0 where
  pub left : (x : ℕ) (r : Result ℕ Refusal) → TellsLeft s x r → (L : List ℕ) → Largest w L → r ≡ list_of w L x
  pub solved : (before after : List ℕ) (r : Result Solved Refusal) → Solves s before r after → SolvedAs w before r after

-- The history h left w, and then a take-back to depth k, below the number outstanding, left the state t.
pub record Restores (h : List Call) (w : Standing) (k : ℕ) (t : State) : Type 0 where
  pub stood : Stood h w k
  -- before the (k + 1)-th decision was made the run passed a state, and what was told of its values left is told of t
  pub passed : (v : State) × Run stood.earlier v
  pub left : (x : ℕ) (v : State) → Run stood.earlier v → (r q : Result ℕ Refusal) → TellsLeft t x r → TellsLeft v x q → r ≡ q
  -- all that is told of t is right of what stood then, but for the objectives, which stay
  pub right : RightOf t (with_objectives stood.before w.objectives)

-- A run with the history h left the state s and w standing; then a take-back to depth k answered with the number and left t.
pub record TakenBack (h : List Call) (s : State) (w : Standing) (k number : ℕ) (t : State) : Type 0 where
  pub taken : k ≤ outstanding w → number ≡ 0
  pub fewer : k < outstanding w → Restores h w k t
  pub same : k ≡ outstanding w → t ≡ s
