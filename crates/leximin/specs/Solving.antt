-- What solving promises, and what it is made of.
use Rattle.std.specs.Prelude.{◌≡◌, Option, MatchOption, ℕ, suc, ◌≤◌, ◌<◌, length, get_or, take, Result, Ok, Err}
use mathlib.Core.List.{List, [], Memᴰ}
use Rattle.meaning.specs.Limits.{variable_limit, objective_limit}
use Rattle.meaning.specs.Rules.{Rule, values_at}
use Rattle.meaning.specs.Standing.{Standing}
use Rattle.meaning.specs.Solutions.{Answer, Inconsistent, written}
use Rattle.meaning.specs.Calls.{Call, solve_refusal}
use Rattle.meaning.specs.Histories.{Leaves}
use Rattle.meaning.proofs.Greedy.{Reaches, then}
use Rattle.state.specs.declared.State.{State}
use Rattle.leximin.specs.declared.Solved.{Solved}
use Rattle.leximin.specs.declared.Solved.TheVariants as Solveds
use Rattle.state.specs.Holds.{Holds}
use Rattle.refusals.specs.declared.Refusal.{Refusal}
use Rattle.refusals.specs.Numbers.{number_of}
use Rattle.search.specs.Search.{Meets, FirstOf}

-- the answer stands in the buffer
pub record Answered (w : Standing) (before after : List ℕ) : Type 0 where
  pub rota : List ℕ
  pub answer : Answer w rota
  pub buffer : after ≡ written rota before

-- there is none, and the buffer is as it was
pub record Unanswered (w : Standing) (before after : List ℕ) : Type 0 where
  pub none : Inconsistent w
  pub buffer : after ≡ before

-- what an outcome says of what stands, and of the buffer
abbrev pub Outcome : Standing → List ℕ → Result Solved Refusal → List ℕ → Type 0
Outcome w before (Ok Solveds.Found) after = Answered w before after
Outcome w before (Ok Solveds.Inconsistent) after = Unanswered w before after
Outcome w before (Err r) after = after ≡ before

pub record SolvedAs (w : Standing) (before : List ℕ) (r : Result Solved Refusal) (after : List ℕ) : Type 0 where
  pub number : number_of r ≡ solve_refusal w (length before)
  pub outcome : Outcome w before r after

-- Solving the state s with a buffer says r and leaves the buffer `after`, whatever stands in s.
abbrev pub Solves : State → List ℕ → Result Solved Refusal → List ℕ → Type 0
Solves s before r after = (h : List Call) (w : Standing) → Leaves h w → Holds s w → SolvedAs w before r after

-- ---- within the crate

-- the objectives, few enough, name variables
pub record Named (goals : List ℕ) : Type 0 where
  pub most : length goals ≤ objective_limit
  pub known : (x : ℕ) → Memᴰ x goals → x < variable_limit

-- a is the first that reaches some thresholds, and reaches a vector of which no place can be larger with the earlier ones fixed
pub record Best (rules : List Rule) (objectives : List ℕ) (n : ℕ) (L a : List ℕ) : Type 0 where
  pub thresholds : List ℕ
  pub vector : List ℕ
  pub few : length thresholds ≤ length objectives
  pub long : length vector ≡ length objectives
  pub first : FirstOf (Meets rules objectives thresholds n L) a
  pub reached : Reaches vector (values_at a objectives)
  pub largest : (i : ℕ) → i < length objectives → (b : List ℕ) → ¬ Meets rules objectives (then (take i vector) (suc (get_or vector i 0))) n L b

-- what raising the thresholds within the lists L comes to: the best rota, or none where nothing meets the rules
abbrev pub Climbed : List Rule → List ℕ → ℕ → List ℕ → Option (List ℕ) → Type 0
Climbed rules objectives n L r = MatchOption r ((a : List ℕ) → ¬ Meets rules objectives [] n L a) (λ out. Best rules objectives n L (take n out))

-- what is found is the answer of what stands; none where it is inconsistent
abbrev pub Settles : Standing → Option (List ℕ) → Type 0
Settles w r = MatchOption r (Inconsistent w) (λ out. Answer w (take (length w.declared) out))

abbrev pub SolvedBy : State → Option (List ℕ) → Type 0
SolvedBy s r = (h : List Call) (w : Standing) → Leaves h w → Holds s w → Settles w r
