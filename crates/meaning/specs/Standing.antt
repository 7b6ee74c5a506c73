-- What stands: the declared values of each variable, the rules, the objective vector and the outstanding decisions.
use Rattle.std.specs.Prelude.{◌≡◌, List, [], ℕ}
use Rattle.meaning.specs.Rules.{Rule}

pub data Decision : Type 0 where
  pinned : (variable value : ℕ) → Decision
  banned : (variable value : ℕ) → Decision

-- the decision lets the variable x have the value v
abbrev pub Permits : Decision → ℕ → ℕ → Type 0
Permits (pinned y u) x v = x ≡ y → v ≡ u
Permits (banned y u) x v = x ≡ y → ¬ (v ≡ u)

pub record Standing : Type 0 where
  pub declared : List ℕ  -- a set of values for each variable
  pub rules : List Rule  -- in the order held
  pub objectives : List ℕ  -- variable numbers; empty where none are named
  pub decisions : List Decision  -- oldest first

abbrev pub nothing : Standing
nothing = record { declared = []; rules = []; objectives = []; decisions = [] }
