-- What it is for a state to hold what stands. Every place past the counts is 0 or the head of no rule, so that two states that hold the same are equal.
use Rattle.std.specs.Prelude.{◌≡◌, ◌⊎◌, List, ℕ, ◌≤◌, ◌<◌, length, take}
use Rattle.meaning.specs.Limits.{variable_limit, rule_limit, room_limit, objective_limit}
use Rattle.meaning.specs.Standing.{Standing}
use Rattle.meaning.specs.Lists.{Largest}
use Rattle.meaning.specs.Calls.{Call, held, with_decisions}
use Rattle.meaning.specs.Histories.{Leaves}
use Rattle.blocks.specs.Blocks.{block, list_after, Whole}
use Rattle.state.specs.declared.State.{State}
use Rattle.filters.specs.declared.Head.{Head}
use Rattle.filters.specs.Layout.{no_head, heads_of, room_of, filled, padded}

-- the heads of the rules that stand
abbrev pub heads_held : State → List Head
heads_held s = take s.rules s.heads

-- what stood after the first k decisions; a newly named objective vector stays
abbrev pub up_to : Standing → ℕ → Standing
up_to w k = with_decisions w (take k w.decisions)

pub record HoldsLists (lists : List (List ℕ)) (w : Standing) : Type 0 where
  pub whole : Whole lists
  pub left : (k : ℕ) → k ≤ length w.decisions → Largest (up_to w k) (block lists k (length w.declared))
  pub rest : (k x : ℕ) → x < variable_limit → (length w.declared ≤ x) ⊎ (length w.decisions < k) → list_after lists k x ≡ 0

pub record Holds (s : State) (w : Standing) : Type 0 where
  pub variables : s.variables ≡ length w.declared
  pub declared : s.declared ≡ padded variable_limit w.declared
  pub rules : s.rules ≡ length w.rules
  pub heads : s.heads ≡ filled no_head rule_limit (heads_of 0 w.rules)
  pub used : s.used ≡ held w.rules
  pub room : s.room ≡ padded room_limit (room_of w.rules)
  pub objectives : s.objectives ≡ length w.objectives
  pub objective : s.objective ≡ padded objective_limit w.objectives
  pub depth : s.depth ≡ length w.decisions
  pub lists : HoldsLists s.lists w

-- the state is one that calls on a new state have left
abbrev pub Reached : State → Type 0
Reached s = (h : List Call) × (w : Standing) × Leaves h w × Holds s w
