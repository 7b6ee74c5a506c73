-- What adding a rule is made of: its tests, its place behind the others, and the lists that follow.
use Rattle.std.specs.Prelude.{◌≡◌, List, ℕ, ◌+◌, ◌*◌, ◌%◌, ◌≤◌, ◌<◌, ℤ, length, set}
use Rattle.meaning.specs.Limits.{variable_limit, rule_limit, room_limit, arity_limit, term_limit, bound_limit, objective_limit}
use Rattle.meaning.specs.Rules.{Rule}
use Rattle.meaning.specs.Standing.{Standing}
use Rattle.meaning.specs.Calls as Calls
use Rattle.meaning.specs.Calls.{Call, add_table, add_linear, refusal, held, with_rule}
use Rattle.meaning.specs.Histories.{Leaves}
use Rattle.meaning.specs.Proper.{Around}
use Rattle.blocks.specs.Blocks.{block, Whole}
use Rattle.checks.specs.declared.Counts.{Counts}
use Rattle.state.specs.declared.State.{State}
use Rattle.state.specs.declared.Sort.{Sort}
use Rattle.state.specs.declared.Sort.TheVariants.{Allow, Forbid}
use Rattle.filters.specs.declared.Kind.{Kind}
use Rattle.filters.specs.declared.Kind.TheVariants as Kinds
use Rattle.filters.specs.Layout.{no_head, heads_of, room_of, filled, padded, rule_at, rules_at}
use Rattle.filters.specs.Filter.{ClosedBy, LargestIn}
use Rattle.filters.specs.Held.{RulesOf}
use Rattle.state.specs.Writing.{InRange}
use Rattle.state.specs.Holds.{Holds, heads_held}

-- the kind of a table
abbrev pub kind_said : Sort → Kind
kind_said Allow = Kinds.Allow
kind_said Forbid = Kinds.Forbid

-- ---- the tests

-- how much stands in the state
abbrev pub counts_of : State → Counts
counts_of s = record { variables = s.variables; depth = s.depth; rules = s.rules; used = s.used }

-- so many variables, decisions and rules stand, and so much of the room is used
pub record Counted (n : Counts) (w : Standing) : Type 0 where
  pub variables : n.variables ≡ length w.declared
  pub depth : n.depth ≡ length w.decisions
  pub rules : n.rules ≡ length w.rules
  pub used : n.used ≡ held w.rules

-- the table may be added
pub record TableFits (depth rules used : ℕ) (s cells : List ℕ) : Type 0 where
  pub free : depth ≡ 0
  pub some : 0 < length s
  pub few : length s ≤ arity_limit
  pub whole : length cells % length s ≡ 0
  pub count : rules < rule_limit
  pub room : used + (length s + length cells) ≤ room_limit

pub record TableTested (n : Counts) (s cells : List ℕ) (number : ℕ) : Type 0 where
  pub right : (w : Standing) (L : List ℕ) (sort : Calls.Sort) → Counted n w → refusal w L (add_table sort s cells) ≡ number
  pub accepted : number ≡ 0 → TableFits n.depth n.rules n.used s cells

-- the linear rule may be added
pub record LinearFits (depth rules used : ℕ) (s : List ℕ) (cs : List ℤ) (b : ℤ) : Type 0 where
  pub free : depth ≡ 0
  pub some : 0 < length s
  pub few : length s ≤ term_limit
  pub long : length cs ≡ length s
  pub near : InRange cs
  pub bound : Around bound_limit b
  pub count : rules < rule_limit
  pub room : used + (2 * length s + 1) ≤ room_limit

pub record LinearTested (n : Counts) (s : List ℕ) (cs : List ℤ) (b : ℤ) (number : ℕ) : Type 0 where
  pub right : (w : Standing) (L : List ℕ) → Counted n w → refusal w L (add_linear s cs b) ≡ number
  pub accepted : number ≡ 0 → LinearFits n.depth n.rules n.used s cs b

-- ---- the rule's place

-- the state is laid out as w, with the lists l as they were
pub record LaidOut (t : State) (w : Standing) (l : List (List ℕ)) : Type 0 where
  pub variables : t.variables ≡ length w.declared
  pub declared : t.declared ≡ padded variable_limit w.declared
  pub rules : t.rules ≡ length w.rules
  pub heads : t.heads ≡ filled no_head rule_limit (heads_of 0 w.rules)
  pub used : t.used ≡ held w.rules
  pub room : t.room ≡ padded room_limit (room_of w.rules)
  pub objectives : t.objectives ≡ length w.objectives
  pub objective : t.objective ≡ padded objective_limit w.objectives
  pub depth : t.depth ≡ length w.decisions
  pub lists : t.lists ≡ l

abbrev pub Extends : State → Rule → State → Type 0
Extends s r t = (h : List Call) (w : Standing) → Leaves h w → Holds s w → LaidOut t (with_rule w r) s.lists

-- ---- the lists follow

-- the lists of depth 0 are closed by every rule but the k-th
pub record Followable (s : State) (k : ℕ) : Type 0 where
  pub held : RulesOf (heads_held s) s.room
  pub lists : Whole s.lists
  pub known : k < length (heads_held s)
  pub others : (j : ℕ) → j < length (heads_held s) → ¬ (j ≡ k) → ClosedBy (rule_at (heads_held s) s.room j) (block s.lists 0 variable_limit)

-- they are the largest closed lists within those
pub record Followed (s t : State) : Type 0 where
  pub left : List ℕ
  pub largest : LargestIn (rules_at (heads_held s) s.room) (block s.lists 0 variable_limit) left
  pub is : t ≡ record {
    variables = s.variables;
    declared = s.declared;
    rules = s.rules;
    heads = s.heads;
    used = s.used;
    room = s.room;
    objectives = s.objectives;
    objective = s.objective;
    depth = s.depth;
    lists = set s.lists 0 left;
  }
