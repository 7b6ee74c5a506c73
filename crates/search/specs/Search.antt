-- The search: assignments within lists that meet every rule and reach the thresholds, and the first of them.
use Rattle.std.specs.Prelude.{◌≡◌, Option, MatchOption, ℕ, ◌≤◌, ◌<◌, length, get_or, take}
use mathlib.Core.List.{List, Memᴰ}
use Rattle.meaning.specs.Limits.{variable_limit, objective_limit}
use Rattle.meaning.specs.Rules.{Rule, scope_of, Satisfies, at, values_at}
use Rattle.meaning.specs.Order.{◌≺◌}
use Rattle.meaning.specs.Lists.{Left, Closed}
use Rattle.meaning.proofs.Greedy.{Reaches}
use Rattle.blocks.specs.Blocks.{block}
use Rattle.state.specs.declared.State.{State}
use Rattle.filters.specs.declared.Head.{Head}
use Rattle.filters.specs.Layout.{rules_at}
use Rattle.filters.specs.Held.{RulesOf}
use Rattle.state.specs.Holds.{Reached, heads_held}
use Rattle.search.specs.Spreading.{Touching}

-- a gives each of n variables a value left to it, meets every rule, and its objectives reach the thresholds y
pub record Meets (rules : List Rule) (objectives y : List ℕ) (n : ℕ) (L a : List ℕ) : Type 0 where
  pub long : length a ≡ n
  pub inside : (x : ℕ) → x < n → Left L x (at a x)
  pub right : (r : Rule) → Memᴰ r rules → Satisfies r a
  pub reaches : Reaches y (values_at a objectives)

-- a is the first that P holds of, by variable number, low values first
pub record FirstOf (P : List ℕ → Type 0) (a : List ℕ) : Type 0 where
  pub holds : P a
  pub first : (b : List ℕ) → P b → ¬ (b ≺ a)

-- out starts with the first rota within the lists L that meets the rules and reaches the thresholds, and every place past its n values is 0
pub record Found (rules : List Rule) (objectives y : List ℕ) (n : ℕ) (L out : List ℕ) : Type 0 where
  pub long : length out ≡ variable_limit
  pub past : (x : ℕ) → n ≤ x → get_or out x 0 ≡ 0
  pub first : FirstOf (Meets rules objectives y n L) (take n out)

-- what a search within the lists L answers: none where there is no such rota
abbrev pub Searched : List Rule → List ℕ → List ℕ → ℕ → List ℕ → Option (List ℕ) → Type 0
Searched rules objectives y n L r = MatchOption r ((a : List ℕ) → ¬ Meets rules objectives y n L a) (λ out. Found rules objectives y n L out)

-- r is the first rota within the lists that meets the rules and whose objectives reach the thresholds, or says that there is none
abbrev pub FirstReaching : List Head → List ℕ → List ℕ → ℕ → List ℕ → List ℕ → Option (List ℕ) → Type 0
FirstReaching heads room goals n lists floors r = Searched (rules_at heads room) goals floors n lists r

-- the rules, objectives and variables are those of a state that calls on a new state have left, and the lists those after its decisions
pub record Given (heads : List Head) (room goals : List ℕ) (n : ℕ) (L : List ℕ) : Type 0 where
  pub state : State
  pub reached : Reached state
  pub rules : heads_held state ≡ heads
  pub cells : state.room ≡ room
  pub objectives : take state.objectives state.objective ≡ goals
  pub variables : state.variables ≡ n
  pub lists : L ≡ block state.lists state.depth variable_limit

-- lists that a search goes on from: closed, none empty, and the greatest values left reach the thresholds
pub record Live (rules : List Rule) (objectives y : List ℕ) (n : ℕ) (L : List ℕ) : Type 0 where
  pub closed : Closed rules L
  pub some : (x : ℕ) → x < n → ¬ (get_or L x 0 ≡ 0)
  pub top : (a : List ℕ) → length a ≡ n → ((x : ℕ) → x < n → Left L x (at a x)) → ((x v : ℕ) → x < n → Left L x v → v ≤ at a x) → Reaches y (values_at a objectives)

-- what narrowing makes of lists: nothing is lost that meets all; the search goes on from them, or nothing meets all
pub record Sieved (rules : List Rule) (objectives y : List ℕ) (n : ℕ) (old : List ℕ) (r : Option (Unit {0})) (new : List ℕ) : Type 0 where
  pub long : length new ≡ length old
  pub within : (x v : ℕ) → Left new x v → Left old x v
  pub keeps : (a : List ℕ) → Meets rules objectives y n old a → Meets rules objectives y n new a
  pub answer : MatchOption r ((a : List ℕ) → ¬ Meets rules objectives y n old a) (λ _. Live rules objectives y n new)

-- the rules as they lie in the room, the sets of the rules on each variable, and the objectives, all on n variables
pub record Net (heads : List Head) (room touching goals : List ℕ) (n : ℕ) : Type 0 where
  pub held : RulesOf heads room
  pub sets : Touching heads room (length heads) touching
  pub variables : n ≤ variable_limit
  pub known : (r : Rule) → Memᴰ r (rules_at heads room) → (y : ℕ) → Memᴰ y (scope_of r) → y < n
  pub most : length goals ≤ objective_limit
  pub named : (y : ℕ) → Memᴰ y goals → y < n
