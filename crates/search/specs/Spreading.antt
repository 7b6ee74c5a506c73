-- Filtering by the rules that a change can touch.
use Rattle.std.specs.Prelude.{◌≡◌, Option, MatchOption, ℕ, ◌<◌, length, get_or}
use mathlib.Core.List.{List, Memᴰ}
use Rattle.meaning.specs.Limits.{variable_limit}
use Rattle.meaning.specs.Values.{Has, Lacks}
use Rattle.meaning.specs.Rules.{Rule, scope_of}
use Rattle.filters.specs.declared.Head.{Head}
use Rattle.filters.specs.Layout.{rule_at}
use Rattle.filters.specs.Filter.{ClosedBy, LargestIn, Toward}

-- for each variable the set of those of the first n rules that are on it
pub record Touching (heads : List Head) (room : List ℕ) (n : ℕ) (sets : List ℕ) : Type 0 where
  pub long : length sets ≡ variable_limit
  pub all : (k : ℕ) → k < n → (x : ℕ) → Memᴰ x (scope_of (rule_at heads room k)) → Has (get_or sets x 0) k
  pub only : (x k : ℕ) → Has (get_or sets x 0) k → k < n

-- variables, each below the limit
abbrev pub ScopeIn : List ℕ → Type 0
ScopeIn scope = (j : ℕ) → j < length scope → get_or scope j 0 < variable_limit

-- the sets with k in those of the scope's variables
pub record Noted (scope : List ℕ) (k : ℕ) (sets new : List ℕ) : Type 0 where
  pub long : length new ≡ length sets
  pub here : (x : ℕ) → Memᴰ x scope → Has (get_or new x 0) k
  pub kept : (x j : ℕ) → Has (get_or sets x 0) j → Has (get_or new x 0) j
  pub only : (x j : ℕ) → Has (get_or new x 0) j → ¬ (j ≡ k) → Has (get_or sets x 0) j

-- the lists are closed by every rule but those that are due
pub record Due (heads : List Head) (room L : List ℕ) (due : ℕ) : Type 0 where
  pub known : (k : ℕ) → Has due k → k < length heads
  pub others : (k : ℕ) → k < length heads → Lacks due k → ClosedBy (rule_at heads room k) L

-- a set of variables
abbrev pub InVariables : ℕ → Type 0
InVariables c = (x : ℕ) → Has c x → x < variable_limit

-- the rules on the changed variables, none of whose lists is empty
pub record Touched (sets L : List ℕ) (changed rules : ℕ) : Type 0 where
  pub all : (x k : ℕ) → Has changed x → Has (get_or sets x 0) k → Has rules k
  pub only : (k : ℕ) → Has rules k → (x : ℕ) × Has changed x × Has (get_or sets x 0) k
  pub alive : (x : ℕ) → Has changed x → ¬ (get_or L x 0 ≡ 0)

-- those rules, or none where the list of a changed variable is empty
abbrev pub AffectedBy : List ℕ → List ℕ → ℕ → Option ℕ → Type 0
AffectedBy sets L changed r = MatchOption r ((x : ℕ) × Has changed x × (get_or L x 0 ≡ 0)) (λ rules. Touched sets L changed rules)

-- L are the largest closed lists within B, and none has become empty
pub record Quiet (rules : List Rule) (B L : List ℕ) : Type 0 where
  pub largest : LargestIn rules B L
  pub alive : (x : ℕ) → get_or L x 0 ≡ 0 → get_or B x 0 ≡ 0

-- L are lists on the way there of which one has become empty
pub record Dry (rules : List Rule) (B L : List ℕ) : Type 0 where
  pub toward : Toward rules B L
  pub empty : (x : ℕ) × (get_or L x 0 ≡ 0) × ¬ (get_or B x 0 ≡ 0)

-- the largest closed lists, or none where a list becomes empty on the way there
abbrev pub Spread : List Rule → List ℕ → List ℕ → Option (Unit {0}) → Type 0
Spread rules B L r = MatchOption r (Dry rules B L) (λ _. Quiet rules B L)
