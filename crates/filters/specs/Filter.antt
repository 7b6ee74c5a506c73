-- What filtering makes of lists: by one rule, by a sweep over the rules in the order held, and to the end.
use Rattle.std.specs.Prelude.{◌≡◌, ◌⊎◌, ℕ, ◌≤◌, ◌<◌, length, get_or}
use mathlib.Core.List.{List, [], ◌∷◌, Memᴰ}
use Rattle.meaning.specs.Limits.{variable_limit}
use Rattle.meaning.specs.Values.{total, size}
use Rattle.meaning.specs.Rules.{Rule, scope_of}
use Rattle.meaning.specs.Lists.{Left, Supported, Closed}
use Rattle.meaning.specs.Proper.{ProperRule}
use Rattle.blocks.specs.Keeping.{Changed}
use Rattle.filters.specs.declared.Head.{Head}
use Rattle.filters.specs.Layout.{rule_at, rules_at}

-- K is what is left of L once every value without support in r is dropped
pub record Filtered (r : Rule) (L K : List ℕ) : Type 0 where
  pub long : length K ≡ length L
  pub kept : (x v : ℕ) → Left K x v → Left L x v
  pub supported : (x v : ℕ) → Memᴰ x (scope_of r) → Left K x v → Supported L r x v
  pub all : (x v : ℕ) → Left L x v → (Memᴰ x (scope_of r) → Supported L r x v) → Left K x v

-- every value left to r's variables has support in r
abbrev pub ClosedBy : Rule → List ℕ → Type 0
ClosedBy r L = (x : ℕ) → Memᴰ x (scope_of r) → (v : ℕ) → Left L x v → Supported L r x v

-- one sweep
pub data Swept : List Rule → List ℕ → List ℕ → Type 0 where
  none : {L : List ℕ} → Swept [] L L
  more : {r : Rule} {rs : List Rule} {L K M : List ℕ} → Filtered r L K → Swept rs K M → Swept (r ∷ rs) L M

-- how many values lists leave in all
abbrev pub weight : List ℕ → ℕ
weight L = total (λ x. size (get_or L x 0)) variable_limit

-- one sweep, with an answer that is 0 just where nothing is dropped
pub record Sweeping (rules : List Rule) (L K : List ℕ) (c : ℕ) : Type 0 where
  pub swept : Swept rules L K
  pub nothing : c ≡ 0 → K ≡ L
  pub something : 0 < c → weight K < weight L

-- L lies within B, and every closed family within B lies within it
pub record Toward (rules : List Rule) (B L : List ℕ) : Type 0 where
  pub long : length L ≡ length B
  pub within : (x v : ℕ) → Left L x v → Left B x v
  pub most : (K : List ℕ) → ((x v : ℕ) → Left K x v → Left B x v) → Closed rules K → (x v : ℕ) → Left K x v → Left L x v

-- L is the largest closed family within the lists B
pub record LargestIn (rules : List Rule) (B L : List ℕ) : Type 0 where
  pub long : length L ≡ length B
  pub within : (x v : ℕ) → Left L x v → Left B x v
  pub closed : Closed rules L
  pub most : (K : List ℕ) → ((x v : ℕ) → Left K x v → Left B x v) → Closed rules K → (x v : ℕ) → Left K x v → Left L x v

-- filtering by r, with the set of the variables whose lists change
pub record Filtering (r : Rule) (L K : List ℕ) (c : ℕ) : Type 0 where
  pub filtered : Filtered r L K
  pub changed : Changed L K c

-- what filtering by a rule asks
pub record Ready (r : Rule) (L : List ℕ) : Type 0 where
  pub lists : length L ≡ variable_limit
  pub proper : ProperRule variable_limit r

-- filtering by the k-th of some rules: where there is no such rule, or there aren't 32 lists, nothing changes
pub record FiltersBy (heads : List Head) (room : List ℕ) (k : ℕ) (L K : List ℕ) (c : ℕ) : Type 0 where
  pub by : k < length heads → length L ≡ variable_limit → Filtering (rule_at heads room k) L K c
  pub none : (length heads ≤ k) ⊎ ¬ (length L ≡ variable_limit) → (K ≡ L) × (c ≡ 0)

-- r are the largest lists within those given in which every value has support in each of the rules
abbrev pub SettlesLists : List Head → List ℕ → List ℕ → List ℕ → Type 0
SettlesLists heads room lists r = LargestIn (rules_at heads room) lists r
