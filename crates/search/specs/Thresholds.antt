-- Thresholds at a node of the search: how far the values left can reach, and what is dropped where none may be missed.
use Rattle.std.specs.Prelude.{◌≡◌, Option, MatchOption, ℕ, ◌≤◌, ◌<◌, length, get_or}
use mathlib.Core.List.{List, Memᴰ}
use Rattle.meaning.specs.Limits.{variable_limit, objective_limit}
use Rattle.meaning.specs.Rules.{at, values_at}
use Rattle.meaning.specs.Lists.{Left}
use Rattle.meaning.proofs.Greedy.{Reaches}
use Rattle.blocks.specs.Keeping.{Changed}

-- the objectives, few enough, are variables with lists
pub record Aims (goals L : List ℕ) : Type 0 where
  pub most : length goals ≤ objective_limit
  pub lists : length L ≡ variable_limit
  pub known : (j : ℕ) → j < length goals → get_or goals j 0 < variable_limit

-- none of their lists is empty
abbrev pub Open : List ℕ → List ℕ → Type 0
Open goals L = (j : ℕ) → j < length goals → ¬ (get_or L (get_or goals j 0) 0 ≡ 0)

-- the greatest value left to each of the first count objectives
pub record Tops (objective : List ℕ) (count : ℕ) (L tops : List ℕ) : Type 0 where
  pub here : (j : ℕ) → j < count → Left L (get_or objective j 0) (get_or tops j 0)
  pub most : (j v : ℕ) → j < count → Left L (get_or objective j 0) v → v ≤ get_or tops j 0

-- K is L but for values below the floor, of objectives whose tops reach it; c is the set of the variables whose lists change
pub record Lifted (objective : List ℕ) (count : ℕ) (tops : List ℕ) (floor : ℕ) (L K : List ℕ) (c : ℕ) : Type 0 where
  pub long : length K ≡ length L
  pub within : (x v : ℕ) → Left K x v → Left L x v
  pub high : (x v : ℕ) → floor ≤ v → Left L x v → Left K x v
  pub others : (x : ℕ) → ((j : ℕ) → j < count → floor ≤ get_or tops j 0 → ¬ (x ≡ get_or objective j 0)) → get_or K x 0 ≡ get_or L x 0
  pub changed : Changed L K c

-- a gives each objective a value left to it
abbrev pub Fits : List ℕ → List ℕ → List ℕ → Type 0
Fits objectives L a = (x : ℕ) → Memᴰ x objectives → Left L x (at a x)

-- where the thresholds y are within reach: the greatest values left in K reach them, and c is the set of the variables whose lists change
pub record Reached (objectives y L K : List ℕ) (c : ℕ) : Type 0 where
  pub changed : Changed L K c
  pub top : (a : List ℕ) → Fits objectives K a → ((x v : ℕ) → Memᴰ x objectives → Left K x v → v ≤ at a x) → Reaches y (values_at a objectives)

-- what the thresholds y make of lists: no assignment that reaches them loses a value, and no list becomes empty
pub record Raised (objectives y L : List ℕ) (r : Option ℕ) (K : List ℕ) : Type 0 where
  pub long : length K ≡ length L
  pub within : (x v : ℕ) → Left K x v → Left L x v
  pub some : (x : ℕ) → get_or K x 0 ≡ 0 → get_or L x 0 ≡ 0
  pub keeps : (a : List ℕ) → Fits objectives L a → Reaches y (values_at a objectives) → (x : ℕ) → Left L x (at a x) → Left K x (at a x)
  pub answer : MatchOption r ((a : List ℕ) → Fits objectives L a → ¬ Reaches y (values_at a objectives)) (λ c. Reached objectives y L K c)
