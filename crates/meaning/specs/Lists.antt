-- The values left: the largest lists, within the declared values and the outstanding decisions, where every value has support.
use Rattle.std.specs.Prelude.{◌≡◌, ◌↔◌, ℕ, length, get_or}
use mathlib.Core.List.{List, Memᴰ}
use Rattle.meaning.specs.Values.{Has}
use Rattle.meaning.specs.Rules.{Rule, scope_of, Satisfies, at}
use Rattle.meaning.specs.Standing.{Standing, Decision, Permits}

-- Lists are a set of values for each variable. v is left to x:
abbrev pub Left : List ℕ → ℕ → ℕ → Type 0
Left L x v = Has (get_or L x 0) v

-- left values of r's other variables exist that, with v at x, satisfy r
pub record Supported (L : List ℕ) (r : Rule) (x v : ℕ) : Type 0 where
  pub by : List ℕ
  pub here : at by x ≡ v
  pub others : (y : ℕ) → Memᴰ y (scope_of r) → ¬ (y ≡ x) → Left L y (at by y)
  pub satisfied : Satisfies r by

-- every value left has support in every rule on its variable
abbrev pub Closed : List Rule → List ℕ → Type 0
Closed rules L =
    (r : Rule) → Memᴰ r rules → (x : ℕ) → Memᴰ x (scope_of r) → (v : ℕ) → Left L x v → Supported L r x v

-- L keeps to the declared values and to the outstanding decisions
pub record Within (w : Standing) (L : List ℕ) : Type 0 where
  pub declared : (x v : ℕ) → Left L x v → Left w.declared x v
  pub permitted : (x v : ℕ) → Left L x v → (d : Decision) → Memᴰ d w.decisions → Permits d x v

pub record Largest (w : Standing) (L : List ℕ) : Type 0 where
  pub long : length L ≡ length w.declared
  pub within : Within w L
  pub closed : Closed w.rules L
  pub most : (K : List ℕ) → Within w K → Closed w.rules K → (x v : ℕ) → Left K x v → Left L x v

-- C is what the decision d lets stay of L
pub record Cut (d : Decision) (L C : List ℕ) : Type 0 where
  pub long : length C ≡ length L
  pub stays : (x v : ℕ) → Left C x v ↔ (Left L x v × Permits d x v)
