-- A linear rule as it is kept: which of its values have support, by how near their terms are to their least.
use Rattle.std.specs.Prelude.{◌≡◌, ◌↔◌, List, map, ℕ, ◌+◌, ◌-◌, ◌*◌, ◌≤◌, ◌<◌, Option, Some, None, length, get_or}
use Rattle.meaning.specs.Limits.{coefficient_limit, bound_limit}
use Rattle.meaning.specs.Values.{Has}
use Rattle.meaning.specs.Rules.{Rule, linear, scope_of}
use Rattle.meaning.specs.Lists.{Left, Supported}
use Rattle.filters.specs.Layout.{unshift}

-- the rule with a scope, and with coefficients and a bound as they are kept
abbrev pub linear_of : List ℕ → List ℕ → ℕ → Rule
linear_of s ks bound = linear s (map (unshift coefficient_limit) ks) (unshift bound_limit bound)

-- what a kept coefficient is above 0 and below 0
abbrev pub rise : ℕ → ℕ
rise k = k - coefficient_limit

abbrev pub fall : ℕ → ℕ
fall k = coefficient_limit - k

-- at the value v, a term with the kept coefficient k is at most slack more than at any value of m
abbrev pub Near : ℕ → ℕ → ℕ → ℕ → Type 0
Near k m slack v = (w : ℕ) → Has m w → rise k * v + fall k * w ≤ slack + (rise k * w + fall k * v)

-- the same for the j-th variable of a scope, with its list and its kept coefficient
abbrev pub NearAt : List ℕ → List ℕ → List ℕ → ℕ → ℕ → ℕ → Type 0
NearAt L s ks slack j v = Near (get_or ks j 0) (get_or L (get_or s j 0) 0) slack v

-- whether any value has support, and then which: those whose term is within the slack of its least
pub record Leaves (r : Rule) (ks L : List ℕ) (slack : Option ℕ) : Type 0 where
  pub none : slack ≡ None → (j v : ℕ) → j < length (scope_of r) → Left L (get_or (scope_of r) j 0) v → ¬ Supported L r (get_or (scope_of r) j 0) v
  pub some : (n : ℕ) → slack ≡ Some n → (j v : ℕ) → j < length (scope_of r) → Left L (get_or (scope_of r) j 0) v
      → Supported L r (get_or (scope_of r) j 0) v ↔ NearAt L (scope_of r) ks n j v
