-- What the refusals see to: every rule that stands is proper, and no limit is passed.
use Rattle.std.specs.Prelude.{◌≡◌, ℕ, ◌≤◌, ◌<◌, length, ℤ, pos, negsuc}
use mathlib.Core.List.{List, [], ◌∷◌, Memᴰ}
use Rattle.meaning.specs.Limits.{value_limit, variable_limit, rule_limit, room_limit, arity_limit, term_limit, coefficient_limit, bound_limit, objective_limit, decision_limit}
use Rattle.meaning.specs.Rules.{Rule, allowed, forbidden, linear, scope_of}
use Rattle.meaning.specs.Standing.{Standing}
use Rattle.meaning.specs.Calls.{held}

-- no element stands twice
abbrev pub Distinct {ℓ} : {A : Type ℓ} → List A → Type ℓ
Distinct [] = Unit
Distinct (x ∷ xs) = (¬ Memᴰ x xs) × Distinct xs

pub record ProperTuples (arity : ℕ) (tuples : List (List ℕ)) : Type 0 where
  pub few : arity ≤ arity_limit
  pub long : (t : List ℕ) → Memᴰ t tuples → length t ≡ arity
  pub values : (t : List ℕ) → Memᴰ t tuples → (v : ℕ) → Memᴰ v t → v < value_limit
  pub once : Distinct tuples

-- between −k and k
abbrev pub Around : ℕ → ℤ → Type 0
Around k (pos n) = n ≤ k
Around k (negsuc n) = n < k

pub record ProperTerms (terms : ℕ) (cs : List ℤ) (b : ℤ) : Type 0 where
  pub few : terms ≤ term_limit
  pub long : length cs ≡ terms
  pub coefficients : (c : ℤ) → Memᴰ c cs → Around coefficient_limit c
  pub bound : Around bound_limit b

abbrev pub ProperParts : Rule → Type 0
ProperParts (allowed s ts) = ProperTuples (length s) ts
ProperParts (forbidden s ts) = ProperTuples (length s) ts
ProperParts (linear s cs b) = ProperTerms (length s) cs b

-- a rule on n variables
pub record ProperRule (n : ℕ) (r : Rule) : Type 0 where
  pub some : 0 < length (scope_of r)
  pub known : (x : ℕ) → Memᴰ x (scope_of r) → x < n
  pub once : Distinct (scope_of r)
  pub parts : ProperParts r

pub record Proper (w : Standing) : Type 0 where
  pub variables : length w.declared ≤ variable_limit
  pub count : length w.rules ≤ rule_limit
  pub room : held w.rules ≤ room_limit
  pub rules : (r : Rule) → Memᴰ r w.rules → ProperRule (length w.declared) r
  pub objectives : length w.objectives ≤ objective_limit
  pub named : (x : ℕ) → Memᴰ x w.objectives → x < length w.declared
  pub decisions : length w.decisions ≤ decision_limit
