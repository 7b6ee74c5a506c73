-- Lists sifted by a rule: the variable of each place in turn keeps some of its values.
use Rattle.std.specs.Prelude.{◌≡◌, ◌↔◌, ℕ, ◌<◌, length, get_or}
use mathlib.Core.List.{List, Memᴰ}
use Rattle.meaning.specs.Limits.{variable_limit}
use Rattle.meaning.specs.Lists.{Left}
use Rattle.meaning.specs.Proper.{Distinct}
use Rattle.blocks.specs.Keeping.{Changed}

-- distinct variables, each with a list
pub record Known (s L : List ℕ) : Type 0 where
  pub lists : length L ≡ variable_limit
  pub known : (x : ℕ) → Memᴰ x s → x < variable_limit
  pub once : Distinct s

-- K is L with just those values of x that P holds of, and c the set of the variables whose lists change
pub record Narrowed (L : List ℕ) (x : ℕ) (P : ℕ → Type 0) (K : List ℕ) (c : ℕ) : Type 0 where
  pub long : length K ≡ length L
  pub here : (v : ℕ) → Left K x v ↔ (Left L x v × P v)
  pub there : (y : ℕ) → ¬ (y ≡ x) → get_or K y 0 ≡ get_or L y 0
  pub changed : Changed L K c

-- K is L with, of the j-th of the first n variables of s, just those values that P j holds of
pub record Sifted (s : List ℕ) (n : ℕ) (P : ℕ → ℕ → Type 0) (L K : List ℕ) (c : ℕ) : Type 0 where
  pub long : length K ≡ length L
  pub passed : (j : ℕ) → j < n → (v : ℕ) → Left K (get_or s j 0) v ↔ (Left L (get_or s j 0) v × P j v)
  pub rest : (x : ℕ) → ((j : ℕ) → j < n → ¬ (x ≡ get_or s j 0)) → get_or K x 0 ≡ get_or L x 0
  pub changed : Changed L K c
