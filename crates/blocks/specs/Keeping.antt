-- Keeping a part of one variable's list.
use Rattle.std.specs.Prelude.{◌≡◌, ◌⊎◌, List, ℕ, ◌≤◌, ◌<◌, min, length, get_or}
use Rattle.meaning.specs.Limits.{variable_limit}
use Rattle.meaning.specs.Values.{bit, Has, Lacks}

-- the variables in the set c are those whose lists differ
pub record Changed (L K : List ℕ) (c : ℕ) : Type 0 where
  pub same : (x : ℕ) → Lacks c x → get_or K x 0 ≡ get_or L x 0
  pub other : (x : ℕ) → Has c x → ¬ (get_or K x 0 ≡ get_or L x 0)

-- K is L with just those values of x that are in the set m, and c the set of the variables whose lists change
pub record Kept (L : List ℕ) (x m : ℕ) (K : List ℕ) (c : ℕ) : Type 0 where
  pub long : length K ≡ length L
  pub here : (v : ℕ) → bit (get_or K x 0) v ≡ min (bit (get_or L x 0) v) (bit m v)
  pub there : (y : ℕ) → ¬ (y ≡ x) → get_or K y 0 ≡ get_or L y 0
  pub changed : Changed L K c

-- the same where there are 32 lists and x is one of the variables; nothing changes otherwise
pub record KeptIn (L : List ℕ) (x m : ℕ) (K : List ℕ) (c : ℕ) : Type 0 where
  pub kept : x < variable_limit → length L ≡ variable_limit → Kept L x m K c
  pub none : (variable_limit ≤ x) ⊎ ¬ (length L ≡ variable_limit) → (K ≡ L) × (c ≡ 0)
