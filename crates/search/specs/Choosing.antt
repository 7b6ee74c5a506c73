-- Going through the values of the lowest open variable, and reading the answer off lists of one value each.
use Rattle.std.specs.Prelude.{◌≡◌, Bool, true, false, List, Option, ℕ, ◌≤◌, ◌<◌, nat_lt, position, length, get_or}
use Rattle.meaning.specs.Limits.{variable_limit}
use Rattle.meaning.specs.Values.{size}
use Rattle.meaning.specs.Lists.{Left}
use Rattle.values.specs.Sets.{Lowest}

-- no variable below x has two values left
abbrev pub Settled : List ℕ → ℕ → Type 0
Settled L x = (y : ℕ) → y < x → (v w : ℕ) → Left L y v → Left L y w → v ≡ w

-- x is the first of the lists with two values
pub record Opens (L : List ℕ) (x : ℕ) : Type 0 where
  pub inside : x < length L
  pub settled : Settled L x
  pub several : 1 < size (get_or L x 0)

-- the first of the lists with two values
abbrev pub FirstOpen : List ℕ → Option ℕ → Type 0
FirstOpen L r = r ≡ position (λ m. nat_lt 1 (size m)) L

-- the lowest value of each of the first n lists, and 0 past them
pub record Lows (L : List ℕ) (n : ℕ) (lows : List ℕ) : Type 0 where
  pub long : length lows ≡ variable_limit
  pub lowest : (x : ℕ) → x < n → Lowest (get_or L x 0) (get_or lows x 0)
  pub past : (x : ℕ) → n ≤ x → get_or lows x 0 ≡ 0

-- r says whether one of the lists is empty
pub record TellsEmpty (L : List ℕ) (r : Bool) : Type 0 where
  pub yes : r ≡ true → (x : ℕ) × (x < length L) × (get_or L x 0 ≡ 0)
  pub no : r ≡ false → (x : ℕ) → x < length L → ¬ (get_or L x 0 ≡ 0)
