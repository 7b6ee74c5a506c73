-- What the functions of `values` promise. A set is below 2 ^ 64, and the value v is in it where its binary digit v, `bit`, is 1.
use Rattle.std.specs.Prelude.{◌≡◌, Bool, true, false, ℕ, ◌+◌, ◌-◌, ◌≤◌, ◌<◌, min}
use Rattle.meaning.specs.Limits.{value_limit}
use Rattle.meaning.specs.Values.{bit, Has, Lacks, size}

-- r says whether v is in m
pub record Tells (m v : ℕ) (r : Bool) : Type 0 where
  pub yes : r ≡ true → Has m v
  pub no : r ≡ false → Lacks m v

-- r says whether m has exactly one value
pub record TellsSingle (m : ℕ) (r : Bool) : Type 0 where
  pub yes : r ≡ true → size m ≡ 1
  pub no : r ≡ false → ¬ (size m ≡ 1)

-- v alone
pub record Alone (v r : ℕ) : Type 0 where
  pub here : v < value_limit → Has r v
  pub others : (w : ℕ) → ¬ (w ≡ v) → Lacks r w
  pub one : v < value_limit → size r ≡ 1
  pub empty : value_limit ≤ v → r ≡ 0

-- m with v taken away
pub record Removed (m v r : ℕ) : Type 0 where
  pub gone : Lacks r v
  pub kept : (w : ℕ) → ¬ (w ≡ v) → bit r w ≡ bit m w
  pub fewer : size r + bit m v ≡ size m

-- m with v put in
pub record Added (m v r : ℕ) : Type 0 where
  pub here : v < value_limit → Has r v
  pub kept : (w : ℕ) → ¬ (w ≡ v) → bit r w ≡ bit m w
  pub more : size r + bit m v ≡ size m + bit r v
  pub same : value_limit ≤ v → r ≡ m

-- the values that a and b share
pub record Shared (a b r : ℕ) : Type 0 where
  pub digit : (w : ℕ) → bit r w ≡ min (bit a w) (bit b w)

-- the values of a that are not in b
pub record Less (a b r : ℕ) : Type 0 where
  pub digit : (w : ℕ) → bit r w ≡ bit a w - bit b w

-- r is the least value of m; 64 where m is empty
pub record Lowest (m r : ℕ) : Type 0 where
  pub small : r ≤ value_limit
  pub some : 0 < m → r < value_limit
  pub here : r < value_limit → Has m r
  pub none : (w : ℕ) → w < r → Lacks m w

-- r is the greatest value of m; 64 where m is empty
pub record Highest (m r : ℕ) : Type 0 where
  pub small : r ≤ value_limit
  pub some : 0 < m → r < value_limit
  pub here : r < value_limit → Has m r
  pub none : (w : ℕ) → r < w → Lacks m w

-- m without its least value
pub record Dropped (m r : ℕ) : Type 0 where
  pub least : (v : ℕ) → Lowest m v → Removed m v r
  pub fewer : 0 < m → size r + 1 ≡ size m
  pub empty : m ≡ 0 → r ≡ 0

-- r is how many values m has
abbrev pub Counts : ℕ → ℕ → Type 0
Counts m r = r ≡ size m

-- the values of m from v on
pub record AtOrAbove (m v r : ℕ) : Type 0 where
  pub below : (w : ℕ) → w < v → Lacks r w
  pub kept : (w : ℕ) → v ≤ w → bit r w ≡ bit m w

-- the values below s
pub record First (s r : ℕ) : Type 0 where
  pub here : (w : ℕ) → w < s → w < value_limit → Has r w
  pub none : (w : ℕ) → s ≤ w → Lacks r w
