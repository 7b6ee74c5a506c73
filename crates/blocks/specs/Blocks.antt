-- The blocks of lists: 32 lists for each number of decisions from 0 to 32.
use Rattle.std.specs.Prelude.{◌≡◌, List, [], ◌++◌, ℕ, ◌+◌, ◌-◌, ◌≤◌, length, get_or, set, take, replicate}
use Rattle.meaning.specs.Limits.{variable_limit, decision_limit}

-- the lists of n variables after k decisions
abbrev pub block : List (List ℕ) → ℕ → ℕ → List ℕ
block lists k n = take n (get_or lists k [])

abbrev pub block_count : ℕ
block_count = decision_limit + 1

-- there is a list for each variable after each number of decisions
pub record Whole (lists : List (List ℕ)) : Type 0 where
  pub deep : length lists ≡ block_count
  pub wide : (k : ℕ) → k ≤ decision_limit → length (get_or lists k []) ≡ variable_limit

-- the list of the variable x after k decisions, and 0 where there is no such place
abbrev pub list_after : List (List ℕ) → ℕ → ℕ → ℕ
list_after lists k x = get_or (get_or lists k []) x 0

-- r is that list
abbrev pub ListOf : List (List ℕ) → ℕ → ℕ → ℕ → Type 0
ListOf lists k x r = r ≡ list_after lists k x

-- r has the lists after k decisions
pub record Copied (lists : List (List ℕ)) (k : ℕ) (r : List ℕ) : Type 0 where
  pub long : length r ≡ variable_limit
  pub each : (x : ℕ) → get_or r x 0 ≡ list_after lists k x

-- `after` are the lists with `left` after k decisions, and all else as it was
abbrev pub PutLists : List (List ℕ) → ℕ → List ℕ → List (List ℕ) → Type 0
PutLists lists k left after = after ≡ set lists k left

-- empty lists for all variables
abbrev pub empty_block : List ℕ
empty_block = replicate variable_limit 0

-- the lists with those after more than k decisions empty
abbrev pub emptied_after : List (List ℕ) → ℕ → List (List ℕ)
emptied_after lists k = take (k + 1) lists ++ replicate (length lists - (k + 1)) empty_block

-- `after` are the lists with those after more than k decisions empty, and all else as it was
abbrev pub ClearedAfter : List (List ℕ) → ℕ → List (List ℕ) → Type 0
ClearedAfter lists k after = after ≡ emptied_after lists k
