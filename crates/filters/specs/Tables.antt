-- Filtering by a table: its scope and its tuples, the lists of its variables side by side, and what a pass over its tuples finds.
use Rattle.std.specs.Prelude.{◌≡◌, List, [], ◌∷◌, ◌++◌, ℕ, zero, suc, ◌+◌, ◌*◌, ◌/◌, ◌^◌, ◌≤◌, ◌<◌, min, eqb, ltb, length, get_or}
use mathlib.Core.List.{Memᴰ}
use Rattle.std.specs.Int.Bits.{bit_or}
use Rattle.meaning.specs.Limits.{arity_limit, value_limit}
use Rattle.meaning.specs.Values.{bit}
use Rattle.meaning.specs.Calls.{rows}
use Rattle.meaning.proofs.Counting.{one}
use Rattle.meaning.proofs.Listed.{live_with, product_but}

-- ---- a scope and tuples

-- each number of a scope or a tuple is below a limit
abbrev pub Below : ℕ → List ℕ → Type 0
Below limit s = (j : ℕ) → j < length s → get_or s j 0 < limit

-- the tuples that cells make one after the other
abbrev pub pieces : ℕ → List ℕ → List (List ℕ)
pieces arity cells = rows (length cells / arity) arity cells

pub record Tuples (arity : ℕ) (ts : List (List ℕ)) : Type 0 where
  pub some : 0 < arity
  pub few : arity ≤ arity_limit
  pub long : (t : List ℕ) → Memᴰ t ts → length t ≡ arity
  pub small : (t : List ℕ) → Memᴰ t ts → Below value_limit t

-- ---- the lists side by side

-- the masks are the lists that L has for the first n variables of s, in the order of s
abbrev pub Gathered : List ℕ → List ℕ → ℕ → List ℕ → Type 0
Gathered L s n masks = (j : ℕ) → j < n → get_or masks j 0 ≡ get_or L (get_or s j 0) 0

-- so they are lists themselves, for variables 0 to n - 1
unfoldable pub places : ℕ → List ℕ
places zero = []
places (suc n) = places n ++ (n ∷ [])

-- ---- allowed tuples

-- M is O with each value of the tuple put in at its place
abbrev pub Marking : List ℕ → List ℕ → List ℕ → Type 0
Marking t O M = (j : ℕ) → j < length t → get_or M j 0 ≡ bit_or (get_or O j 0) (2 ^ get_or t j 0)

-- for each place the values that some live tuple has there
abbrev pub Marked : List ℕ → ℕ → List (List ℕ) → List ℕ → Type 0
Marked masks arity ts marked = (j : ℕ) → j < arity → (v : ℕ) → bit (get_or marked j 0) v ≡ min 1 (live_with masks (places arity) j v ts)

-- ---- forbidden tuples

-- for each of the first n places the number of ways to choose values at the others
abbrev pub Products : List ℕ → ℕ → List ℕ → Type 0
Products masks n ways = (j : ℕ) → j < n → get_or ways j 0 ≡ product_but masks (places n) j

-- so many of them as there are masks
pub record ProductsOf (masks ways : List ℕ) : Type 0 where
  pub long : length ways ≡ length masks
  pub each : Products masks (length masks) ways

-- where the count of the value v at the place j stands
abbrev pub cell : ℕ → ℕ → ℕ
cell j v = j * value_limit + v

-- C is O with each value of the tuple counted once more at its place
abbrev pub Tallying : List ℕ → List ℕ → List ℕ → Type 0
Tallying t O C =
    (j : ℕ) → j < length t → (v : ℕ) → v < value_limit → get_or C (cell j v) 0 ≡ get_or O (cell j v) 0 + one (eqb (get_or t j 0) v)

-- for each place and value the number of live tuples that have it there
abbrev pub Counted : List ℕ → ℕ → List (List ℕ) → List ℕ → Type 0
Counted masks arity ts counts =
    (j : ℕ) → j < arity → (v : ℕ) → v < value_limit → get_or counts (cell j v) 0 ≡ live_with masks (places arity) j v ts

-- room for the counts at so many places, all 0
pub record Blank (arity : ℕ) (counts : List ℕ) : Type 0 where
  pub long : arity * value_limit ≤ length counts
  pub zeros : (i : ℕ) → get_or counts i 0 ≡ 0

-- the values of m that are counted fewer than so many times at the place j
abbrev pub FewerAt : List ℕ → ℕ → ℕ → ℕ → ℕ → Type 0
FewerAt counts j limit m r = (v : ℕ) → bit r v ≡ min (bit m v) (one (ltb (get_or counts (cell j v) 0) limit))

-- for each place those of its mask that are counted there fewer times than there are ways to choose values at the others
abbrev pub Fewer : List ℕ → ℕ → List ℕ → List ℕ → Type 0
Fewer masks arity counts left = (j : ℕ) → j < arity → FewerAt counts j (product_but masks (places arity) j) (get_or masks j 0) (get_or left j 0)

-- for each place the values that counting leaves to it
pub record LeftBy (masks : List ℕ) (arity : ℕ) (ts : List (List ℕ)) (left : List ℕ) : Type 0 where
  pub counts : List ℕ
  pub counted : Counted masks arity ts counts
  pub fewer : Fewer masks arity counts left
