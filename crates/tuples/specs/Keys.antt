-- Keys of tuples.
use Rattle.std.specs.Prelude.{◌≡◌, Bool, true, false, ℕ, ◌+◌, ◌*◌, ◌%◌, ◌<◌, get_or}
use mathlib.Core.List.{List, [], ◌∷◌, Memᴰ}

abbrev pub key_limit : ℕ
key_limit = 16384

-- a key of a tuple, from a key of what stands before it: the same tuples have the same key
unfoldable pub key_from : ℕ → List ℕ → ℕ
key_from key [] = key
key_from key (v ∷ t) = key_from ((key * 67 + v) % key_limit) t

-- r is the tuple's key, one of 16,384
abbrev pub KeyOf : List ℕ → ℕ → Type 0
KeyOf tuple r = (r ≡ key_from 0 tuple) × (r < key_limit)

-- the key of each tuple is marked
abbrev pub Marked : List Bool → List (List ℕ) → Type 0
Marked marked ts = (u : List ℕ) → Memᴰ u ts → get_or marked (key_from 0 u) false ≡ true
