-- A set of values is a number below 2 ^ 64: the value v is in it where its binary digit v is 1.
use Rattle.std.specs.Prelude.{◌≡◌, ℕ, zero, suc, ◌+◌, ◌/◌, ◌%◌, ◌^◌}
use Rattle.meaning.specs.Limits.{value_limit}

-- the binary digit v of m: 0 or 1
unfoldable pub bit : ℕ → ℕ → ℕ
bit m v = m / 2 ^ v % 2

-- v is in m, v is not in m
abbrev pub Has : ℕ → ℕ → Type 0
Has m v = bit m v ≡ 1

abbrev pub Lacks : ℕ → ℕ → Type 0
Lacks m v = bit m v ≡ 0

-- f 0 + .. + f (n - 1)
unfoldable pub total : (ℕ → ℕ) → ℕ → ℕ
total f zero = 0
total f (suc n) = total f n + f n

-- how many values are in m
abbrev pub size : ℕ → ℕ
size m = total (bit m) value_limit
