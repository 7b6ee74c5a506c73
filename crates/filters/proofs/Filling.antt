-- A list filled from the front, one store a turn. Assumes nothing.
use mathlib.Core.Path.{◌≡◌}
use mathlib.Core.Logic.{by_cases}
use mathlib.Core.List.{List}
use Prim.Native.Nat.{ℕ, ◌+◌, ◌≤◌, ◌<◌}
use native.Mathlib.Decide.{dec_lt}
use native.Mathlib.Omega.{arith}
use lib.ListN.{length, get_or, set}
use lib.Seq.{get_or-set_same, get_or-set_other}

-- what holds of each element before n, and of x at n, holds of each before n + 1 once x is stored there
pub filled_more : (P : ℕ → ℕ → Type 0) (xs : List ℕ) (n x : ℕ) → n < length xs → ((j : ℕ) → j < n → P j (get_or xs j 0)) → P n x
    → (j : ℕ) → j < n + 1 → P j (get_or (set xs n x) j 0)
filled_more P xs n x h f p j l =
    by_cases (dec_lt j n) (λ k. rw (get_or-set_other xs n j x 0 (λ e. omega arith)) (f j k))
    (λ k. let e : j ≡ n = omega arith in rw (e, get_or-set_same xs n x 0 h) p)

-- M is the list O with f done to each element before n, and to none after
pub record Mapped (f : ℕ → ℕ → ℕ) (O : List ℕ) (n : ℕ) (M : List ℕ) : Type 0 where
  pub long : length M ≡ length O
  pub done : (j : ℕ) → j < n → get_or M j 0 ≡ f j (get_or O j 0)
  pub left : (j : ℕ) → n ≤ j → get_or M j 0 ≡ get_or O j 0
