-- Counting in the tuples passed, for each place and value, the live ones that have it there. Assumes nothing.
use mathlib.Core.Path.{◌≡◌, ap, ◌∙◌}
use mathlib.Core.Logic.{by_cases}
use mathlib.Core.Bool.{true, false, ◌&&◌}
use mathlib.Core.List.{List}
use Prim.Native.Nat.{ℕ, ◌+◌, ◌*◌, ◌≤◌, ◌<◌}
use native.Mathlib.Decide.{ℕ_discrete}
use native.Mathlib.Omega.{arith}
use borrow.Author.Tests.{eq-eqb, ne_eqb}
use lib.Dec.{eqb}
use lib.ListN.{length, get_or, set, take, replicate, length-take, length-replicate}
use lib.Seq.{get_or-set_same, get_or-set_other}
use Rattle.meaning.specs.Limits.{value_limit}
use Rattle.meaning.proofs.Counting.{one, count_le}
use Rattle.meaning.proofs.Listed.{live}
use Rattle.filters.specs.Tables.{Tallying, Counted, Blank, cell, places}
use Rattle.blocks.proofs.Copying.{zeros_at}
use Rattle.filters.proofs.Passes.{live_more, dead_more}

-- ---- one tuple

-- C is O with one more for the value w j at place j, for each j below n
pub record Tallied (w : ℕ → ℕ) (O : List ℕ) (n : ℕ) (C : List ℕ) : Type 0 where
  pub long : length C ≡ length O
  pub done : (j : ℕ) → j < n → (v : ℕ) → v < value_limit → get_or C (cell j v) 0 ≡ get_or O (cell j v) 0 + one (eqb (w j) v)
  pub left : (j : ℕ) → n ≤ j → (v : ℕ) → get_or C (cell j v) 0 ≡ get_or O (cell j v) 0

module _ (w : ℕ → ℕ) (O : List ℕ) where
  module _ (n : ℕ) (C : List ℕ) (small : w n < value_limit) (inside : cell n (w n) < length C) (t : Tallied w O n C) where
    counted : ℕ
    counted = get_or C (cell n (w n)) 0 + 1

    more : List ℕ
    more = set C (cell n (w n)) counted

    elsewhere : (i : ℕ) → ¬ (i ≡ cell n (w n)) → get_or more i 0 ≡ get_or C i 0
    unfolding more
    elsewhere i d = get_or-set_other C (cell n (w n)) i counted 0 d

    at_n : (v : ℕ) → get_or more (cell n v) 0 ≡ get_or O (cell n v) 0 + one (eqb (w n) v)
    unfolding more counted
    at_n v =
        by_cases (ℕ_discrete (w n) v)
        (λ e.
        rw (eq-eqb (w n) v e, ← e) (get_or-set_same C (cell n (w n)) counted 0 inside ∙ ap (λ (x : ℕ). x + 1) (t.left n (omega arith) (w n))))
        (λ d. rw (ne_eqb (w n) v d) (omega (arith, elsewhere (cell n v) (λ e. d (omega arith)), t.left n (omega arith) v)))

-- ---- tuple after tuple

pub blank_new : (arity n : ℕ) → arity * value_limit ≤ n → Blank arity (replicate n 0)
blank_new arity n h = record { long = omega (arith, length-replicate {A = ℕ} n 0); zeros = zeros_at n }

module _ (ts : List (List ℕ)) (masks : List ℕ) (arity : ℕ) where
  -- no count is above the number of tuples passed
  pub counted_few : (k : ℕ) (C : List ℕ) → Counted masks arity (take k ts) C → (j : ℕ) → j < arity → (v : ℕ) → v < value_limit → get_or C (cell j v) 0 ≤ k
  counted_few k C c j h v l = omega (arith, c j h v l, count_le (λ t. live masks (places arity) t && eqb (get_or t j 0) v) (take k ts), length-take k ts)

  module _ (k : ℕ) (t : List ℕ) (turn : (k < length ts) × (t ≡ get_or ts k t)) where
    pub counted_live : (C D : List ℕ) → live masks (places arity) t ≡ true → length t ≡ arity → Tallying t C D
        → Counted masks arity (take k ts) C → Counted masks arity (take (k + 1) ts) D
    counted_live C D l long f c j i v b = omega (arith, f j (omega arith) v b, c j i v b, live_more ts masks arity k t turn l j v)

    pub counted_dead : (C : List ℕ) → live masks (places arity) t ≡ false → Counted masks arity (take k ts) C → Counted masks arity (take (k + 1) ts) C
    counted_dead C l c j i v b = omega (arith, c j i v b, dead_more ts masks arity k t turn l j v)
