-- A pass over the tuples of a table: what the live ones among those passed have at each place. Assumes nothing.
use mathlib.Core.Path.{◌≡◌, refl, sym, ap, ◌∙◌}
use mathlib.Core.Logic.{by_cases}
use mathlib.Core.Bool.{true, false, ◌&&◌}
use mathlib.Core.List.{List}
use Prim.Native.Nat.{ℕ, ◌+◌, ◌^◌, ◌<◌}
use native.Mathlib.Decide.{ℕ_discrete}
use native.Mathlib.Omega.{arith}
use borrow.Author.Tests.{eq-eqb, ne_eqb}
use lib.Dec.{eqb}
use lib.ListN.{length, get_or, take, replicate}
use Rattle.meaning.specs.Values.{bit}
use Rattle.meaning.proofs.Counting.{one, one_le, count_take}
use Rattle.meaning.proofs.Digits.{zero_bit, bit_of_or, bit_pow_same, bit_pow_other}
use Rattle.meaning.proofs.Listed.{live, live_with}
use Rattle.blocks.proofs.Copying.{zeros_at}
use Rattle.filters.specs.Tables.{Marking, Marked, places}

bit_pow : (w v : ℕ) → bit (2 ^ w) v ≡ one (eqb w v)
bit_pow w v =
    by_cases (ℕ_discrete w v) (λ e. rw (eq-eqb w v e, e) (bit_pow_same v))
    (λ d. rw (ne_eqb w v d) (bit_pow_other w v (λ e. d (sym e))))

module _ (ts : List (List ℕ)) (masks : List ℕ) (arity : ℕ) where
  pub marked_none : (n : ℕ) → Marked masks arity (take 0 ts) (replicate n 0)
  marked_none n j i v = rw (zeros_at n j) (zero_bit v)

  -- the k-th tuple
  module _ (k : ℕ) (t : List ℕ) (turn : (k < length ts) × (t ≡ get_or ts k t)) where
    one_more : (j v : ℕ) → live_with masks (places arity) j v (take (k + 1) ts)
        ≡ live_with masks (places arity) j v (take k ts) + one (live masks (places arity) t && eqb (get_or t j 0) v)
    one_more j v =
        count_take (λ t. live masks (places arity) t && eqb (get_or t j 0) v) ts k t turn.0
        ∙ ap (λ (u : List ℕ). live_with masks (places arity) j v (take k ts) + one (live masks (places arity) u && eqb (get_or u j 0) v)) (sym turn.1)

    pub live_more : live masks (places arity) t ≡ true → (j v : ℕ)
        → live_with masks (places arity) j v (take (k + 1) ts) ≡ live_with masks (places arity) j v (take k ts) + one (eqb (get_or t j 0) v)
    live_more l j v = one_more j v ∙ (rw l refl)

    pub dead_more : live masks (places arity) t ≡ false → (j v : ℕ)
        → live_with masks (places arity) j v (take (k + 1) ts) ≡ live_with masks (places arity) j v (take k ts)
    dead_more l j v = one_more j v ∙ (rw l (omega arith))

    pub marked_live : (M J : List ℕ) → live masks (places arity) t ≡ true → length t ≡ arity → Marking t M J
        → Marked masks arity (take k ts) M → Marked masks arity (take (k + 1) ts) J
    marked_live M J l long f m j i v =
        let b = ap (λ (n : ℕ). bit n v) (f j (omega arith)) ∙ bit_of_or (get_or M j 0) (2 ^ get_or t j 0) v in
        omega (arith, bit_pow (get_or t j 0) v, m j i v, live_more l j v, one_le (eqb (get_or t j 0) v))

    pub marked_dead : (M : List ℕ) → live masks (places arity) t ≡ false → Marked masks arity (take k ts) M → Marked masks arity (take (k + 1) ts) M
    marked_dead M l m j i v = omega (arith, m j i v, dead_more l j v)
