-- One value: in a set or not, alone, taken away and put in. Assumes nothing.
use mathlib.Core.Path.{◌≡◌, refl, sym, ap, ◌∙◌}
use mathlib.Core.Logic.{by_cases}
use Prim.Native.Nat.{ℕ, ◌+◌, ◌*◌, ◌/◌, ◌%◌, ◌^◌, ◌≤◌, ◌<◌}
use native.Mathlib.Nat.{one-mul, mod-eq_of_lt}
use native.Mathlib.Omega.{arith}
use native.Mathlib.Decide.{ℕ_discrete, dec_lt}
use borrow.Author.Tests.{ltb-true, eqb-true, eqb-false}
use lib.Dec.{ltb, eqb}
use lib.Pow.{pow-lt}
use lib.Bits.{bit_and, bit_or, and_mask, or_zero_r}
use Rattle.meaning.specs.Values.{bit, Has, Lacks, size}
use Rattle.meaning.proofs.Digits.{bit_lt, bit_high, zero_bit, bit_of_or, bit_pow_same, bit_pow_other, ext_all}
use Rattle.meaning.proofs.Sets.{size_alone, size_change}
use Rattle.values.specs.Sets.{Tells, Alone, Removed, Added, Less}

-- ---- `(m >> v) & 1 == 1`

digit : (m v : ℕ) → bit_and (m / 2 ^ v) 1 ≡ bit m v
unfolding bit
digit m v = and_mask (m / 2 ^ v) 1

pub tells_digit : (m v : ℕ) → Tells m v (eqb (bit_and (m / 2 ^ v) 1) 1)
tells_digit m v =
    let d = digit m v in
    let b = bit_lt m v in
    record {
      yes = λ e. let x = eqb-true (bit_and (m / 2 ^ v) 1) 1 e in omega arith;
      no = λ e. let x = eqb-false (bit_and (m / 2 ^ v) 1) 1 e in omega arith;
    }

-- `v < 64` where it is false
pub tells_none : (m v : ℕ) → m < 2 ^ 64 → 64 ≤ v → Tells m v (ltb v 64)
tells_none m v h l = record { yes = λ e. let k = ltb-true v 64 e in absurd (omega arith); no = λ e. bit_high 64 {m = m} v h l }

-- ---- `1 << v`

pub shl_one : (v : ℕ) → v < 64 → (1 * 2 ^ v) % 2 ^ 64 ≡ 2 ^ v
shl_one v h = ap (λ (x : ℕ). x % 2 ^ 64) (one-mul (2 ^ v)) ∙ mod-eq_of_lt (pow-lt h)

alone_pow : (v : ℕ) → v < 64 → Alone v (2 ^ v)
alone_pow v l = record {
  here = λ k. bit_pow_same v;
  others = bit_pow_other v;
  one = λ k. size_alone (2 ^ v) v l (bit_pow_same v) (bit_pow_other v);
  empty = λ k. absurd (omega arith);
}

-- there is one such set
pub alone_is : (v r : ℕ) → v < 64 → Alone v r → r ≡ 2 ^ v
alone_is v r small a = ext_all r (2 ^ v) λ w. by_cases (ℕ_discrete w v) (λ e. rw e (a.here small ∙ sym (bit_pow_same v))) (λ n. a.others w n ∙ sym (bit_pow_other v w n))

pub alone_shift : (v : ℕ) → v < 64 → Alone v ((1 * 2 ^ v) % 2 ^ 64)
alone_shift v l = rw (shl_one v l) (alone_pow v l)

pub alone_none : (v : ℕ) → 64 ≤ v → Alone v 0
alone_none v l = record {
  here = λ k. absurd (omega arith);
  others = λ w d. zero_bit w;
  one = λ k. absurd (omega arith);
  empty = λ k. refl;
}

-- ---- with o the value v alone

module _ (m v o : ℕ) (alone : Alone v o) where
  -- no value of 64 or more is in o
  absent : 64 ≤ v → Lacks o v
  absent l = ap (λ (x : ℕ). bit x v) (alone.empty l) ∙ zero_bit v

  pub removed_less : (r : ℕ) → m < 2 ^ 64 → Less m o r → Removed m v r
  removed_less r h x = record { gone = gone; kept = kept; fewer = fewer }
    where
      gone : Lacks r v
      gone = go (dec_lt v 64)
        where
          go : Dec (v < 64) → Lacks r v
          go (yes l) = let d = x.digit v in let e = alone.here l in let b = bit_lt m v in omega arith
          go (no f) = let d = x.digit v in let z = bit_high 64 {m = m} v h (omega arith) in omega arith

      kept : (w : ℕ) → ¬ (w ≡ v) → bit r w ≡ bit m w
      kept w d = let e = x.digit w in let z = alone.others w d in omega arith

      fewer : size r + bit m v ≡ size m
      fewer =
          let g = gone in
          let s = size_change r m v kept (λ l. let z = bit_high 64 {m = m} v h l in omega arith) in
          omega arith

  pub added_or : Added m v (bit_or m o)
  added_or = record { here = here; kept = kept; more = more; same = same }
    where
      here : v < 64 → Has (bit_or m o) v
      here l = let x = bit_of_or m o v in let e = alone.here l in let b = bit_lt m v in omega arith

      kept : (w : ℕ) → ¬ (w ≡ v) → bit (bit_or m o) w ≡ bit m w
      kept w d = let x = bit_of_or m o w in let z = alone.others w d in omega arith

      more : size (bit_or m o) + bit m v ≡ size m + bit (bit_or m o) v
      more = size_change (bit_or m o) m v kept (λ l. let x = bit_of_or m o v in let z = absent l in omega arith)

      same : 64 ≤ v → bit_or m o ≡ m
      same l = ap (bit_or m) (alone.empty l) ∙ or_zero_r m

-- taking away what is not there changes nothing
pub removed_absent : (m v : ℕ) → Lacks m v → Removed m v m
removed_absent m v e = record { gone = e; kept = λ w d. refl; fewer = omega arith }
