-- Going through the values of a set from the least on, keeping those that pass a test. Assumes nothing.
use mathlib.Core.Path.{◌≡◌, refl, ap}
use mathlib.Core.Logic.{by_cases}
use mathlib.Core.Bool.{Bool, true, false}
use mathlib.Core.List.{List}
use Prim.Native.Nat.{ℕ, ◌+◌, ◌-◌, ◌*◌, ◌%◌, ◌^◌, ◌≤◌, ◌<◌, min}
use borrow.Author.Tests.{lt-ltb, le-ltb}
use lib.Dec.{ltb}
use lib.ListN.{get_or}
use native.Mathlib.Decide.{ℕ_discrete}
use native.Mathlib.Nat.{lt_of_le_of_lt}
use native.Mathlib.Omega.{arith}
use lib.Bits.{bit_and, bit_or, and_le_l}
use lib.Count.{count_trailing_zeros}
use Rattle.meaning.specs.Limits.{value_limit}
use Rattle.meaning.specs.Values.{bit, size, Has, Lacks}
use Rattle.meaning.proofs.Counting.{one, one_le}
use Rattle.meaning.proofs.Digits.{bit_lt, bit_of_or, zero_bit, bit_pow_same, bit_pow_other}
use Rattle.values.specs.Sets.{Removed}
use Rattle.filters.specs.Tables.{cell, FewerAt}
use Rattle.values.proofs.One.{shl_one}
use Rattle.values.proofs.Ends.{lowest_trailing}
use Rattle.values.proofs.Drop.{dropped_and}

-- of m the values in rest are still to be tested, and of the others those that pass are kept
pub record Sifted (m : ℕ) (test : ℕ → Bool) (kept rest : ℕ) : Type 0 where
  pub fits : rest < 2 ^ 64
  pub within : (v : ℕ) → bit rest v ≤ bit m v
  pub passed : (v : ℕ) → bit kept v ≡ min (bit m v - bit rest v) (one (test v))

pub low_small : (rest : ℕ) → rest < 2 ^ 64 → ¬ (rest ≡ 0) → count_trailing_zeros 64 rest < 64
low_small rest h some = (lowest_trailing rest h).some (omega arith)

module _ (m : ℕ) (test : ℕ → Bool) where
  pub sifted_none : m < 2 ^ 64 → Sifted m test 0 m
  sifted_none h = record { fits = h; within = λ v. omega arith; passed = λ v. let z = zero_bit v in omega arith }

  pub sifted_all : (kept : ℕ) → Sifted m test kept 0 → (v : ℕ) → bit kept v ≡ min (bit m v) (one (test v))
  sifted_all kept s v = let z = zero_bit v in let k = s.passed v in omega arith

  module _ (kept rest : ℕ) (some : ¬ (rest ≡ 0)) (s : Sifted m test kept rest) where
    low : ℕ
    low = count_trailing_zeros 64 rest

    here : Has rest low
    unfolding low
    here = (lowest_trailing rest s.fits).here (low_small rest s.fits some)

    removed : Removed rest low (bit_and rest (rest - 1))
    unfolding low
    removed = (dropped_and rest s.fits (omega arith)).least (count_trailing_zeros 64 rest) (lowest_trailing rest s.fits)

    pub sifted_fewer : size (bit_and rest (rest - 1)) < size rest
    sifted_fewer = omega (arith, removed.fewer, here)

    sifted_more : (next : ℕ) → bit next low ≡ one (test low) → ((v : ℕ) → ¬ (v ≡ low) → bit next v ≡ bit kept v)
        → Sifted m test next (bit_and rest (rest - 1))
    sifted_more next e f = record {
      fits = lt_of_le_of_lt (and_le_l rest (rest - 1)) s.fits;
      within = λ v. by_cases (ℕ_discrete v low) (λ q. rw q (omega (arith, removed.gone))) (λ d. omega (arith, removed.kept v d, s.within v));
      passed = λ v.
          by_cases (ℕ_discrete v low) (λ q. rw q (omega (arith, e, removed.gone, here, s.within low, bit_lt m low, one_le (test low))))
          (λ d. omega (arith, f v d, removed.kept v d, s.passed v));
    }

    before : Lacks kept low
    before = omega (arith, s.passed low, here, bit_lt m low)

    pub sifted_pass : test (count_trailing_zeros 64 rest) ≡ true → Sifted m test (bit_or kept (2 ^ count_trailing_zeros 64 rest)) (bit_and rest (rest - 1))
    unfolding low
    sifted_pass t =
        sifted_more (bit_or kept (2 ^ low)) (omega (arith, bit_of_or kept (2 ^ low) low, bit_pow_same low, before, ap one t))
        (λ v d. omega (arith, bit_of_or kept (2 ^ low) v, bit_pow_other low v d))

    pub sifted_fail : test (count_trailing_zeros 64 rest) ≡ false → Sifted m test kept (bit_and rest (rest - 1))
    unfolding low
    sifted_fail t = sifted_more kept (omega (arith, before, ap one t)) (λ v d. refl)

-- the values that a place counts less often than a limit are kept
unfoldable pub FewerSo : ℕ → List ℕ → ℕ → ℕ → ℕ → ℕ → Type 0
FewerSo m counts j limit kept rest = Sifted m (λ v. ltb (get_or counts (cell j v) 0) limit) kept rest

module _ (m : ℕ) (counts : List ℕ) (j limit : ℕ) where
  pub fewer_none : m < 2 ^ 64 → FewerSo m counts j limit 0 m
  unfolding FewerSo
  fewer_none h = sifted_none m _ h

  pub fewer_all : (kept : ℕ) → FewerSo m counts j limit kept 0 → FewerAt counts j limit m kept
  unfolding FewerSo
  fewer_all kept s = sifted_all m _ kept s

  module _ (kept rest : ℕ) (some : ¬ (rest ≡ 0)) (s : FewerSo m counts j limit kept rest) where
    pub fewer_falls : size (bit_and rest (rest - 1)) < size rest
    unfolding FewerSo
    fewer_falls = sifted_fewer m _ kept rest some s

    pub fewer_pass : get_or counts (j * value_limit + count_trailing_zeros 64 rest) 0 < limit
        → FewerSo m counts j limit (bit_or kept ((1 * 2 ^ count_trailing_zeros 64 rest) % 2 ^ 64)) (bit_and rest (rest - 1))
    unfolding FewerSo
    fewer_pass h = rw (shl_one (count_trailing_zeros 64 rest) (low_small rest s.fits some)) (sifted_pass m _ kept rest some s (lt-ltb _ _ h))

    pub fewer_fail : limit ≤ get_or counts (j * value_limit + count_trailing_zeros 64 rest) 0 → FewerSo m counts j limit kept (bit_and rest (rest - 1))
    unfolding FewerSo
    fewer_fail h = sifted_fail m _ kept rest some s (le-ltb _ _ h)

-- the steps of the loop that keeps them
pub ruleset fewer_steps = (fewer_none, fewer_all, fewer_falls, fewer_pass, fewer_fail)
