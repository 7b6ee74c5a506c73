-- The least and the greatest value of a set: what `trailing_zeros` and `leading_zeros` count. Assumes nothing.
use mathlib.Core.Path.{◌≡◌, refl, sym, ap, ◌∙◌}
use mathlib.Core.Logic.{◌⊎◌, inl, inr}
use Prim.Native.Nat.{ℕ, zero, suc, ◌-◌, ◌/◌, ◌%◌, ◌^◌, ◌≤◌, ◌<◌}
use native.Mathlib.Nat.{one-mul, le-div_iff_mul-le}
use native.Mathlib.Numerals.{one-add}
use native.Mathlib.Omega.{arith}
use native.Mathlib.Decide.{dec_lt}
use lib.Pow.{pow_pos, shr_lt}
use lib.Count.{count_trailing_zeros, trailing_le, leading_top, count_leading_zeros, under}
use Rattle.meaning.specs.Values.{bit, Has, Lacks}
use Rattle.meaning.proofs.Digits.{bit_cases, bit_zero, bit_suc, zero_bit, bit_high}
use Rattle.meaning.proofs.Sets.{nonzero_has}
use Rattle.values.specs.Sets.{Lowest, Highest}

-- ---- `trailing_zeros` is the place of the least value

under_set : (d t : ℕ) → d ≡ 1 → under d t ≡ 0
under_set zero t e = absurd (omega arith)
under_set (suc d) t e = refl

under_clear : (d t : ℕ) → d ≡ 0 → under d t ≡ suc t
under_clear zero t e = refl
under_clear (suc d) t e = absurd (omega arith)

trailing_none : (k m w : ℕ) → w < count_trailing_zeros k m → Lacks m w
unfolding count_trailing_zeros
trailing_none zero m w h = absurd (omega arith)
trailing_none (suc k) m zero h = go (bit_cases m 0)
  where
    go : Lacks m 0 ⊎ Has m 0 → Lacks m 0
    go (inl e) = e
    go (inr e) = let u = under_set (m % 2) (count_trailing_zeros k (m / 2)) (sym (bit_zero m) ∙ e) in absurd (omega arith)
trailing_none (suc k) m (suc w) h = bit_suc m w ∙ go (bit_cases m 0) (trailing_none k (m / 2) w)
  where
    go : Lacks m 0 ⊎ Has m 0 → (w < count_trailing_zeros k (m / 2) → Lacks (m / 2) w) → Lacks (m / 2) w
    go (inl e) ih = let u = under_clear (m % 2) (count_trailing_zeros k (m / 2)) (sym (bit_zero m) ∙ e) in ih (omega arith)
    go (inr e) ih = let u = under_set (m % 2) (count_trailing_zeros k (m / 2)) (sym (bit_zero m) ∙ e) in absurd (omega arith)

trailing_here : (k m : ℕ) → count_trailing_zeros k m < k → Has m (count_trailing_zeros k m)
unfolding count_trailing_zeros
trailing_here zero m h = absurd (omega arith)
trailing_here (suc k) m h = go (bit_cases m 0) (trailing_here k (m / 2))
  where
    go : Lacks m 0 ⊎ Has m 0 → (count_trailing_zeros k (m / 2) < k → Has (m / 2) (count_trailing_zeros k (m / 2)))
        → Has m (under (m % 2) (count_trailing_zeros k (m / 2)))
    go (inl e) ih =
        let u = under_clear (m % 2) (count_trailing_zeros k (m / 2)) (sym (bit_zero m) ∙ e) in
        ap (bit m) u ∙ bit_suc m (count_trailing_zeros k (m / 2)) ∙ ih (omega arith)
    go (inr e) ih = ap (bit m) (under_set (m % 2) (count_trailing_zeros k (m / 2)) (sym (bit_zero m) ∙ e)) ∙ e

pub lowest_trailing : (m : ℕ) → m < 2 ^ 64 → Lowest m (count_trailing_zeros 64 m)
lowest_trailing m h = record {
  small = trailing_le 64 m;
  some = λ p. let (v, l, e) = nonzero_has m h p in go v l e (dec_lt (count_trailing_zeros 64 m) 64);
  here = trailing_here 64 m;
  none = trailing_none 64 m;
}
  where
    go : (v : ℕ) → v < 64 → Has m v → Dec (count_trailing_zeros 64 m < 64) → count_trailing_zeros 64 m < 64
    go v l e (yes q) = q
    go v l e (no f) = let z = trailing_none 64 m v (omega arith) in absurd (omega arith)

-- ---- 63 less `leading_zeros` is the place of the greatest

bit_top : (m j : ℕ) → 2 ^ j ≤ m → m < 2 ^ suc j → Has m j
unfolding bit
bit_top m j lo hi =
    let s = ap (λ (x : ℕ). 2 ^ x) (one-add j) in
    let a : m / 2 ^ j < 2 = shr_lt 1 j (omega arith) in
    let o = one-mul (2 ^ j) in
    let b : 1 ≤ m / 2 ^ j = (le-div_iff_mul-le (pow_pos j)).1 (omega arith) in
    omega arith

pub highest_leading : (m : ℕ) → m < 2 ^ 64 → 0 < m → Highest m (63 - count_leading_zeros 64 m)
highest_leading m h p =
    let (j, e, lo, hi) = leading_top 64 m p h in
    let s : 63 - count_leading_zeros 64 m ≡ j = omega arith in
    rw s
    (record { small = omega arith; some = λ q. omega arith; here = λ l. bit_top m j lo hi; none = λ w l. bit_high (suc j) {m = m} w hi l })

pub highest_empty : (m : ℕ) → m ≡ 0 → Highest m 64
highest_empty m e = record {
  small = omega arith;
  some = λ p. absurd (omega arith);
  here = λ l. absurd (omega arith);
  none = λ w l. ap (λ (x : ℕ). bit x w) e ∙ zero_bit w;
}

-- ---- the answer 64 and the empty set, for either end
