-- `m & (m - 1)` is m without its least value, and it is empty just where m has one value or none. Assumes nothing.
use mathlib.Core.Path.{◌≡◌, refl, sym, ap, ◌∙◌, subst}
use mathlib.Core.Bool.{not}
use Prim.Native.Nat.{ℕ, zero, suc, ◌-◌, ◌/◌, ◌%◌, ◌^◌, ◌<◌}
use native.Mathlib.Omega.{arith}
use native.Mathlib.Decide.{dec_lt}
use borrow.Author.Tests.{eqb-true, eqb-false, not-true}
use lib.Dec.{eqb}
use lib.Bits.{bit_and}
use lib.Count.{count_trailing_zeros}
use Rattle.meaning.specs.Values.{bit, Has, Lacks, size}
use Rattle.meaning.proofs.Digits.{bit_zero, bit_suc, zero_bit, bit_of_and}
use Rattle.meaning.proofs.Sizes.{size_at, size_of_zero}
use Rattle.meaning.proofs.Sets.{size_zero}
use Rattle.values.specs.Sets.{Lowest, Removed, Dropped, TellsSingle}
use Rattle.values.proofs.Ends.{lowest_trailing}
use Rattle.values.proofs.One.{removed_absent}

-- with t the least value: m - 1 lacks it, and is m above it
pred_low : (t m : ℕ) → Has m t → ((w : ℕ) → w < t → Lacks m w) → Lacks (m - 1) t × ((w : ℕ) → t < w → bit (m - 1) w ≡ bit m w)
pred_low zero m e n = (low, high)
  where
    odd : m % 2 ≡ 1
    odd = sym (bit_zero m) ∙ e

    low : Lacks (m - 1) 0
    low = let z = bit_zero (m - 1) in let o = odd in omega arith

    high : (w : ℕ) → 0 < w → bit (m - 1) w ≡ bit m w
    high zero h = absurd (omega arith)
    high (suc w) h =
        let o = odd in
        let half : (m - 1) / 2 ≡ m / 2 = omega arith in
        bit_suc (m - 1) w ∙ ap (λ (x : ℕ). bit x w) half ∙ sym (bit_suc m w)
pred_low (suc t) m e n =
    let i = pred_low t (m / 2) (sym (bit_suc m t) ∙ e) (λ w h. sym (bit_suc m w) ∙ n (suc w) (omega arith)) in
    (bit_suc (m - 1) t ∙ ap (λ (x : ℕ). bit x t) half ∙ i.0, high i.1)
  where
    even : m % 2 ≡ 0
    even = sym (bit_zero m) ∙ n 0 (omega arith)

    half : (m - 1) / 2 ≡ m / 2 - 1
    half = let o = even in omega arith

    high : ((w : ℕ) → t < w → bit (m / 2 - 1) w ≡ bit (m / 2) w) → (w : ℕ) → suc t < w → bit (m - 1) w ≡ bit m w
    high ih zero h = absurd (omega arith)
    high ih (suc w) h = bit_suc (m - 1) w ∙ ap (λ (x : ℕ). bit x w) half ∙ ih w (omega arith) ∙ sym (bit_suc m w)

removed_lowest : (m t : ℕ) → 0 < m → Lowest m t → Removed m t (bit_and m (m - 1))
removed_lowest m t p l = record {
  gone = gone;
  kept = kept;
  fewer = let s = size_at (bit_and m (m - 1)) m t (l.some p) kept in let g = gone in omega arith;
}
  where
    pred : Lacks (m - 1) t × ((w : ℕ) → t < w → bit (m - 1) w ≡ bit m w)
    pred = pred_low t m (l.here (l.some p)) l.none

    gone : Lacks (bit_and m (m - 1)) t
    gone = let x = bit_of_and m (m - 1) t in let z = pred.0 in omega arith

    kept : (w : ℕ) → ¬ (w ≡ t) → bit (bit_and m (m - 1)) w ≡ bit m w
    kept w d = go (dec_lt w t)
      where
        go : Dec (w < t) → bit (bit_and m (m - 1)) w ≡ bit m w
        go (yes k) = let x = bit_of_and m (m - 1) w in let z = l.none w k in omega arith
        go (no k) = let x = bit_of_and m (m - 1) w in let z = pred.1 w (omega arith) in omega arith

pub dropped_and : (m : ℕ) → m < 2 ^ 64 → 0 < m → Dropped m (bit_and m (m - 1))
dropped_and m h p = record {
  least = λ v l. removed_lowest m v p l;
  fewer = λ q.
      let l = lowest_trailing m h in
      let r = removed_lowest m (count_trailing_zeros 64 m) p l in
      let e = l.here (l.some p) in
      omega arith;
  empty = λ e. absurd (omega arith);
}

pub dropped_empty : (m : ℕ) → m ≡ 0 → Dropped m 0
dropped_empty m e = record {
  least = λ v l. subst (λ (x : ℕ). Removed x v 0) (sym e) (removed_absent 0 v (zero_bit v));
  fewer = λ q. absurd (omega arith);
  empty = λ z. refl;
}

-- ---- one value: dropping the least leaves none

pub single_dropped : (m r : ℕ) → r < 2 ^ 64 → 0 < m → Dropped m r → TellsSingle m (eqb r 0)
single_dropped m r h p d =
    let s = d.fewer p in
    let z = size_of_zero in
    record {
      yes = λ e. let x = ap size (eqb-true r 0 e) in omega arith;
      no = λ e o. eqb-false r 0 e (size_zero r h (omega arith));
    }

-- `m != 0` where it is false
pub single_empty : (m : ℕ) → m ≡ 0 → TellsSingle m (not (eqb m 0))
single_empty m e = record {
  yes = λ f. absurd (eqb-false m 0 (not-true (eqb m 0) f) e);
  no = λ f o. let x = ap size e in let z = size_of_zero in omega arith;
}
