-- The values below a bound, and the values of a set from a bound on. Assumes nothing.
use Prim.Native.Nat.{ℕ, ◌*◌, ◌-◌, ◌%◌, ◌^◌, ◌≤◌, ◌<◌}
use native.Mathlib.Omega.{arith}
use native.Mathlib.Decide.{dec_lt}
use mathlib.Core.Path.{◌≡◌}
use lib.Pow.{pow_pos}
use Rattle.meaning.specs.Values.{Has, Lacks}
use Rattle.meaning.proofs.Digits.{bit_lt, bit_high, zero_bit, bit_not}
use Rattle.values.specs.Sets.{First, AtOrAbove, Less}
use Rattle.values.proofs.One.{shl_one}

-- 2 ^ n - 1 has the digits below n
ones_here : (n w : ℕ) → w < n → Has (2 ^ n - 1) w
ones_here n w l =
    let e : (2 ^ n - 1) - 0 ≡ 2 ^ n - 1 = omega arith in
    let x = rw e at (bit_not n 0 w (pow_pos n) l) in
    let z = zero_bit w in
    omega arith

ones_none : (n w : ℕ) → n ≤ w → Lacks (2 ^ n - 1) w
ones_none n w l = let p = pow_pos n in bit_high n {m = 2 ^ n - 1} w (omega arith) l

pub first_ones : (s : ℕ) → s < 64 → First s ((1 * 2 ^ s) % 2 ^ 64 - 1)
first_ones s l = rw (shl_one s l) (record { here = λ w h k. ones_here s w h; none = ones_none s })

pub first_all : (s : ℕ) → 64 ≤ s → First s (2 ^ 64 - 1)
first_all s l = record { here = λ w h k. ones_here 64 w k; none = λ w h. ones_none 64 w (omega arith) }

pub above_less : (m v f r : ℕ) → m < 2 ^ 64 → First v f → Less m f r → AtOrAbove m v r
above_less m v f r h x y = record {
  below = λ w l. go w l (dec_lt w 64);
  kept = λ w l. let d = y.digit w in let z = x.none w l in omega arith;
}
  where
    go : (w : ℕ) → w < v → Dec (w < 64) → Lacks r w
    go w l (yes k) = let d = y.digit w in let e = x.here w l k in let b = bit_lt m w in omega arith
    go w l (no k) = let d = y.digit w in let z = bit_high 64 {m = m} w h (omega arith) in omega arith
