-- What `&` and `!` make of two sets, digit by digit. Assumes nothing.
use Prim.Native.Nat.{ℕ, ◌-◌, ◌^◌, ◌<◌}
use native.Mathlib.Omega.{arith}
use native.Mathlib.Decide.{dec_lt}
use mathlib.Core.Path.{◌≡◌}
use lib.Bits.{bit_and}
use Rattle.meaning.specs.Values.{bit}
use Rattle.meaning.proofs.Digits.{bit_lt, bit_high, bit_of_and, bit_not}
use Rattle.values.specs.Sets.{Shared, Less}

pub shared_and : (a b : ℕ) → Shared a b (bit_and a b)
shared_and a b = record { digit = bit_of_and a b }

pub less_and_not : (a b : ℕ) → a < 2 ^ 64 → b < 2 ^ 64 → Less a b (bit_and a ((2 ^ 64 - 1) - b))
less_and_not a b ha hb = record { digit = λ w. go w (dec_lt w 64) }
  where
    go : (w : ℕ) → Dec (w < 64) → bit (bit_and a ((2 ^ 64 - 1) - b)) w ≡ bit a w - bit b w
    go w (yes l) =
        let x = bit_of_and a ((2 ^ 64 - 1) - b) w in
        let y = bit_not 64 b w hb l in
        let p = bit_lt a w in
        let q = bit_lt b w in
        omega arith
    go w (no f) = let x = bit_of_and a ((2 ^ 64 - 1) - b) w in let z = bit_high 64 {m = a} w ha (omega arith) in omega arith
