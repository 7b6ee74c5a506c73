-- Whole numbers for `omega`: each as a difference of two naturals, `up z` less `dn z`. The order, a sum and a product, read so.
-- Assumes nothing.
use mathlib.Core.Path.{◌≡◌, refl}
use mathlib.Core.Bool.{Bool, true, false, cond, not}
use Prim.Native.Nat.{ℕ, zero, suc, ◌+◌, ◌-◌, ◌*◌, ◌≤◌, ◌<◌}
use native.Mathlib.Nat.{mul-le-mul_left}
use native.Mathlib.Omega.{arith}
use lib.Dec.{T, leb, ltb, leb→le, le→leb, ltb→lt, nltb→le}
use lib.IntN.{ℤ, pos, negsuc, neg_ℤ, sub_ℕ, ◌+ℤ◌, ◌*ℤ◌}
use lib.Signed.{◌≤ℤ◌}

abbrev pub up : ℤ → ℕ
up (pos n) = n
up (negsuc n) = 0

abbrev pub dn : ℤ → ℕ
dn (pos n) = 0
dn (negsuc n) = suc n

pub le_out : (a b : ℤ) → a ≤ℤ b → up a + dn b ≤ up b + dn a
le_out (pos a) (pos b) h = omega (arith, leb→le a b h.le)
le_out (pos a) (negsuc b) h = absurd h.le
le_out (negsuc a) (pos b) h = omega arith
le_out (negsuc a) (negsuc b) h = omega (arith, leb→le b a h.le)

pub le_in : (a b : ℤ) → up a + dn b ≤ up b + dn a → a ≤ℤ b
le_in (pos a) (pos b) h = record { le = le→leb a b (omega arith) }
le_in (pos a) (negsuc b) h = absurd (omega arith)
le_in (negsuc a) (pos b) h = record { le = tt }
le_in (negsuc a) (negsuc b) h = record { le = le→leb b a (omega arith) }

sub_parts : (a b : ℕ) → up (sub_ℕ a b) + b ≡ dn (sub_ℕ a b) + a
sub_parts a b = step (ltb a b) (ltb→lt a b) (nltb→le a b)
  where
    step : (t : Bool) → (T t → a < b) → (T (not t) → b ≤ a)
        → up (cond t (negsuc (b - suc a)) (pos (a - b))) + b ≡ dn (cond t (negsuc (b - suc a)) (pos (a - b))) + a
    step true f g = let h = f tt in omega arith
    step false f g = let h = g tt in omega arith

pub sum_parts : (a b : ℤ) → up (a +ℤ b) + (dn a + dn b) ≡ dn (a +ℤ b) + (up a + up b)
sum_parts (pos a) (pos b) = omega arith
sum_parts (pos a) (negsuc b) = omega (arith, sub_parts a (suc b))
sum_parts (negsuc a) (pos b) = omega (arith, sub_parts b (suc a))
sum_parts (negsuc a) (negsuc b) = omega arith

neg_parts : (n : ℕ) → (up (neg_ℤ (pos n)) ≡ 0) × (dn (neg_ℤ (pos n)) ≡ n)
neg_parts zero = (refl, refl)
neg_parts (suc n) = (refl, refl)

pub mul_parts : (k : ℤ) (v : ℕ) → (up (k *ℤ pos v) ≡ up k * v) × (dn (k *ℤ pos v) ≡ dn k * v)
mul_parts (pos k) v = (refl, omega arith)
mul_parts (negsuc k) v = let h = neg_parts (suc k * v) in (omega (arith, h.0), omega (arith, h.1))

pub ≤ℤ_trans : (a b c : ℤ) → a ≤ℤ b → b ≤ℤ c → a ≤ℤ c
≤ℤ_trans a b c h k = le_in a c (omega (arith, le_out a b h, le_out b c k))

pub +ℤ_mono : (a b c d : ℤ) → a ≤ℤ b → c ≤ℤ d → (a +ℤ c) ≤ℤ (b +ℤ d)
+ℤ_mono a b c d h k = le_in (a +ℤ c) (b +ℤ d) (omega (arith, le_out a b h, le_out c d k, sum_parts a c, sum_parts b d))

-- where a term is least: at the smallest value for a factor that is not negative, at the largest for another
pub least_low : (k v w : ℕ) → v ≤ w → (pos k *ℤ pos v) ≤ℤ (pos k *ℤ pos w)
least_low k v w h =
    le_in (pos k *ℤ pos v) (pos k *ℤ pos w)
    (omega (arith, mul-le-mul_left k h, (mul_parts (pos k) v).0, (mul_parts (pos k) v).1, (mul_parts (pos k) w).0, (mul_parts (pos k) w).1))

pub least_high : (k v w : ℕ) → w ≤ v → (negsuc k *ℤ pos v) ≤ℤ (negsuc k *ℤ pos w)
least_high k v w h =
    le_in (negsuc k *ℤ pos v) (negsuc k *ℤ pos w)
    (omega (arith, mul-le-mul_left (suc k) h, (mul_parts (negsuc k) v).0, (mul_parts (negsuc k) v).1, (mul_parts (negsuc k) w).0, (mul_parts (negsuc k) w).1))
