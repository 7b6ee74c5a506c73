-- The binary digits of a number. `bit m v` is an unknown to `omega`, of which `bit_lt m v` says that it is 0 or 1.
-- Assumes nothing.
use mathlib.Core.Path.{◌≡◌, refl, sym, ap, ◌∙◌}
use mathlib.Core.Logic.{◌⊎◌, inl, inr}
use Prim.Native.Nat.{ℕ, zero, suc, ◌+◌, ◌-◌, ◌*◌, ◌/◌, ◌%◌, ◌^◌, ◌≤◌, ◌<◌, min, max}
use native.Mathlib.Nat.{mod-lt, div-one, div_self, div-eq_of_lt, zero-lt-suc, lt_of_lt_of_le, pow-suc, mul_assoc, le_dest, one-mul}
use native.Mathlib.Numerals.{one-add, add-one}
use native.Mathlib.Omega.{arith}
use native.Mathlib.Decide.{ℕ_discrete, dec_lt}
use lib.Arith.{digits_mod, lt-one}
use lib.Pow.{pow_pos, pow_mono, pow-add, pow-lt, shr-shr, shl-shr, mod-pow-add}
use lib.Bits.{bit_and, bit_or, and_step, or_step, and_shr, or_shr, shifted_even}
use Rattle.meaning.specs.Values.{bit, Has, Lacks}

two_pos : zero < 2
two_pos = zero-lt-suc 1

-- ---- one digit

pub bit_lt : (m v : ℕ) → bit m v < 2
unfolding bit
bit_lt m v = mod-lt (m / 2 ^ v) two_pos

-- a member or not
pub bit_cases : (m v : ℕ) → Lacks m v ⊎ Has m v
bit_cases m v = go (bit m v) refl (bit_lt m v)
  where
    go : (k : ℕ) → bit m v ≡ k → k < 2 → Lacks m v ⊎ Has m v
    go zero e h = inl e
    go (suc zero) e h = inr e
    go (suc (suc k)) e h = absurd (omega arith)

pub has_dec : (m v : ℕ) → Dec (Has m v)
has_dec m v = ℕ_discrete (bit m v) 1

pub lacks_of_not : (m v : ℕ) → (Has m v → ⊥) → Lacks m v
lacks_of_not m v f = go (bit_cases m v)
  where
    go : Lacks m v ⊎ Has m v → Lacks m v
    go (inl e) = e
    go (inr e) = absurd (f e)

pub bit_zero : (m : ℕ) → bit m 0 ≡ m % 2
unfolding bit
bit_zero m = ap (λ (x : ℕ). x % 2) (div-one m)

pub bit_suc : (m v : ℕ) → bit m (suc v) ≡ bit (m / 2) v
unfolding bit
bit_suc m v = ap (λ (x : ℕ). m / 2 ^ x % 2) (sym (one-add v)) ∙ ap (λ (x : ℕ). x % 2) (sym (shr-shr m 1 v))

pub zero_bit : (v : ℕ) → bit 0 v ≡ 0
unfolding bit
zero_bit v = ap (λ (x : ℕ). x % 2) (div-eq_of_lt (pow_pos v))

-- no digit past a number's length
pub bit_high : (n : ℕ) {m : ℕ} (v : ℕ) → m < 2 ^ n → n ≤ v → bit m v ≡ 0
unfolding bit
bit_high n v h l = ap (λ (x : ℕ). x % 2) (div-eq_of_lt (lt_of_lt_of_le h (pow_mono l)))

-- a member of a word is below 64
pub has_small : (m v : ℕ) → m < 2 ^ 64 → Has m v → v < 64
has_small m v h e = go (dec_lt v 64)
  where
    go : Dec (v < 64) → v < 64
    go (yes l) = l
    go (no f) = let z = bit_high 64 {m = m} v h (omega arith) in omega arith

-- ---- equal digits, equal numbers

pub ext_below : (n a b : ℕ) → a < 2 ^ n → b < 2 ^ n → ((v : ℕ) → v < n → bit a v ≡ bit b v) → a ≡ b
ext_below zero a b ha hb f = lt-one ha ∙ sym (lt-one hb)
ext_below (suc n) a b ha hb f =
    let p = pow-suc 2 n in
    let low : a % 2 ≡ b % 2 = sym (bit_zero a) ∙ f 0 (omega arith) ∙ bit_zero b in
    let high : a / 2 ≡ b / 2 = ext_below n (a / 2) (b / 2) (omega arith) (omega arith)
    (λ v h. sym (bit_suc a v) ∙ f (suc v) (omega arith) ∙ bit_suc b v) in
    omega arith

-- masks with the same members are equal
pub ext : (a b : ℕ) → a < 2 ^ 64 → b < 2 ^ 64 → ((v : ℕ) → v < 64 → bit a v ≡ bit b v) → a ≡ b
ext a b = ext_below 64 a b

-- ---- the operations, digit by digit

pub bit_of_and : (a b v : ℕ) → bit (bit_and a b) v ≡ min (bit a v) (bit b v)
unfolding bit
bit_of_and a b v =
    let x = a / 2 ^ v in
    let y = b / 2 ^ v in
    let p = mod-lt x two_pos in
    ap (λ (n : ℕ). n % 2) (and_shr a b v ∙ and_step x y) ∙ digits_mod (bit_and (x / 2) (y / 2)) (omega arith)

pub bit_of_or : (a b v : ℕ) → bit (bit_or a b) v ≡ max (bit a v) (bit b v)
unfolding bit
bit_of_or a b v =
    let x = a / 2 ^ v in
    let y = b / 2 ^ v in
    ap (λ (n : ℕ). n % 2) (or_shr a b v ∙ or_step x y) ∙ digits_mod (bit_or (x / 2) (y / 2)) (omega arith)

pub bit_shr : (m k v : ℕ) → bit (m / 2 ^ k) v ≡ bit m (k + v)
unfolding bit
bit_shr m k v = ap (λ (x : ℕ). x % 2) (shr-shr m k v)

pub bit_shl : (a k v : ℕ) → bit (a * 2 ^ k) (k + v) ≡ bit a v
unfolding bit
bit_shl a k v = ap (λ (x : ℕ). x % 2) (sym (shr-shr (a * 2 ^ k) k v) ∙ ap (λ (x : ℕ). x / 2 ^ v) (shl-shr a k))

pub bit_shl_low : (a k v : ℕ) → v < k → bit (a * 2 ^ k) v ≡ 0
unfolding bit
bit_shl_low a k v h =
    let (j, e) = le_dest h in
    let s : k ≡ suc j + v = omega arith in
    ap (λ (x : ℕ). x % 2)
    (ap (λ (x : ℕ). a * 2 ^ x / 2 ^ v) s ∙ ap (λ (x : ℕ). a * x / 2 ^ v) (pow-add 2 (suc j) v)
    ∙ ap (λ (x : ℕ). x / 2 ^ v) (sym (mul_assoc a (2 ^ suc j) (2 ^ v))) ∙ shl-shr (a * 2 ^ suc j) v)
    ∙ shifted_even a j

-- the low digits of a number, where the rest is cut off
pub bit_mod : (m k v : ℕ) → v < k → bit (m % 2 ^ k) v ≡ bit m v
bit_mod m zero v h = absurd (omega arith)
bit_mod m (suc k) zero h =
    let p = mod-pow-add m k 1 in
    let e = ap (λ (x : ℕ). m % 2 ^ x) (add-one k) in
    let x = bit_zero (m % 2 ^ suc k) in
    let y = bit_zero m in
    omega arith
bit_mod m (suc k) (suc v) h =
    let p = mod-pow-add m k 1 in
    let e = ap (λ (x : ℕ). m % 2 ^ x) (add-one k) in
    let half : m % 2 ^ suc k / 2 ≡ m / 2 % 2 ^ k = omega arith in
    bit_suc (m % 2 ^ suc k) v ∙ ap (λ (x : ℕ). bit x v) half ∙ bit_mod (m / 2) k v (omega arith) ∙ sym (bit_suc m v)

pub bit_not : (n a v : ℕ) → a < 2 ^ n → v < n → bit ((2 ^ n - 1) - a) v ≡ 1 - bit a v
bit_not zero a v h l = absurd (omega arith)
bit_not (suc n) a zero h l =
    let p = pow-suc 2 n in
    let q = pow_pos n in
    let x = bit_zero a in
    let y = bit_zero ((2 ^ suc n - 1) - a) in
    omega arith
bit_not (suc n) a (suc v) h l =
    let p = pow-suc 2 n in
    let q = pow_pos n in
    let half : ((2 ^ suc n - 1) - a) / 2 ≡ (2 ^ n - 1) - a / 2 = omega arith in
    bit_suc ((2 ^ suc n - 1) - a) v ∙ ap (λ (x : ℕ). bit x v) half ∙ bit_not n (a / 2) v (omega arith) (omega arith)
    ∙ ap (λ (x : ℕ). 1 - x) (sym (bit_suc a v))

-- ---- a power of two has one digit

pub bit_pow_same : (v : ℕ) → bit (2 ^ v) v ≡ 1
unfolding bit
bit_pow_same v = ap (λ (x : ℕ). x % 2) (div_self (pow_pos v))

pub bit_pow_other : (v w : ℕ) → (w ≡ v → ⊥) → bit (2 ^ v) w ≡ 0
bit_pow_other v w f = go (dec_lt w v)
  where
    go : Dec (w < v) → bit (2 ^ v) w ≡ 0
    go (yes l) = ap (λ (x : ℕ). bit x w) (sym (one-mul (2 ^ v))) ∙ bit_shl_low 1 v w l
    go (no g) = bit_high w {m = 2 ^ v} w (pow-lt (omega arith)) (omega arith)

-- two digits are equal where one is 1 just if the other is
pub bit_iff : (a b v : ℕ) → (Has a v → Has b v) → (Has b v → Has a v) → bit a v ≡ bit b v
bit_iff a b v f g = go (bit_cases a v) (bit_cases b v)
  where
    go : Lacks a v ⊎ Has a v → Lacks b v ⊎ Has b v → bit a v ≡ bit b v
    go (inl x) (inl y) = omega arith
    go (inl x) (inr y) = let z = g y in omega arith
    go (inr x) (inl y) = let z = f x in omega arith
    go (inr x) (inr y) = omega arith

pub lt_two_pow : (n : ℕ) → n < 2 ^ n
lt_two_pow zero = pow_pos 0
lt_two_pow (suc n) = omega (arith, lt_two_pow n, pow-suc 2 n)

-- numbers with the same digits are equal
pub ext_all : (a b : ℕ) → ((v : ℕ) → bit a v ≡ bit b v) → a ≡ b
ext_all a b f = ext_below (a + b) a b (below a b) (let e : a + b ≡ b + a = omega arith in rw e (below b a)) (λ v h. f v)
  where
    below : (x y : ℕ) → x < 2 ^ (x + y)
    below x y = lt_of_lt_of_le (lt_two_pow x) (pow_mono (omega arith))
