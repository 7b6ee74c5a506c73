-- Sets that are equal, empty, of one value, or the same but for one value. Assumes nothing.
use mathlib.Core.Path.{◌≡◌, sym, ◌∙◌}
use mathlib.Core.Logic.{◌⊎◌, inl, inr, ◌↔◌, by_cases}
use Prim.Native.Nat.{ℕ, zero, suc, ◌+◌, ◌-◌, ◌%◌, ◌^◌, ◌≤◌, ◌<◌}
use native.Mathlib.Nat.{mod-lt}
use native.Mathlib.Omega.{arith}
use native.Mathlib.Decide.{ℕ_discrete, dec_lt}
use lib.Pow.{pow_pos}
use lib.Bits.{bit_and, bit_or}
use Rattle.meaning.specs.Values.{bit, Has, Lacks, total, size}
use Rattle.meaning.proofs.Digits.{bit_lt, bit_cases, lacks_of_not, zero_bit, has_small, lt_two_pow, ext, ext_below, ext_all, bit_high, bit_mod, bit_of_and, bit_of_or, bit_pow_same, bit_pow_other, bit_iff}
use Rattle.meaning.proofs.Sizes.{Subset, total_ext, total_at, total_ge, total_some, size_at, size_some, size_lt, size_of_zero}

-- ---- equal sets

pub antisymm : (a b : ℕ) → a < 2 ^ 64 → b < 2 ^ 64 → Subset a b → Subset b a → a ≡ b
antisymm a b ha hb f g = ext a b ha hb (λ v l. bit_iff a b v (f v) (g v))

-- a subset of the same size is the whole
pub same_size : (a b : ℕ) → a < 2 ^ 64 → b < 2 ^ 64 → Subset a b → size a ≡ size b → a ≡ b
same_size a b ha hb f e = antisymm a b ha hb f (λ v x. go v x (bit_cases a v))
  where
    go : (v : ℕ) → Has b v → Lacks a v ⊎ Has a v → Has a v
    go v x (inl y) = let s = size_lt a b v f (has_small b v hb x) x y in absurd (omega arith)
    go v x (inr y) = y

-- ---- the empty set

pub lacks_zero : (m : ℕ) → m < 2 ^ 64 → ((v : ℕ) → v < 64 → Lacks m v) → m ≡ 0
lacks_zero m h f = ext m 0 h (omega arith) (λ v l. f v l ∙ sym (zero_bit v))

pub size_zero : (m : ℕ) → m < 2 ^ 64 → size m ≡ 0 → m ≡ 0
size_zero m h e = lacks_zero m h (λ v l. let p = total_ge (bit m) 64 v l in omega arith)

pub has_nonzero : (m v : ℕ) → Has m v → 0 < m
has_nonzero zero v e = let z = zero_bit v in absurd (omega arith)
has_nonzero (suc m) v e = omega arith

pub nonzero_has : (m : ℕ) → m < 2 ^ 64 → 0 < m → (v : ℕ) × (v < 64) × Has m v
nonzero_has m h p = size_some m (go (dec_lt 0 (size m)))
  where
    go : Dec (0 < size m) → 0 < size m
    go (yes q) = q
    go (no f) = let e = size_zero m h (omega arith) in absurd (omega arith)

-- a number above 0 has a digit 1, however large it is
pub some_digit : (m : ℕ) → 0 < m → (v : ℕ) × Has m v
some_digit m p =
    let (v, l, h) = total_some (bit m) m (go (dec_lt 0 (total (bit m) m))) in
    let b = bit_lt m v in
    (v, omega arith)
  where
    go : Dec (0 < total (bit m) m) → 0 < total (bit m) m
    go (yes q) = q
    go (no f) =
        let e = ext_below m m 0 (lt_two_pow m) (pow_pos m) (λ v l. let t = total_ge (bit m) m v l in let z = zero_bit v in omega arith) in
        absurd (omega arith)

-- a number with no digit 1 from the 64th on is a word
pub word_of_digits : (m : ℕ) → ((v : ℕ) → 64 ≤ v → Lacks m v) → m < 2 ^ 64
word_of_digits m f = rw e (mod-lt m (pow_pos 64))
  where
    e : m ≡ m % 2 ^ 64
    e = ext_all m (m % 2 ^ 64) λ v. by_cases (dec_lt v 64) (λ l. sym (bit_mod m 64 v l))
        (λ n. f v (omega arith) ∙ sym (bit_high 64 {m = m % 2 ^ 64} v (mod-lt m (pow_pos 64)) (omega arith)))

pub nonzero_iff : (m : ℕ) → m < 2 ^ 64 → (0 < m) ↔ ((v : ℕ) × (v < 64) × Has m v)
nonzero_iff m h = (nonzero_has m h, λ (v, l, e). has_nonzero m v e)

-- ---- one value

-- v and no other
pub size_alone : (m v : ℕ) → v < 64 → Has m v → ((w : ℕ) → ¬ (w ≡ v) → Lacks m w) → size m ≡ 1
size_alone m v l x u =
    let s = size_at m 0 v l (λ w d. u w d ∙ sym (zero_bit w)) in
    let z = zero_bit v in
    let o = size_of_zero in
    omega arith

pub one_size : (m v : ℕ) → m < 2 ^ 64 → Has m v → ((w : ℕ) → Has m w → w ≡ v) → size m ≡ 1
one_size m v h x u = size_alone m v (has_small m v h x) x (λ w d. lacks_of_not m w (λ y. d (u w y)))

-- two values
pub size_two : (m v w : ℕ) → v < 64 → w < 64 → Has m v → Has m w → ¬ (w ≡ v) → 1 < size m
size_two m v w l k x y d =
    let s = total_at (bit m) rest 64 v l (λ u e. let p = bit_pow_other v u e in omega arith) in
    let t = total_ge rest 64 w k in
    let p = bit_pow_same v in
    let q = bit_pow_other v w d in
    omega arith
  where
    rest : ℕ → ℕ
    rest u = bit m u - bit (2 ^ v) u

pub size_one : (m : ℕ) → m < 2 ^ 64 → size m ≡ 1 → (v : ℕ) × (v < 64) × Has m v × ((w : ℕ) → Has m w → w ≡ v)
size_one m h e = let (v, l, x) = size_some m (omega arith) in (v, l, x, λ w y. same v l x w y (ℕ_discrete w v))
  where
    same : (v : ℕ) → v < 64 → Has m v → (w : ℕ) → Has m w → Dec (w ≡ v) → w ≡ v
    same v l x w y (yes q) = q
    same v l x w y (no d) = let s = size_two m v w l (has_small m w h y) x y d in absurd (omega arith)

pub size_one_iff : (m : ℕ) → m < 2 ^ 64 → (size m ≡ 1) ↔ ((v : ℕ) × (v < 64) × Has m v × ((w : ℕ) → Has m w → w ≡ v))
size_one_iff m h = (size_one m h, λ (v, l, e, u). one_size m v h e u)

-- ---- the same but for one value

-- a and b differ at most at v, and there only where v is a value: their sizes differ by v's digits
pub size_change : (a b v : ℕ) → ((w : ℕ) → ¬ (w ≡ v) → bit a w ≡ bit b w) → (64 ≤ v → bit a v ≡ bit b v)
    → size a + bit b v ≡ size b + bit a v
size_change a b v h k = go (dec_lt v 64)
  where
    go : Dec (v < 64) → size a + bit b v ≡ size b + bit a v
    go (yes l) = size_at a b v l h
    go (no f) =
        let s = total_ext (bit a) (bit b) 64 (λ w j. h w (λ e. omega arith)) in
        let e = k (omega arith) in
        omega arith

-- ---- shared and joined values, as equivalences

pub and_iff : (a b v : ℕ) → Has (bit_and a b) v ↔ (Has a v × Has b v)
and_iff a b v =
    let x = bit_of_and a b v in
    let p = bit_lt a v in
    let q = bit_lt b v in
    (λ e. (omega arith, omega arith), λ (e, d). omega arith)

pub or_iff : (a b v : ℕ) → Has (bit_or a b) v ↔ (Has a v ⊎ Has b v)
or_iff a b v = (λ e. go e (bit_cases a v), back)
  where
    go : Has (bit_or a b) v → Lacks a v ⊎ Has a v → Has a v ⊎ Has b v
    go e (inl d) = let x = bit_of_or a b v in inr (omega arith)
    go e (inr d) = inl d

    back : Has a v ⊎ Has b v → Has (bit_or a b) v
    back (inl d) = let x = bit_of_or a b v in let q = bit_lt b v in omega arith
    back (inr d) = let x = bit_of_or a b v in let p = bit_lt a v in omega arith
