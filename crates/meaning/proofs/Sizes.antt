-- Sums over the numbers below n, and the size of a set: how many digits are 1.
-- Assumes nothing.
use mathlib.Core.Path.{◌≡◌, refl, sym, ap}
use mathlib.Core.Logic.{◌⊎◌, inl, inr}
use Prim.Native.Nat.{ℕ, zero, suc, ◌+◌, ◌/◌, ◌^◌, ◌≤◌, ◌<◌, zero-le}
use native.Mathlib.Nat.{pow-suc}
use native.Mathlib.Numerals.{add-one}
use native.Mathlib.Omega.{arith}
use native.Mathlib.Decide.{ℕ_discrete, dec_lt}
use lib.Arith.{lt-one}
use lib.Count.{ones, ones_step}
use Rattle.meaning.specs.Values.{bit, Has, Lacks, total, size}
use Rattle.meaning.proofs.Digits.{bit_lt, bit_cases, bit_zero, bit_suc, zero_bit}

-- every value of a is one of b
abbrev pub Subset : ℕ → ℕ → Type 0
Subset a b = (v : ℕ) → Has a v → Has b v

pub total_ext : (f g : ℕ → ℕ) (n : ℕ) → ((v : ℕ) → v < n → f v ≡ g v) → total f n ≡ total g n
unfolding total
total_ext f g zero h = refl
total_ext f g (suc n) h = let i = total_ext f g n (λ v l. h v (omega arith)) in let j = h n (omega arith) in omega arith

pub total_le : (f g : ℕ → ℕ) (n : ℕ) → ((v : ℕ) → v < n → f v ≤ g v) → total f n ≤ total g n
unfolding total
total_le f g zero h = zero-le
total_le f g (suc n) h = let i = total_le f g n (λ v l. h v (omega arith)) in let j = h n (omega arith) in omega arith

-- f is g but at u, where it is f u: the sums differ by that
pub total_at : (f g : ℕ → ℕ) (n u : ℕ) → u < n → ((v : ℕ) → (v ≡ u → ⊥) → f v ≡ g v) → total f n + g u ≡ total g n + f u
unfolding total
total_at f g zero u l h = absurd (omega arith)
total_at f g (suc n) u l h = go (ℕ_discrete u n) (λ k. total_at f g n u k h)
  where
    go : Dec (u ≡ n) → (u < n → total f n + g u ≡ total g n + f u) → total f n + f n + g u ≡ total g n + g n + f u
    go (yes e) ih =
        let i = total_ext f g n (λ v k. h v (λ d. omega arith)) in
        let x = ap f e in
        let y = ap g e in
        omega arith
    go (no d) ih = let i = ih (omega arith) in let j = h n (λ e. d (sym e)) in omega arith

pub total_none : (f : ℕ → ℕ) (n : ℕ) → ((v : ℕ) → v < n → f v ≡ 0) → total f n ≡ 0
unfolding total
total_none f zero h = refl
total_none f (suc n) h = let i = total_none f n (λ v l. h v (omega arith)) in let j = h n (omega arith) in omega arith

pub total_ge : (f : ℕ → ℕ) (n u : ℕ) → u < n → f u ≤ total f n
unfolding total
total_ge f zero u l = absurd (omega arith)
total_ge f (suc n) u l = go (ℕ_discrete u n) (λ k. total_ge f n u k)
  where
    go : Dec (u ≡ n) → (u < n → f u ≤ total f n) → f u ≤ total f n + f n
    go (yes e) ih = let x = ap f e in omega arith
    go (no d) ih = let i = ih (omega arith) in omega arith

-- a sum that is not 0 has a term that is not
pub total_some : (f : ℕ → ℕ) (n : ℕ) → 0 < total f n → (v : ℕ) × (v < n) × (0 < f v)
unfolding total
total_some f zero h = absurd (omega arith)
total_some f (suc n) h = go (dec_lt 0 (f n)) (λ k. total_some f n k)
  where
    go : Dec (0 < f n) → (0 < total f n → (v : ℕ) × (v < n) × (0 < f v)) → (v : ℕ) × (v < suc n) × (0 < f v)
    go (yes p) ih = (n, omega arith, p)
    go (no d) ih = let (v, l, p) = ih (omega arith) in (v, omega arith, p)

-- the sum from the other end
pub total_front : (f : ℕ → ℕ) (n : ℕ) → total f (suc n) ≡ f 0 + total (λ v. f (suc v)) n
unfolding total
total_front f zero = omega arith
total_front f (suc n) = let i = total_front f n in omega arith

-- a stretch of zeros adds nothing
pub total_skip : (f : ℕ → ℕ) (a b : ℕ) → a ≤ b → ((w : ℕ) → a ≤ w → w < b → f w ≡ 0) → total f b ≡ total f a
unfolding total
total_skip f a zero l h = ap (total f) {x = 0} {y = a} (omega arith)
total_skip f a (suc b) l h = go (ℕ_discrete a (suc b)) (λ k. total_skip f a b k (λ w i j. h w i (omega arith)))
  where
    go : Dec (a ≡ suc b) → (a ≤ b → total f b ≡ total f a) → total f b + f b ≡ total f a
    go (yes e) ih = ap (total f) (sym e)
    go (no d) ih = let i = ih (omega arith) in let z = h b (omega arith) (omega arith) in omega arith

-- for a loop that counts up: so a client's proof need not unfold `total`, which would write out the 64 digits of a `size`
pub total_start : (f : ℕ → ℕ) → total f 0 ≡ 0
unfolding total
total_start f = refl

pub total_next : (f : ℕ → ℕ) (n : ℕ) → total f (n + 1) ≡ total f n + f n
unfolding total
total_next f n = ap (total f) (add-one n)

-- ---- the size

-- `count_ones` counts the members
pub ones_total : (n m : ℕ) → m < 2 ^ n → ones m ≡ total (bit m) n
unfolding total ones
ones_total zero m h = ap ones (lt-one h)
ones_total (suc n) m h =
    let p = pow-suc 2 n in
    let i = ones_total n (m / 2) (omega arith) in
    let f = total_front (bit m) n in
    let e = total_ext (λ v. bit m (suc v)) (bit (m / 2)) n (λ v l. bit_suc m v) in
    let z = bit_zero m in
    let s = ones_step m in
    omega arith

pub ones_size : (m : ℕ) → m < 2 ^ 64 → ones m ≡ size m
ones_size m h = ones_total 64 m h

-- a subset is no larger
pub size_le : (a b : ℕ) → Subset a b → size a ≤ size b
size_le a b h = total_le (bit a) (bit b) 64 (λ v l. step v (bit_cases a v))
  where
    step : (v : ℕ) → Lacks a v ⊎ Has a v → bit a v ≤ bit b v
    step v (inl e) = omega arith
    step v (inr e) = let k = h v e in omega arith

-- at v the size changes by v's digit
pub size_at : (a b v : ℕ) → v < 64 → ((w : ℕ) → (w ≡ v → ⊥) → bit a w ≡ bit b w) → size a + bit b v ≡ size b + bit a v
size_at a b v l h = total_at (bit a) (bit b) 64 v l h

pub size_none : (m : ℕ) → ((v : ℕ) → v < 64 → Lacks m v) → size m ≡ 0
size_none m h = total_none (bit m) 64 h

pub size_some : (m : ℕ) → 0 < size m → (v : ℕ) × (v < 64) × Has m v
size_some m h = let (v, l, p) = total_some (bit m) 64 h in let q = bit_lt m v in (v, l, omega arith)

pub size_has : (m v : ℕ) → v < 64 → Has m v → 0 < size m
size_has m v l e = let p = total_ge (bit m) 64 v l in omega arith

pub total_lt : (f g : ℕ → ℕ) (n u : ℕ) → u < n → ((v : ℕ) → v < n → f v ≤ g v) → f u < g u → total f n < total g n
unfolding total
total_lt f g zero u l h s = absurd (omega arith)
total_lt f g (suc n) u l h s = go (ℕ_discrete u n) (λ k. total_lt f g n u k (λ v j. h v (omega arith)) s)
  where
    go : Dec (u ≡ n) → (u < n → total f n < total g n) → total f n + f n < total g n + g n
    go (yes e) ih =
        let i = total_le f g n (λ v k. h v (omega arith)) in
        let x = ap f e in
        let y = ap g e in
        omega arith
    go (no d) ih = let i = ih (omega arith) in let j = h n (omega arith) in omega arith

-- a proper subset is smaller
pub size_lt : (a b v : ℕ) → Subset a b → v < 64 → Has b v → Lacks a v → size a < size b
size_lt a b u h l e d = total_lt (bit a) (bit b) 64 u l (λ v k. step v (bit_cases a v)) (omega arith)
  where
    step : (v : ℕ) → Lacks a v ⊎ Has a v → bit a v ≤ bit b v
    step v (inl z) = omega arith
    step v (inr z) = let k = h v z in omega arith

pub size_of_zero : size 0 ≡ 0
size_of_zero = size_none 0 (λ v l. zero_bit v)

pub size_max : (m : ℕ) → size m ≤ 64
unfolding total
size_max m = total_le (bit m) (λ v. 1) 64 (λ v l. let b = bit_lt m v in omega arith)
