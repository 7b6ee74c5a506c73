-- What a test lets stay of a set and of lists. Assumes nothing.
use mathlib.Core.Path.{◌≡◌, refl, ap, sym, ◌∙◌}
use mathlib.Core.Logic.{◌↔◌}
use mathlib.Core.Bool.{Bool, true, false, cond, ◌&&◌}
use mathlib.Core.List.{List, [], ◌∷◌}
use Prim.Native.Nat.{ℕ, zero, suc, ◌+◌, ◌*◌, ◌/◌, ◌%◌, ◌^◌, ◌<◌}
use native.Mathlib.Nat.{pow-suc}
use native.Mathlib.Omega.{arith}
use lib.Dec.{T, eqb, eqb→eq}
use lib.Pow.{pow_pos}
use lib.ListN.{length}
use Rattle.meaning.specs.Limits.{value_limit}
use Rattle.meaning.specs.Values.{bit, Has}
use Rattle.meaning.specs.Lists.{Left}
use Rattle.meaning.proofs.Tests.{and_left, and_right, and_both, eq-eqb}
use Rattle.meaning.proofs.Digits.{bit_zero, bit_suc, zero_bit}
use Rattle.meaning.proofs.Listed.{Words}

-- the values v below n that are in m and pass p
unfoldable pub kept : ℕ → (ℕ → Bool) → ℕ → ℕ
kept zero p m = 0
kept (suc n) p m = cond (eqb (m % 2) 1 && p 0) 1 0 + 2 * kept n (λ v. p (suc v)) (m / 2)

low : (b : Bool) (f : ℕ) → (bit (cond b 1 0 + 2 * f) 0 ≡ 1) ↔ T b
low true f = (λ h. tt, λ t. bit_zero (1 + 2 * f) ∙ omega arith)
low false f = (λ h. absurd (omega (arith, bit_zero (0 + 2 * f))), absurd)

high : (b : Bool) (f v : ℕ) → bit (cond b 1 0 + 2 * f) (suc v) ≡ bit f v
high true f v = let e : (1 + 2 * f) / 2 ≡ f = omega arith in bit_suc (1 + 2 * f) v ∙ ap (λ (x : ℕ). bit x v) e
high false f v = let e : (0 + 2 * f) / 2 ≡ f = omega arith in bit_suc (0 + 2 * f) v ∙ ap (λ (x : ℕ). bit x v) e

kept_says : (n : ℕ) (p : ℕ → Bool) (m v : ℕ) → Has (kept n p m) v → (v < n) × Has m v × T (p v)
unfolding kept
kept_says zero p m v h = absurd (omega (arith, zero_bit v))
kept_says (suc n) p m zero h =
    let t = (low (eqb (m % 2) 1 && p 0) (kept n (λ v. p (suc v)) (m / 2))).0 h in
    (omega arith, bit_zero m ∙ eqb→eq (m % 2) 1 (and_left (eqb (m % 2) 1) (p 0) t), and_right (eqb (m % 2) 1) (p 0) t)
kept_says (suc n) p m (suc v) h =
    let w = kept_says n (λ v. p (suc v)) (m / 2) v (sym (high (eqb (m % 2) 1 && p 0) (kept n (λ v. p (suc v)) (m / 2)) v) ∙ h) in
    (omega (arith, w.0), bit_suc m v ∙ w.1, w.2)

says_kept : (n : ℕ) (p : ℕ → Bool) (m v : ℕ) → v < n → Has m v → T (p v) → Has (kept n p m) v
unfolding kept
says_kept zero p m v l h t = absurd (omega arith)
says_kept (suc n) p m zero l h t =
    (low (eqb (m % 2) 1 && p 0) (kept n (λ v. p (suc v)) (m / 2))).1
    (and_both (eqb (m % 2) 1) (p 0) (eq-eqb (sym (bit_zero m) ∙ h)) t)
says_kept (suc n) p m (suc v) l h t =
    high (eqb (m % 2) 1 && p 0) (kept n (λ v. p (suc v)) (m / 2)) v
    ∙ says_kept n (λ v. p (suc v)) (m / 2) v (omega arith) (sym (bit_suc m v) ∙ h) t

kept_small : (n : ℕ) (p : ℕ → Bool) (m : ℕ) → kept n p m < 2 ^ n
unfolding kept
kept_small zero p m = pow_pos 0
kept_small (suc n) p m = step (eqb (m % 2) 1 && p 0) (kept n (λ v. p (suc v)) (m / 2)) (kept_small n (λ v. p (suc v)) (m / 2))
  where
    step : (b : Bool) (f : ℕ) → f < 2 ^ n → cond b 1 0 + 2 * f < 2 ^ suc n
    step true f h = omega (arith, pow-suc 2 n)
    step false f h = omega (arith, pow-suc 2 n)

-- the values v of each x that pass p
unfoldable pub sieve : (ℕ → ℕ → Bool) → List ℕ → List ℕ
sieve p [] = []
sieve p (m ∷ L) = kept value_limit (p 0) m ∷ sieve (λ x. p (suc x)) L

pub sieve_long : (p : ℕ → ℕ → Bool) (L : List ℕ) → length (sieve p L) ≡ length L
unfolding sieve
sieve_long p [] = refl
sieve_long p (m ∷ L) = ap suc (sieve_long (λ x. p (suc x)) L)

pub sieve_says : (p : ℕ → ℕ → Bool) (L : List ℕ) (x v : ℕ) → Left (sieve p L) x v → (v < value_limit) × Left L x v × T (p x v)
unfolding sieve
sieve_says p [] x v h = absurd (omega (arith, zero_bit v))
sieve_says p (m ∷ L) zero v h = kept_says value_limit (p 0) m v h
sieve_says p (m ∷ L) (suc x) v h = sieve_says (λ x. p (suc x)) L x v h

pub says_sieve : (p : ℕ → ℕ → Bool) (L : List ℕ) (x v : ℕ) → v < value_limit → Left L x v → T (p x v) → Left (sieve p L) x v
unfolding sieve
says_sieve p [] x v l h t = absurd (omega (arith, zero_bit v))
says_sieve p (m ∷ L) zero v l h t = says_kept value_limit (p 0) m v l h t
says_sieve p (m ∷ L) (suc x) v l h t = says_sieve (λ x. p (suc x)) L x v l h t

pub sieve_words : (p : ℕ → ℕ → Bool) (L : List ℕ) → Words (sieve p L)
unfolding sieve
sieve_words p [] x = pow_pos value_limit
sieve_words p (m ∷ L) zero = kept_small value_limit (p 0) m
sieve_words p (m ∷ L) (suc x) = sieve_words (λ x. p (suc x)) L x
