-- Which lengths can be compared.
-- Assumes nothing.
use mathlib.Core.Path.{◌≡◌, refl, sym, ◌∙◌}
use mathlib.Core.Logic.{by_cases}
use mathlib.Core.Bool.{Bool, true, false, ◌&&◌, false≢true}
use mathlib.Core.List.{List}
use Prim.Native.Nat.{ℕ, ◌≤◌, ◌<◌}
use native.Mathlib.Omega.{arith}
use native.Mathlib.Decide.{ℕ_discrete, dec_le, dec_lt}
use borrow.Author.Tests.{lt-ltb, le-ltb, eq-eqb, ne_eqb}
use lib.Dec.{eqb}
use lib.ListN.{length}
use Rattle.meaning.specs.Order.{outside, comparable}

pub outside_within : (k n : ℕ) → 0 < n → n ≤ k → outside k n ≡ false
outside_within k n h l = simp (ne_eqb n 0 (λ e. omega arith), le-ltb k n l)

pub outside_none : (k n : ℕ) → n ≡ 0 → outside k n ≡ true
outside_none k n e = simp (eq-eqb n 0 e)

pub outside_above : (k n : ℕ) → k < n → outside k n ≡ true
outside_above k n h = simp (ne_eqb n 0 (λ e. omega arith), lt-ltb k n h)

module _ (u w : List ℕ) where
  pub comparable_yes : length u ≡ length w → 0 < length u → length u ≤ 16 → comparable u w ≡ true
  comparable_yes e h l = simp (eq-eqb (length u) (length w) e, outside_within 16 (length u) h l)

  pub not_one_length : (length u ≡ length w → ⊥) → comparable u w ≡ false
  not_one_length f = simp (ne_eqb (length u) (length w) f)

  pub not_in_range : outside 16 (length u) ≡ true → comparable u w ≡ false
  not_in_range e = simp e (step (eqb (length u) (length w)))
    where
      step : (b : Bool) → (b && false) ≡ false
      step true = refl
      step false = refl

pub comparable_lengths : (u w : List ℕ) → comparable u w ≡ true → (length u ≡ length w) × (0 < length u) × (length u ≤ 16)
comparable_lengths u w e = (
  by_cases (ℕ_discrete (length u) (length w)) (λ q. q) (λ f. absurd (false≢true (sym (not_one_length u w f) ∙ e))),
  by_cases (dec_lt 0 (length u)) (λ h. h) (λ f. absurd (refuse (outside_none 16 (length u) (omega arith)))),
  by_cases (dec_le (length u) 16) (λ h. h) (λ f. absurd (refuse (outside_above 16 (length u) (omega arith)))),
)
  where
    refuse : outside 16 (length u) ≡ true → ⊥
    refuse o = false≢true (sym (not_in_range u w o) ∙ e)

pub comparable_sym : (u w : List ℕ) → comparable u w ≡ true → comparable w u ≡ true
comparable_sym u w e =
    let (q, h, l) = comparable_lengths u w e in
    comparable_yes w u (sym q) (omega arith) (omega arith)
