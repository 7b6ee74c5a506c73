-- The first test that holds. Assumes nothing.
use mathlib.Core.Path.{◌≡◌, sym, ap, ◌∙◌}
use mathlib.Core.Logic.{◌⊎◌, inl, inr}
use mathlib.Core.Bool.{Bool, true, false, cond}
use mathlib.Core.List.{List, [], ◌∷◌}
use Prim.Native.Nat.{ℕ}
use Rattle.meaning.specs.Refusals.{Refusal, number, first}

-- n is the number of the first test that holds: for each test on the way there, why it does or does not hold
abbrev pub Finds : List (Bool × Refusal) → ℕ → Type 0
Finds [] n = n ≡ 0
Finds (t ∷ ts) n = ((t.0 ≡ true) × (n ≡ number t.1)) ⊎ ((t.0 ≡ false) × Finds ts n)

pub finds : (ts : List (Bool × Refusal)) (n : ℕ) → Finds ts n → first ts ≡ n
unfolding first
finds [] n e = sym e
finds (t ∷ ts) n (inl (e, f)) = ap (λ (b : Bool). cond b (number t.1) (first ts)) e ∙ sym f
finds (t ∷ ts) n (inr (e, f)) = ap (λ (b : Bool). cond b (number t.1) (first ts)) e ∙ finds ts n f
