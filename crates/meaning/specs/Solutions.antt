-- Solutions, and which of them solving answers with: the leximin-best, and of these the first by variable number, low values first.
use Rattle.std.specs.Prelude.{◌≡◌, ℕ, ◌<◌, length, drop}
use mathlib.Core.List.{List, Memᴰ, ◌++◌}
use Rattle.meaning.specs.Rules.{Rule, Satisfies, at, values_at}
use Rattle.meaning.specs.Order.{sorted, ◌≺◌, Better}
use Rattle.meaning.specs.Standing.{Standing, Decision, Permits}
use Rattle.meaning.specs.Lists.{Left}

-- each variable has a declared value, and every rule and outstanding decision holds
pub record Solution (w : Standing) (a : List ℕ) : Type 0 where
  pub long : length a ≡ length w.declared
  pub declared : (x : ℕ) → x < length a → Left w.declared x (at a x)
  pub rules : (r : Rule) → Memᴰ r w.rules → Satisfies r a
  pub decisions : (d : Decision) → Memᴰ d w.decisions → (x : ℕ) → x < length a → Permits d x (at a x)

abbrev pub profile : Standing → List ℕ → List ℕ
profile w a = values_at a w.objectives

-- what solving answers with: no solution is better, and none that ties is smaller at the lowest variable where they differ
pub record Answer (w : Standing) (a : List ℕ) : Type 0 where
  pub solution : Solution w a
  pub best : (b : List ℕ) → Solution w b → ¬ Better (profile w b) (profile w a)
  pub first : (b : List ℕ) → Solution w b → sorted (profile w b) ≡ sorted (profile w a) → ¬ (b ≺ a)

abbrev pub Inconsistent : Standing → Type 0
Inconsistent w = (a : List ℕ) → ¬ Solution w a

-- the buffer with the answer at its first places; later places stay
abbrev pub written : List ℕ → List ℕ → List ℕ
written a buffer = a ++ drop (length a) buffer
