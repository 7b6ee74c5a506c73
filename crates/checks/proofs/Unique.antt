-- Any two results that a public contract of this crate allows are the same. Assumes nothing.
use mathlib.Core.Path.{◌≡◌, sym, ◌∙◌}
use mathlib.Core.List.{List}
use Prim.Native.Nat.{ℕ}
use lib.IntN.{ℤ}
use Rattle.std.specs.Prelude.{Result}
use Rattle.refusals.specs.declared.Refusal.{Refusal}
use Rattle.refusals.proofs.Unique.{answer_unique}
use Rattle.checks.specs.declared.Counts.{Counts}
use Rattle.checks.specs.Tests.{TestsTable, TestsLinear}

module _ (counts : Counts) (scope : List ℕ) (a b : Result Unit Refusal) where
  pub table_tested_unique : (cells : List ℕ) → TestsTable counts scope cells a → TestsTable counts scope cells b → a ≡ b
  table_tested_unique cells h k = answer_unique a b (h ∙ sym k)

  pub linear_tested_unique : (coefficients : List ℤ) (bound : ℤ) → TestsLinear counts scope coefficients bound a
      → TestsLinear counts scope coefficients bound b → a ≡ b
  linear_tested_unique coefficients bound h k = answer_unique a b (h ∙ sym k)
