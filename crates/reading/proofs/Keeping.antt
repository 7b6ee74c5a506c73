-- What holds of all that is read one after the other, where each thing read keeps it so. Assumes nothing.
use mathlib.Core.Path.{◌≡◌, sym, ap, ◌∙◌, subst}
use mathlib.Core.List.{List, [], ◌∷◌, ◌++◌}
use Prim.Native.Nat.{ℕ, zero, suc, ◌+◌, ◌<◌}
use native.Mathlib.Omega.{arith}
use lib.ListN.{length, length-append}
use Rattle.meaning.proofs.Proper.{Passed}
use Rattle.reading.specs.Reading.{Reading, got, times, Tests, number, several}
use Rattle.reading.proofs.Readings.{what_or, split}
use Rattle.reading.proofs.Judging.{tests_passed}

module _ {A : Type 0} (one : List A → ℕ → Reading A) (count : ℕ) (Kept : List A → Type 0)
    (keeps : (before : List A) (x : A) (at place : ℕ) → length before < count → Kept before → one before at ≡ got x place → Kept (before ++ (x ∷ []))) where
  kept_from : (k : ℕ) (before : List A) (at : ℕ) {l : List A} {place : ℕ} → length before + k ≡ count → Kept before → times one k before at ≡ got l place → (length l ≡ count) × Kept l
  unfolding times
  kept_from zero before at h kept e =
      let same = ap (what_or before) e in
      (sym (ap length same) ∙ omega arith, subst Kept same kept)
  kept_from (suc k) before at h kept e =
      let (x, p, e1, e2) = split (one before at) (λ x after. times one k (before ++ (x ∷ [])) after) e in
      kept_from k (before ++ (x ∷ [])) p (omega (arith, length-append before (x ∷ []))) (keeps before x at p (omega arith) kept e1) e2

  -- so many are read, and it holds of them
  pub all_kept : (at : ℕ) {l : List A} {place : ℕ} → Kept [] → times one count [] at ≡ got l place → (length l ≡ count) × Kept l
  all_kept at kept e = kept_from count [] at (omega arith) kept e

-- the same for numbers, each of which has passed its tests
pub numbers_kept : (text : List ℕ) (tests : List ℕ → Tests) (count : ℕ) (Kept : List ℕ → Type 0)
    → ((before : List ℕ) (v : ℕ) → length before < count → Kept before → Passed (tests before v) → Kept (before ++ (v ∷ [])))
    → (at : ℕ) {l : List ℕ} {place : ℕ} → Kept [] → several text tests count at ≡ got l place → (length l ≡ count) × Kept l
numbers_kept text tests count Kept keeps at kept e =
    all_kept (λ before p. number text (tests before) p) count Kept (λ before v p q h k read. keeps before v h k (tests_passed text (tests before) p read)) at kept e
