-- What stands has one answer at most. Assumes nothing.
use mathlib.Core.Path.{◌≡◌, sym, ◌∙◌}
use mathlib.Core.Logic.{⊎_elim}
use mathlib.Core.List.{List}
use Prim.Native.Nat.{ℕ}
use lib.ListN.{length-map}
use Rattle.meaning.specs.Rules.{at}
use Rattle.meaning.specs.Order.{sorted}
use Rattle.meaning.specs.Standing.{Standing}
use Rattle.meaning.specs.Solutions.{Answer, profile}
use Rattle.meaning.proofs.Leximin.{≺_tri, better_tri}

module _ {w : Standing} {a b : List ℕ} (p : Answer w a) (q : Answer w b) where
  -- neither is better
  tied : sorted (profile w a) ≡ sorted (profile w b)
  tied =
      ⊎_elim (λ h. absurd (p.best b q.solution h)) (⊎_elim (λ e. e) (λ h. absurd (q.best a p.solution h)))
      (better_tri (profile w a) (profile w b) (length-map w.objectives (at a) ∙ sym (length-map w.objectives (at b))))

  -- and neither is first
  pub answer_unique : a ≡ b
  answer_unique =
      ⊎_elim (λ h. absurd (q.first a p.solution tied h)) (⊎_elim (λ e. e) (λ h. absurd (p.first b q.solution (sym tied) h)))
      (≺_tri a b (p.solution.long ∙ sym q.solution.long))
