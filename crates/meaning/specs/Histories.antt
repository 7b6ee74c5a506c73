-- Histories of calls on a new state, refused calls included, and histories of which no call was refused.
use Rattle.std.specs.Prelude.{◌≡◌, List, [], ◌∷◌, ℕ}
use Rattle.meaning.specs.Standing.{Standing, nothing}
use Rattle.meaning.specs.Lists.{Largest}
use Rattle.meaning.specs.Calls.{Call, refusal, after}

-- The history, its latest call first, leaves w standing.
pub data Leaves : List Call → Standing → Type 0 where
  none : Leaves [] nothing
  call : {h : List Call} {w : Standing} {L : List ℕ} (c : Call) → Leaves h w → Largest w L → Leaves (c ∷ h) (after w L c)

-- the call c is accepted after the history h
pub record Accepted (h : List Call) (c : Call) : Type 0 where
  pub stands : Standing
  pub lists : List ℕ
  pub leaves : Leaves h stands
  pub largest : Largest stands lists
  pub passes : refusal stands lists c ≡ 0

-- every call of the history was accepted
abbrev pub AllAccepted : List Call → Type 0
AllAccepted [] = Unit
AllAccepted (c ∷ h) = AllAccepted h × Accepted h c
