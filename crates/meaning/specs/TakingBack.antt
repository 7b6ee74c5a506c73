-- Taking back gives what stood: what a history left just before the decision that the take-back drops first was made.
-- Histories have their latest call first.
use Rattle.std.specs.Prelude.{◌≡◌, ◌↔◌, List, [], ◌∷◌, ◌++◌, ℕ, suc, ◌≤◌, ◌<◌, take, drop}
use Rattle.meaning.specs.Standing.{Standing, Decision, pinned, banned}
use Rattle.meaning.specs.Lists.{Largest}
use Rattle.meaning.specs.Calls.{Call, name_objectives, pin, ban, take_back, outstanding, refusal, decide, accepted}
use Rattle.meaning.specs.Histories.{Leaves}

-- the call that makes a decision
abbrev pub making : Decision → Call
making (pinned x v) = pin x v
making (banned x v) = ban x v

-- u, but for the objectives
abbrev pub with_objectives : Standing → List ℕ → Standing
with_objectives u xs = accepted u (name_objectives xs)

-- The history h leaves w, with more than k decisions outstanding. Before the (k + 1)-th of them was made:
pub record Stood (h : List Call) (w : Standing) (k : ℕ) : Type 0 where
  -- the history is earlier calls, the one that made the decision, and later ones
  pub later : List Call
  pub decision : Decision
  pub earlier : List Call
  pub history : h ≡ later ++ making decision ∷ earlier
  -- the earlier ones leave `before`, with k decisions outstanding, and the decision was accepted there
  pub before : Standing
  pub leaves : Leaves earlier before
  pub depth : outstanding before ≡ k
  pub made : Leaves (making decision ∷ earlier) (decide before decision)
  -- ever since it has been the (k + 1)-th: of what the history leaves, and of what it leaves without its latest n calls
  pub since : (n : ℕ) (v : Standing) → Leaves (drop n later ++ making decision ∷ earlier) v
      → take (suc k) v.decisions ≡ before.decisions ++ decision ∷ []
  -- taking back to depth k leaves `before`, but for the objectives, which stay; and so the values left are those that were left then
  pub back : accepted w (take_back k) ≡ with_objectives before w.objectives
  pub values : (L : List ℕ) → Largest (accepted w (take_back k)) L ↔ Largest before L

-- Taking back to depth k, of what the history h leaves: to fewer decisions than are outstanding it gives what stood, and to as many nothing changes.
pub record GivesWhatStood (h : List Call) (w : Standing) (k : ℕ) : Type 0 where
  pub taken : k ≤ outstanding w → (L : List ℕ) → refusal w L (take_back k) ≡ 0
  pub fewer : k < outstanding w → Stood h w k
  pub once : (s t : Stood h w k) → s.earlier ≡ t.earlier  -- there is one such part of the history
  pub same : k ≡ outstanding w → accepted w (take_back k) ≡ w
