-- P1 and P2 of document 01, and which slice they make `better_of` hand back.
-- Assumes nothing.
use mathlib.Core.Path.{◌≡◌, refl, sym}
use mathlib.Core.Logic.{inl, inr}
use mathlib.Core.List.{List, [], ◌∷◌}
use Prim.Native.Nat.{ℕ}
use native.Mathlib.Omega.{arith}
use denote.Ref.{Bor}
use Rattle.meaning.specs.Order.{insert, sorted, Better}
use Rattle.meaning.proofs.Leximin.{better_asym, tie_not_better}
use Rattle.profile.specs.Compared.{BetterOf}

abbrev p4151 : List ℕ
p4151 = 4 ∷ 1 ∷ 5 ∷ 1 ∷ []

abbrev p2212 : List ℕ
p2212 = 2 ∷ 2 ∷ 1 ∷ 2 ∷ []

abbrev p1145 : List ℕ
p1145 = 1 ∷ 1 ∷ 4 ∷ 5 ∷ []

pub P1 : Better p2212 p4151
unfolding insert sorted
P1 = inr (refl, inl (omega arith))

pub P2 : sorted p4151 ≡ sorted p1145
unfolding insert sorted
P2 = refl

pub P2_neither : (¬ Better p4151 p1145) × (¬ Better p1145 p4151)
P2_neither = (tie_not_better p1145 p4151 (sym P2), tie_not_better p4151 p1145 P2)

module _ (first second r : Bor (List ℕ)) (h : BetterOf first second r) where
  -- the better one, at either place
  pub P1_second : first.now ≡ p4151 → second.now ≡ p2212 → r ≡ second
  P1_second e q = h.second_better (rw (e, q)) (rw (e, q) P1)

  pub P1_first : first.now ≡ p2212 → second.now ≡ p4151 → r ≡ first
  P1_first e q = h.first_otherwise (rw (e, q)) (rw (e, q) (better_asym p4151 p2212 P1))

  -- the first of two that tie
  pub P2_first : first.now ≡ p4151 → second.now ≡ p1145 → r ≡ first
  P2_first e q = h.first_otherwise (rw (e, q)) (rw (e, q) P2_neither.1)

  pub P2_first_too : first.now ≡ p1145 → second.now ≡ p4151 → r ≡ first
  P2_first_too e q = h.first_otherwise (rw (e, q)) (rw (e, q) P2_neither.0)
