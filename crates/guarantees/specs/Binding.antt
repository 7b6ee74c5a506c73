-- Document 01's cases P1 to P12 bind the routines: whatever a contract lets a routine answer, to the profiles of a row or after its calls, is what the row says.
use Rattle.std.specs.Prelude.{◌≡◌, Bool, true, false, List, reverse, ℕ, ◌≤◌, ◌<◌, length, get_or, Result, Ok}
use Rattle.std.specs.Borrow.{Bor}
use Rattle.meaning.specs.Solutions.{written}
use Rattle.meaning.specs.Calls.{Call}
use Rattle.cases.specs.Table.{Row, better, tie, solves, inconsistent, leaves}
use Rattle.profile.specs.Compared.{IsBetter, BetterOf}
use Rattle.state.specs.declared.State.{State}
use Rattle.state.specs.Runs.{Run}
use Rattle.refusals.specs.declared.Refusal.{Refusal}
use Rattle.decide.specs.Decisions.{TellsLeft}
use Rattle.leximin.specs.declared.Solved.{Solved}
use Rattle.leximin.specs.declared.Solved.TheVariants.{Found, Inconsistent}
use Rattle.leximin.specs.Solving.{Solves}

-- of two lent profiles, u first and w second, w is not told to be better, and the first is handed back
pub record KeepsFirst (u w : List ℕ) : Type 0 where
  pub told : (r : Bool) → IsBetter w u r → r ≡ false
  pub handed : (first second r : Bor (List ℕ)) → first.now ≡ u → second.now ≡ w → BetterOf first second r → r ≡ first

-- w is told to be better, and the second is handed back
pub record TakesSecond (u w : List ℕ) : Type 0 where
  pub told : (r : Bool) → IsBetter w u r → r ≡ true
  pub handed : (first second r : Bor (List ℕ)) → first.now ≡ u → second.now ≡ w → BetterOf first second r → r ≡ second

-- solving after the calls, with a place for each variable or more, says the answer and leaves the buffer so
abbrev pub SaysSolved : List Call → Result Solved Refusal → (List ℕ → List ℕ) → Type 0
SaysSolved calls answer left =
    (s : State) (before after : List ℕ) (r : Result Solved Refusal) → Run (reverse calls) s → s.variables ≤ length before → Solves s before r after
    → (r ≡ answer) × (after ≡ left before)

-- the values left to each variable after the calls are those of the lists
abbrev pub SaysLeft : List Call → List ℕ → Type 0
SaysLeft calls L = (s : State) (x : ℕ) (r : Result ℕ Refusal) → Run (reverse calls) s → x < s.variables → TellsLeft s x r → r ≡ Ok (get_or L x 0)

abbrev pub Binds : Row → Type 0
Binds (better u w) = KeepsFirst u w × TakesSecond w u
Binds (tie u w) = KeepsFirst u w × KeepsFirst w u
Binds (solves calls a) = SaysSolved calls (Ok Found) (written a)
Binds (inconsistent calls) = SaysSolved calls (Ok Inconsistent) (λ buffer. buffer)
Binds (leaves calls L) = SaysLeft calls L
