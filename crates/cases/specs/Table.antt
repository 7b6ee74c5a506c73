-- Document 01's cases P1 to P12, one table under one statement: every row is so.
-- A row lets nothing else be so (proofs/Unique.antt): of P3 the best minimum alone would let (5,5,3) stand, the greatest sum asks for (10,3,4);
-- one that says Inconsistent, or gives one answer always, is out by P3 and P5, and pins or take-backs that do nothing by P8.
use Rattle.std.specs.Prelude.{◌≡◌, ℕ, suc, ◌+◌, ◌-◌, ◌^◌, length, take, drop, pos, negsuc}
use mathlib.Core.List.{List, [], ◌∷◌, ◌++◌, reverse, Memᴰ}
use Rattle.meaning.specs.Order.{sorted, Better}
use Rattle.meaning.specs.Standing.{Standing}
use Rattle.meaning.specs.Lists.{Largest}
use Rattle.meaning.specs.Solutions.{Answer, Inconsistent}
use Rattle.meaning.specs.Calls.{Call, add_variable, add_table, add_linear, name_objectives, pin, ban, take_back, allow, forbid, solve_refusal}
use Rattle.meaning.specs.Histories.{Leaves, AllAccepted}
use Rattle.cases.specs.Eight.{eight}

-- What a row says. Calls are oldest first, on a new state; an assignment and lists have a place for each variable.
pub data Row : Type 0 where
  better : (profile than : List ℕ) → Row
  tie : (profile with : List ℕ) → Row
  solves : (calls : List Call) (answer : List ℕ) → Row
  inconsistent : (calls : List Call) → Row
  leaves : (calls : List Call) (lists : List ℕ) → Row

-- ---- a row is so

-- no call is refused, and P is so of what the calls leave standing
pub record After (calls : List Call) (P : Standing → Type 0) : Type 0 where
  pub stands : Standing
  pub leaves : Leaves (reverse calls) stands
  pub accepted : AllAccepted (reverse calls)
  pub so : P stands

-- solving into a buffer of a place for each variable isn't refused either
abbrev pub Solves : Standing → Type 0 → Type 0
Solves w A = (solve_refusal w (length w.declared) ≡ 0) × A

abbrev pub Says : Row → Type 0
Says (better u w) = Better u w
Says (tie u w) = sorted u ≡ sorted w
Says (solves calls a) = After calls (λ w. Solves w (Answer w a))
Says (inconsistent calls) = After calls (λ w. Solves w (Inconsistent w))
Says (leaves calls L) = After calls (λ w. Largest w L)

-- ---- the networks

-- the set of the values from a to b
abbrev pub span : ℕ → ℕ → ℕ
span a b = 2 ^ suc b - 2 ^ a

-- three variables of values 0 to 10, which take one of the vectors in cells; all are objectives
abbrev pub one_of : List ℕ → List Call
one_of cells =
    add_variable (span 0 10)
    ∷ add_variable (span 0 10)
    ∷ add_variable (span 0 10)
    ∷ add_table allow (0 ∷ 1 ∷ 2 ∷ []) cells
    ∷ name_objectives (0 ∷ 1 ∷ 2 ∷ [])
    ∷ []

-- x + y at most 3, both 0 to 3, both objectives
abbrev pub at_most3 : List Call
at_most3 =
    add_variable (span 0 3)
    ∷ add_variable (span 0 3)
    ∷ add_linear (0 ∷ 1 ∷ []) (pos 1 ∷ pos 1 ∷ []) (pos 3)
    ∷ name_objectives (0 ∷ 1 ∷ [])
    ∷ []

-- two variables with the values 0 and 1
abbrev pub binary : List Call
binary = add_variable (span 0 1) ∷ add_variable (span 0 1) ∷ []

-- ---- the table; cells are the eight vectors

abbrev pub rows : List ℕ → List Row
rows cells =
    better (2 ∷ 2 ∷ 1 ∷ 2 ∷ []) (4 ∷ 1 ∷ 5 ∷ 1 ∷ [])  -- P1
    ∷ tie (4 ∷ 1 ∷ 5 ∷ 1 ∷ []) (1 ∷ 1 ∷ 4 ∷ 5 ∷ [])  -- P2
    ∷ solves (one_of cells) (7 ∷ 3 ∷ 5 ∷ [])  -- P3
    ∷ solves (one_of (take 6 cells ++ drop 9 cells)) (5 ∷ 3 ∷ 6 ∷ [])  -- P4, without (7,3,5)
    ∷ solves (add_variable (span 0 1) ∷ add_variable (span 0 3) ∷ name_objectives (0 ∷ 1 ∷ []) ∷ []) (1 ∷ 3 ∷ [])  -- P5
    ∷ inconsistent (one_of [])  -- P6
    ∷ solves at_most3 (1 ∷ 2 ∷ [])  -- P7
    ∷ leaves (at_most3 ++ pin 0 3 ∷ []) (span 3 3 ∷ span 0 0 ∷ [])  -- P8
    ∷ leaves (at_most3 ++ pin 0 3 ∷ take_back 0 ∷ []) (span 0 3 ∷ span 0 3 ∷ [])  -- P8, back to depth 0
    ∷ leaves (at_most3 ++ ban 1 0 ∷ []) (span 0 2 ∷ span 1 3 ∷ [])  -- P9
    ∷ solves (add_variable (span 0 0 + span 4 4) ∷ name_objectives (0 ∷ 0 ∷ []) ∷ []) (4 ∷ [])  -- P10
    ∷ leaves (binary ++ add_table forbid (0 ∷ 1 ∷ []) (0 ∷ 0 ∷ 0 ∷ 1 ∷ []) ∷ []) (span 1 1 ∷ span 0 1 ∷ [])  -- P11
    ∷ leaves (binary ++ add_linear (0 ∷ 1 ∷ []) (negsuc 0 ∷ negsuc 0 ∷ []) (negsuc 1) ∷ []) (span 1 1 ∷ span 1 1 ∷ [])  -- P12; negsuc n is −(n + 1)
    ∷ []

-- the constant table has the eight vectors, and every case is so
pub record Cases (cells : List ℕ) : Type 0 where
  pub table : cells ≡ eight
  pub so : (r : Row) → Memᴰ r (rows cells) → Says r
