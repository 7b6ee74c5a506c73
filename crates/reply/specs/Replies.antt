-- What the program answers to a file (document 01, "The program").
use Rattle.std.specs.Prelude.{◌≡◌, List, [], ◌∷◌, ℕ, zero, suc, ◌+◌, ◌≤◌, ◌<◌, min, length}
use Rattle.meaning.specs.Limits.{objective_limit}
use Rattle.meaning.specs.Order.{sorted}
use Rattle.meaning.specs.Standing.{Standing}
use Rattle.meaning.specs.Solutions.{Answer, Inconsistent, profile}
use Rattle.meaning.specs.Calls.{Call, name_objectives, accepted}
use Rattle.meaning.specs.Histories.{Leaves}
use Rattle.state.specs.declared.State.{State}
use Rattle.state.specs.Runs.{Run}
use Rattle.reading.specs.Reading.{fault, got}
use Rattle.wcsp.specs.Files.{File, file, standing_of}
use Rattle.lines.specs.Lines.{too_long_line, inconsistent_line, refused_line, found_lines}
use Rattle.lines.specs.Writing.{Written}

-- k numbers upwards from x
abbrev pub upwards : ℕ → ℕ → List ℕ
upwards x zero = []
upwards x (suc k) = x ∷ upwards (x + 1) k

-- the first n or 16 variables, whichever is fewer
abbrev pub objectives_of : ℕ → List ℕ
objectives_of n = upwards 0 (min n objective_limit)

-- what is to be solved: the file's variables and tables, with these objectives
abbrev pub asked : File → Standing
asked f = accepted (standing_of f) (name_objectives (objectives_of (length f.sizes)))

-- what stands has no solution, or an answer, and the lines at the buffer's start say it
pub record Tells (w : Standing) (before after : List ℕ) (count : ℕ) : Type 0 where
  pub inconsistent : Inconsistent w → Written before inconsistent_line after count
  pub found : (a : List ℕ) → Answer w a → Written before (found_lines a (sorted (profile w a))) after count

pub record Replies (text before after : List ℕ) (count : ℕ) : Type 0 where
  pub fits : count ≤ length after
  pub refused : (number at : ℕ) → file text ≡ fault number at → Written before (refused_line number at) after count
  pub accepted : (f : File) (place : ℕ) → file text ≡ got f place → Tells (asked f) before after count

-- the most bytes that the program reads
abbrev pub text_limit : ℕ
text_limit = 32768

pub record Answers (text before after : List ℕ) (count : ℕ) : Type 0 where
  pub fits : count ≤ length after
  pub long : text_limit < length text → Written before too_long_line after count
  pub short : length text ≤ text_limit → Replies text before after count

-- ---- within the crate

-- once the objectives of a state with n variables are named, what stands is told, whatever calls left the state
abbrev pub SolvedLines : State → ℕ → List ℕ → List ℕ → ℕ → Type 0
SolvedLines s n before after count =
    (h : List Call) (w : Standing) → Run h s → Leaves (name_objectives (objectives_of n) ∷ h) w → length w.declared ≡ n → w.objectives ≡ objectives_of n → Tells w before after count
