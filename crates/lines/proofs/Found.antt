-- When the three lines are written, and when nothing is. Assumes nothing.
use mathlib.Core.Path.{◌≡◌, refl, sym}
use mathlib.Core.Bool.{Bool, true, false, cond, ◌&&◌}
use mathlib.Core.List.{List, []}
use Prim.Native.Nat.{ℕ, ◌≤◌, ◌<◌}
use borrow.Author.Tests.{le-leb, lt-leb}
use lib.Dec.{leb}
use lib.ListN.{length}
use Rattle.meaning.specs.Limits.{variable_limit, objective_limit}
use Rattle.lines.specs.Lines.{found_lines, found_text}

pub found_lines_lem : (values sorted : List ℕ) → length values ≤ variable_limit → length sorted ≤ objective_limit → found_lines values sorted ≡ found_text values sorted
unfolding found_text
found_lines_lem values sorted v s = sym (rw (le-leb (length values) variable_limit v, le-leb (length sorted) objective_limit s))

pub values_too_many : (values sorted : List ℕ) → variable_limit < length values → found_text values sorted ≡ []
unfolding found_text
values_too_many values sorted v = rw (lt-leb (length values) variable_limit v)

pub sorted_too_many : (values sorted : List ℕ) → objective_limit < length sorted → found_text values sorted ≡ []
unfolding found_text
sorted_too_many values sorted s = rw (lt-leb (length sorted) objective_limit s) (no_both (leb (length values) variable_limit))
  where
    no_both : (t : Bool) → cond (t && false) (found_lines values sorted) [] ≡ []
    no_both true = refl
    no_both false = refl
