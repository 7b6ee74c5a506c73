-- `leximin::profile_of` meets its contract. The loop: the first j values are copied.
use mathlib.Core.Path.{◌≡◌}
use Prim.Native.Nat.{ℕ, ◌<◌}
use lib.ListN.{length, get_or}
use Rattle.meaning.specs.Limits.{objective_limit}
use Rattle.leximin.proofs.profile_of.Given as goal

abbrev pub invariant-loop-j : goal.invariant-loop-j
invariant-loop-j l =
    (length l.profile ≡ objective_limit) × ((k : ℕ) → k < l.j → get_or l.profile k 0 ≡ get_or l.values (get_or l.goals k 0) 0)
