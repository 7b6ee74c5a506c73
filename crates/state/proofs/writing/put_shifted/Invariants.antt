-- `state::writing::put_shifted` meets its contract. The loop: the first j coefficients are written.
use Prim.Native.Nat.{ℕ, ◌<◌}
use mathlib.Core.Path.{◌≡◌}
use mathlib.Core.List.{map}
use lib.ListN.{get_or}
use Rattle.meaning.specs.Limits.{coefficient_limit}
use Rattle.filters.specs.Layout.{shift}
use Rattle.state.proofs.writing.put_shifted.Given as goal

abbrev pub invariant-loop-j : goal.invariant-loop-j
invariant-loop-j l = (k : ℕ) → k < l.j → get_or l.places k 0 ≡ get_or (map (shift coefficient_limit) l.coefficients) k 0
