-- `search::thresholds::tops_of` meets its contract: the tops of the objectives passed.
use mathlib.Core.Path.{◌≡◌}
use lib.ListN.{length}
use Rattle.meaning.specs.Limits.{objective_limit}
use Rattle.search.specs.Thresholds.{Tops}
use Rattle.search.proofs.thresholds.tops_of.Given as goal

abbrev pub invariant-loop-j : goal.invariant-loop-j
invariant-loop-j l = (length l.tops ≡ objective_limit) × Tops l.goals l.j l.lists l.tops
