-- `search::thresholds::raise` meets its contract: the thresholds passed are within reach.
use Rattle.search.proofs.Raising.{Raising}
use Rattle.search.proofs.thresholds.raise.Given as goal

abbrev pub invariant-loop-i : goal.invariant-loop-i
invariant-loop-i l = Raising l.goals l.floors l.tops l.initial.lists l.lists l.changed l.i
