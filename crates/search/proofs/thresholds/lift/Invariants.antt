-- `search::thresholds::lift` meets its contract: the lists of the objectives passed are lifted.
use Rattle.search.specs.Thresholds.{Lifted}
use Rattle.search.proofs.thresholds.lift.Given as goal

abbrev pub invariant-loop-j : goal.invariant-loop-j
invariant-loop-j l = Lifted l.goals l.j l.tops l.floor l.initial.lists l.lists l.changed
