-- `leximin::best` meets its contract. The loop: the thresholds before the i-th are as high as they can be.
use Rattle.filters.specs.Layout.{rules_at}
use Rattle.leximin.proofs.Climbs.{Underway, ahead}
use Rattle.leximin.proofs.best.Given as goal

abbrev pub invariant-loop-i : goal.invariant-loop-i
invariant-loop-i l = Underway (rules_at l.rules.heads.now l.rules.room.now) l.goals l.n l.lists l.rota l.floors l.i

abbrev pub decreases-loop-i : goal.decreases-loop-i
decreases-loop-i l = ahead l.goals l.n l.rota l.i
