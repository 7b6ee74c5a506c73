-- `filters::sweeps::settled` meets its contract: sweeps go on until one drops nothing.
use Rattle.filters.specs.Layout.{rules_at}
use Rattle.filters.specs.Filter.{weight, Toward}
use Rattle.filters.proofs.sweeps.settled.Given as goal

abbrev pub invariant-loop : goal.invariant-loop
invariant-loop l = Toward (rules_at l.rules.heads.now l.rules.room.now) l.initial.left l.left

abbrev pub decreases-loop : goal.decreases-loop
decreases-loop l = weight l.left
