-- `search::nodes::narrow` meets its contract: what is left so far, and the rules that are due.
use Rattle.filters.specs.Filter.{weight}
use Rattle.search.proofs.Sieving.{Sieving}
use Rattle.search.proofs.nodes.narrow.Given as goal

abbrev pub invariant-loop-lists : goal.invariant-loop-lists
invariant-loop-lists l =
    Sieving l.task.rules.heads.now l.task.rules.room.now l.task.goals.now l.task.floors.now l.task.n l.initial.lists l.lists l.rest

abbrev pub decreases-loop-lists : goal.decreases-loop-lists
decreases-loop-lists l = weight l.lists
