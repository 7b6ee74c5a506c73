-- `search::spreading::affected_by` meets its contract: what is known of the variables passed.
use Rattle.meaning.specs.Values.{size}
use Rattle.search.proofs.Noting.{Walked}
use Rattle.search.proofs.spreading.affected_by.Given as goal

abbrev pub invariant-loop-rest : goal.invariant-loop-rest
invariant-loop-rest l = Walked l.sets l.lists l.changed l.rules l.rest

abbrev pub decreases-loop-rest : goal.decreases-loop-rest
decreases-loop-rest l = size l.rest
