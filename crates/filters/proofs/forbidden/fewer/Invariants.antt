-- `filters::forbidden::fewer` meets its contract.
use Rattle.meaning.specs.Values.{size}
use Rattle.filters.proofs.Walking.{FewerSo}
use Rattle.filters.proofs.forbidden.fewer.Given as goal

abbrev pub invariant-loop-rest : goal.invariant-loop-rest
invariant-loop-rest l = FewerSo l.m l.counts l.j l.limit l.kept l.rest

abbrev pub decreases-loop-rest : goal.decreases-loop-rest
decreases-loop-rest l = size l.rest
