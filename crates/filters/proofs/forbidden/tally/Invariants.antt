-- `filters::forbidden::tally` meets its contract.
use lib.ListN.{get_or}
use Rattle.filters.proofs.Tallies.{Tallied}
use Rattle.filters.proofs.forbidden.tally.Given as goal

abbrev pub invariant-loop-j : goal.invariant-loop-j
invariant-loop-j l = Tallied (λ i. get_or l.tuple i 0) l.initial.counts l.j l.counts
