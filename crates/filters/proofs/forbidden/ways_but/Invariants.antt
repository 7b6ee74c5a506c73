-- `filters::forbidden::ways_but` meets its contract.
use Rattle.filters.proofs.Ways.{Ways}
use Rattle.filters.proofs.forbidden.ways_but.Given as goal

abbrev pub invariant-loop-i : goal.invariant-loop-i
invariant-loop-i l = Ways l.masks l.j l.i l.ways
