-- `filters::tables::is_live` meets its contract.
use Rattle.filters.proofs.Places.{In}
use Rattle.filters.proofs.tables.is_live.Given as goal

abbrev pub invariant-loop-j : goal.invariant-loop-j
invariant-loop-j l = In l.masks l.tuple l.j
