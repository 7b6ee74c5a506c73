-- `filters::forbidden::count_live` meets its contract.
use lib.ListN.{length, take}
use Rattle.filters.specs.Tables.{pieces, Counted}
use Rattle.filters.proofs.forbidden.count_live.Given as goal

abbrev pub invariant-loop-tuple : goal.invariant-loop-tuple
invariant-loop-tuple l = Counted l.masks (length l.masks) (take (length l.yielded) (pieces (length l.masks) l.cells)) l.counts
