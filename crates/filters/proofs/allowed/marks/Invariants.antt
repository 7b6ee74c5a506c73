-- `filters::allowed::marks` meets its contract.
use mathlib.Core.Path.{◌≡◌}
use lib.ListN.{length, take}
use Rattle.filters.specs.Tables.{pieces, Marked}
use Rattle.filters.proofs.allowed.marks.Given as goal

abbrev pub invariant-loop-tuple : goal.invariant-loop-tuple
invariant-loop-tuple l =
    (length l.marked ≡ 8) × Marked l.masks (length l.masks) (take (length l.yielded) (pieces (length l.masks) l.cells)) l.marked
