-- `wcsp::listing::read_tuples` meets its contract. The loop: the first i tuples are read.
use Rattle.std.proofs.Common.{ℕ, List, length}
use Rattle.meaning.specs.Calls.{rows}
use Rattle.wcsp.specs.Files.{tuple}
use Rattle.wcsp.specs.Steps.{Filled, Keyed}
use Rattle.reading.proofs.Several.{SoFar}
use Rattle.wcsp.proofs.listing.read_tuples.Given as goal

abbrev pub invariant-loop-i : goal.invariant-loop-i
invariant-loop-i l =
    Keyed l.marked (rows l.i (length l.heading.scope.now) l.cells)
    × ((ts : List (List ℕ)) × Filled (length l.heading.scope.now) l.i ts l.cells × SoFar (tuple l.text l.heading.sizes.now l.heading.scope.now l.heading.default) l.count l.at l.i l.place ts)
