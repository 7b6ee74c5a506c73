-- `wcsp::listing::read_tuple` meets its contract. The loop: the first j values are read.
use Rattle.std.proofs.Common.{length, take}
use Rattle.wcsp.specs.Files.{value_tests}
use Rattle.reading.proofs.Several.{NumbersSoFar}
use Rattle.wcsp.proofs.listing.read_tuple.Given as goal

abbrev pub invariant-loop-j : goal.invariant-loop-j
invariant-loop-j l = NumbersSoFar l.text (value_tests l.heading.sizes.now l.heading.scope.now) (length l.heading.scope.now) l.at l.j l.place (take l.j l.tuple)
