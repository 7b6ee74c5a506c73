-- `wcsp::sizes::read_sizes` meets its contract. The loop: the sizes so far are read.
use Rattle.std.proofs.Common.{◌≡◌, length, take}
use Rattle.reading.proofs.Several.{NumbersSoFar}
use Rattle.wcsp.specs.Files.{size_tests}
use Rattle.wcsp.specs.Steps.{Under}
use Rattle.wcsp.proofs.sizes.read_sizes.Given as goal

abbrev pub invariant-loop-size : goal.invariant-loop-size
invariant-loop-size l = (length l.size-items ≡ l.n) × Under 65 l.size-items × NumbersSoFar l.text (size_tests l.largest) l.n l.at l.size-index l.place (take l.size-index l.size-items)
