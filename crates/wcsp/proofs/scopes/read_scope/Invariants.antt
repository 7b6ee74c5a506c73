-- `wcsp::scopes::read_scope` meets its contract. The loop: i variables are named.
use Rattle.std.proofs.Common.{◌≡◌, length, take}
use Rattle.reading.proofs.Several.{NumbersSoFar}
use Rattle.wcsp.specs.Files.{variable_tests}
use Rattle.wcsp.proofs.scopes.read_scope.Given as goal

abbrev pub invariant-loop-i : goal.invariant-loop-i
invariant-loop-i l = (length l.variables ≡ 8) × NumbersSoFar l.text (variable_tests l.n) l.arity l.at l.i l.place (take l.i l.variables)
