-- `arguments::tuple_twice` meets its contract. The loop: no tuple from the place on stands twice, and their keys are marked.
use Rattle.arguments.proofs.Keys.{Passed}
use Rattle.arguments.proofs.tuple_twice.Given as goal

abbrev pub invariant-loop-i : goal.invariant-loop-i
invariant-loop-i l = Passed l.arity l.cells l.i l.marked
