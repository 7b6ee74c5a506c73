-- `arguments::any_twice` meets its contract. The loop: what the rest says is what the whole list says.
use mathlib.Core.Path.{◌≡◌}
use lib.Dec.{eqb}
use lib.ListN.{drop}
use Rattle.meaning.specs.Calls.{repeats}
use Rattle.arguments.proofs.any_twice.Given as goal

abbrev pub invariant-loop-i : goal.invariant-loop-i
invariant-loop-i l = repeats eqb (drop l.i l.variables) ≡ repeats eqb l.variables
