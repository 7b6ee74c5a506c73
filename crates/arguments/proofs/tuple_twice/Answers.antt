-- `arguments::tuple_twice` meets its contract. The loop: no tuple from the place on stands twice, and their keys are marked.
use mathlib.Core.Path.{◌≡◌, refl, sym, ap, ◌∙◌}
use mathlib.Core.Bool.{false}
use Prim.Native.Nat.{◌-◌, ◌*◌, ◌<◌}
use native.Mathlib.Omega.{arith}
use Rattle.arguments.proofs.Keys.{passed_none, unmarked_once, passed_one, found_twice}
use Rattle.tuples.proofs.Rows.{part_is}
use Rattle.arguments.specs.Checks.{listed_again}
use Rattle.tuples.specs.Keys.{key_from}
use Rattle.arguments.proofs.tuple_twice.Goals.{else-marked-key-via-then-marked-key+else-listed_again, else-marked-key-via-else-marked-key}
use Rattle.arguments.proofs.tuple_twice.Goals as goal

pub loop-i-init : goal.loop-i-init
loop-i-init c = let a = c.args in passed_none a.arity (omega arith) a.cells.now _ refl

pub returns-then-listed_again : goal.returns-then-listed_again
returns-then-listed_again c = let a = c.args in
    let l = c.loop-i in
    found_twice a.arity (omega arith) a.cells.now l.i l.marked l.invariant (omega arith) (sym c.listed_again.ensures ∙ c.if-listed_again.true)

pub loop-i-preserved : goal.loop-i-preserved
loop-i-preserved c = let a = c.args in
    let l = c.loop-i in
    let some : 0 < a.arity = omega arith in
    let left : 0 < l.i = omega arith in
    let key = c.key_of-key in
    let key_is = key.ensures.0 ∙ ap (key_from 0) (part_is a.arity a.cells.now ((l.i - 1) * a.arity)) in
    let once : listed_again a.arity a.cells.now ((l.i - 1) * a.arity) ≡ false = elim c.else-marked-key.branch [
      | else-marked-key-via-then-marked-key+else-listed_again w ↦ sym w.listed_again.ensures ∙ w.if-listed_again.false
      | else-marked-key-via-else-marked-key w ↦ unmarked_once a.arity some a.cells.now l.i l.marked l.invariant left key.result key_is w.if-marked-key.false
    ] in
    passed_one a.arity some a.cells.now l.i l.marked l.invariant left key.result key_is key.ensures.1 once
