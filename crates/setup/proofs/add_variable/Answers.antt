-- `setup::add_variable` meets its contract.
use mathlib.Core.Path.{◌≡◌, refl}
use mathlib.Core.Logic.{inr}
use Prim.Native.Nat.{◌<◌}
use native.Mathlib.Omega.{arith}
use borrow.Author.Tests.{le-ltb, lt-leb}
use lib.ListN.{length}
use Rattle.meaning.specs.Limits.{variable_limit}
use Rattle.meaning.specs.Calls.{add_variable, tests}
use Rattle.meaning.proofs.Proper.{leaves_proper}
use Rattle.meaning.proofs.Finding.{finds}
use Rattle.state.proofs.Answering.{accepts}
use Rattle.state.proofs.Holding.{none_of}
use Rattle.setup.proofs.Variables.{with_variable, variable_held}
use Rattle.setup.proofs.add_variable.Goals as goal

pub returns : goal.returns
returns c =
    let s = c.args.s in
    let m = c.args.marks in
    rw (c.accepted.ensures.0, c.accepted.ensures.1) (accepts s (add_variable m) (with_variable s m) λ k w L l h most.
    let none : length w.decisions ≡ 0 = omega (arith, h.depth) in
    let few : length w.declared < variable_limit = omega (arith, h.variables) in (
      finds (tests w L (add_variable m)) 0 (inr (le-ltb 0 (length w.decisions) (omega arith), inr (lt-leb variable_limit (length w.declared) few, refl))),
      variable_held s w m (leaves_proper l) h (none_of w.decisions none) few,
    ))
