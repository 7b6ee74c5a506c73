-- `search::spreading::note` meets its contract: the variables passed have the rule.
use Rattle.values.proofs.One.{shl_one}
use native.Mathlib.Omega.{arith}
use Rattle.search.proofs.Noting.{noted_more}
use Rattle.search.proofs.spreading.note.Goals as goal

pub loop-x-preserved : goal.loop-x-preserved
loop-x-preserved c =
    let a = c.args in
    let at = c.loop-x in
    rw (shl_one a.k (omega (arith, c.requires.2)))
    (noted_more a.scope.now a.k a.touching.now at.touching at.x-index c.loop-x-test.true (omega (arith, c.requires.0 at.x-index c.loop-x-test.true)) at.invariant)
