-- `search::spreading::rules_on` meets its contract: the first k rules are noted.
use native.Mathlib.Omega.{arith}
use Rattle.search.proofs.Noting.{touching_none, placed_scope}
use Rattle.search.proofs.spreading.rules_on.Goals as goal

pub loop-k-init : goal.loop-k-init
loop-k-init c = touching_none c.args.rules.heads.now c.args.rules.room.now

pub note-requires : goal.note-requires
note-requires c =
    let at = c.loop-k in
    let scope = placed_scope c.args.rules.heads.now c.args.rules.room.now at.k (c.requires.0 at.k c.loop-k-test.true) in
    (rw c.scope.ensures scope, at.invariant.long, omega arith)
