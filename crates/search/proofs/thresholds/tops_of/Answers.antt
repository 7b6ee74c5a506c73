-- `search::thresholds::tops_of` meets its contract: the tops of the objectives passed.
use native.Mathlib.Omega.{arith}
use borrow.Author.Rules.{rules}
use Rattle.search.proofs.Reaching.{tops_more}
use Rattle.search.proofs.thresholds.tops_of.Goals as goal

pub loop-j-preserved : goal.loop-j-preserved
loop-j-preserved c =
    let at = c.loop-j in
    (search rules, tops_more at.j at.tops _ (omega (arith, c.requires.0.most)) at.invariant.1 (c.requires.1 at.j c.loop-j-test.true) c.highest.ensures)
