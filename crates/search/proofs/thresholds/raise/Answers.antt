-- `search::thresholds::raise` meets its contract: the thresholds passed are within reach.
use native.Mathlib.Omega.{arith}
use borrow.Author.Rules.{rules}
use Rattle.search.proofs.Reaching.{tops_first}
use Rattle.search.proofs.Raising.{raising_start, raising_dead, raising_free, raising_on, raising_lift, raising_end}
use Rattle.search.proofs.thresholds.raise.Goals as goal
use Rattle.search.proofs.thresholds.raise.Goals.{then-floor-gt0+else-enough-needed+then-enough-needed-2, then-floor-gt0+else-enough-needed+else-enough-needed-2, else-floor-gt0}

pub loop-i-init : goal.loop-i-init
loop-i-init c =
    let a = c.args in
    raising_start a.goals.now a.floors.now _ a.lists.now (search rules) (tops_first c.tops_of-greatest.ensures)

pub returns-then-enough-needed : goal.returns-then-enough-needed
returns-then-enough-needed c = raising_dead c.requires.0 c.loop-i-test.true c.loop-i.invariant (omega arith)

pub loop-i-preserved : goal.loop-i-preserved
loop-i-preserved c =
    let at = c.loop-i.invariant in
    let inside = c.loop-i-test.true in
    elim c.if-floor-gt0.branch [
      | then-floor-gt0+else-enough-needed+then-enough-needed-2 w ↦ rw (w.lists-is, w.changed-is) (raising_lift c.requires.0 inside at (omega arith) w.lift-changed.ensures)
      | then-floor-gt0+else-enough-needed+else-enough-needed-2 w ↦ rw (w.lists-is, w.changed-is) (raising_on c.requires.0 inside at (omega arith))
      | else-floor-gt0 w ↦ rw (w.lists-is, w.changed-is) (raising_free c.requires.0 inside at (omega arith))
    ]

pub returns : goal.returns
returns c = raising_end c.loop-i-test.false c.loop-i.invariant
