-- `search::thresholds::lift` meets its contract: the lists of the objectives passed are lifted.
use mathlib.Core.Path.{◌∙◌}
use Rattle.search.proofs.Lifting.{lifted_none, lifted_pass, lifted_more}
use Rattle.search.proofs.thresholds.lift.Goals as goal
use Rattle.search.proofs.thresholds.lift.Goals.{then-floor-tops, else-floor-tops}

pub loop-j-init : goal.loop-j-init
loop-j-init c = lifted_none c.args.lists.now

pub loop-j-preserved : goal.loop-j-preserved
loop-j-preserved c =
    let at = c.loop-j in
    elim c.if-floor-tops.branch [
      | then-floor-tops w ↦ rw (w.lists-is, w.changed-is) (lifted_more at.invariant w.if-floor-tops.true w.at_or_above-high.ensures (w.keep-changed.ensures.kept (c.requires.0.known at.j c.loop-j-test.true) (at.invariant.long ∙ c.requires.0.lists)))
      | else-floor-tops w ↦ rw (w.lists-is, w.changed-is) (lifted_pass at.invariant)
    ]
