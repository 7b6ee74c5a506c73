-- `filters::forbidden::ways_but` meets its contract.
use native.Mathlib.Omega.{arith}
use Rattle.filters.proofs.Ways.{ways_none, ways_other, ways_same, ways_fit}
use Rattle.filters.proofs.forbidden.ways_but.Goals as goal
use Rattle.filters.proofs.forbidden.ways_but.Goals.{then-i-j, else-i-j}

pub loop-i-init : goal.loop-i-init
loop-i-init c = ways_none _ _

pub overflow_mul-ways : goal.overflow_mul-ways
overflow_mul-ways c =
    let at = c.loop-i in
    let fit = ways_fit c.args.masks.now c.args.j at.i at.ways at.invariant (omega arith) in
    rw c.count-ways.ensures (record { fits = fit })

pub loop-i-preserved : goal.loop-i-preserved
loop-i-preserved c =
    let masks = c.args.masks.now in
    let at = c.loop-i in
    elim c.if-i-j.branch [
      | then-i-j w ↦ rw (w.ways-is, w.count-ways.ensures) (ways_other masks c.args.j at.i at.ways at.invariant w.if-i-j.true)
      | else-i-j w ↦ rw w.ways-is (ways_same masks c.args.j at.i at.ways at.invariant w.if-i-j.false)
    ]
