-- `filters::linear::slack_of` meets its contract. The loop's invariant: the terms passed are summed at their least values.
use Prim.Native.Nat.{◌<◌}
use native.Mathlib.Omega.{arith}
use lib.ListN.{length, get_or}
use Rattle.filters.proofs.Cells.{mem_at}
use Rattle.filters.proofs.Summing.{summed_high, summed_low}
use Rattle.filters.proofs.Slack.{kept_long, empty_leaves, summed_leaves}
use Rattle.filters.proofs.linear.slack_of.Goals as goal
use Rattle.filters.proofs.linear.slack_of.Goals.{then-kept-lt-ZERO_COEFFICIENT, else-kept-lt-ZERO_COEFFICIENT}

pub bounds-lists-x : goal.bounds-lists-x
bounds-lists-x c =
    let s = c.args.scope.now in
    omega (arith, c.requires.proper.known (get_or s c.loop-i.i 0) (mem_at s c.loop-i.i 0 c.loop-i-test.true), c.requires.lists)

pub returns-then-list-eq0 : goal.returns-then-list-eq0
returns-then-list-eq0 c =
    let a = c.args in
    let s = a.scope.now in
    empty_leaves a.lists.now s a.coefficients.now a.bound (get_or s c.loop-i.i 0) (mem_at s c.loop-i.i 0 c.loop-i-test.true) c.if-list-eq0.true

pub loop-i-preserved : goal.loop-i-preserved
loop-i-preserved c =
    let a = c.args in
    let s = a.scope.now in
    let ks = a.coefficients.now in
    let at = c.loop-i in
    let l = c.loop-i-test.true in
    let m : at.i < length ks = omega (arith, kept_long s ks a.lists.now a.bound c.requires) in
    elim c.if-kept-lt-ZERO_COEFFICIENT.branch [
      | then-kept-lt-ZERO_COEFFICIENT w ↦ rw (w.above-is, w.below-is)
          (summed_high a.lists.now s ks a.bound (λ j. (c.type_inv.coefficients j).fits) (λ j. (c.type_inv.lists j).fits) at.i at.above at.below l m at.invariant c.if-list-eq0.false
          w.highest.result w.if-kept-lt-ZERO_COEFFICIENT.true w.highest.ensures)
      | else-kept-lt-ZERO_COEFFICIENT w ↦ rw (w.above-is, w.below-is)
          (summed_low a.lists.now s ks a.bound (λ j. (c.type_inv.coefficients j).fits) (λ j. (c.type_inv.lists j).fits) at.i at.above at.below l m at.invariant c.if-list-eq0.false
          w.lowest.result w.if-kept-lt-ZERO_COEFFICIENT.false w.lowest.ensures)
    ]

pub returns : goal.returns
returns c =
    let a = c.args in
    let at = c.loop-i in
    summed_leaves a.scope.now a.coefficients.now a.bound a.lists.now c.requires (λ j. (c.type_inv.lists j).fits) at.i at.above at.below at.invariant c.loop-i-test.false
    c.checked_sub.result c.checked_sub.ensures
