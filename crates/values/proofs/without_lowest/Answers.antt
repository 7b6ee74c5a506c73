-- `values::without_lowest` meets its contract.
use native.Mathlib.Omega.{arith}
use Rattle.values.proofs.Drop.{dropped_empty, dropped_and}
use Rattle.values.proofs.without_lowest.Goals as goal

pub returns-then-m-eq0 : goal.returns-then-m-eq0
returns-then-m-eq0 c = dropped_empty c.args.m c.if-m-eq0.true

pub returns : goal.returns
returns c = dropped_and c.args.m c.ranges.m.fits (omega arith)
