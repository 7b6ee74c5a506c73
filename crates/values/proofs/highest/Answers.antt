-- `values::highest` meets its contract.
use native.Mathlib.Omega.{arith}
use Rattle.values.proofs.Ends.{highest_empty, highest_leading}
use Rattle.values.proofs.highest.Goals as goal

pub returns-then-m-eq0 : goal.returns-then-m-eq0
returns-then-m-eq0 c = highest_empty c.args.m c.if-m-eq0.true

pub returns : goal.returns
returns c = highest_leading c.args.m c.ranges.m.fits (omega arith)
