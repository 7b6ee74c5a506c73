-- `values::less` meets its contract.
use Rattle.values.proofs.Pairs.{less_and_not}
use Rattle.values.proofs.less.Goals as goal

pub returns : goal.returns
returns c = less_and_not c.args.a c.args.b c.ranges.a.fits c.ranges.b.fits
