-- `values::lowest` meets its contract.
use Rattle.values.proofs.Ends.{lowest_trailing}
use Rattle.values.proofs.lowest.Goals as goal

pub returns : goal.returns
returns c = lowest_trailing c.args.m c.ranges.m.fits
