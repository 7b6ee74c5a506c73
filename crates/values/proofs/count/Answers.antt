-- `values::count` meets its contract.
use Rattle.meaning.proofs.Sizes.{ones_size}
use Rattle.values.proofs.count.Goals as goal

pub returns : goal.returns
returns c = ones_size c.args.m c.ranges.m.fits
