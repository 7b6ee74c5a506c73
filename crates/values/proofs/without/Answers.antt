-- `values::without` meets its contract.
use Rattle.values.proofs.One.{removed_less}
use Rattle.values.proofs.without.Goals as goal

pub returns : goal.returns
returns c =
    let only = c.only in
    removed_less c.args.m c.args.v only.result only.ensures c.less.result c.ranges.m.fits c.less.ensures
