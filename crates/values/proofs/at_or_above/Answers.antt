-- `values::at_or_above` meets its contract.
use Rattle.values.proofs.Below.{above_less}
use Rattle.values.proofs.at_or_above.Goals as goal

pub returns : goal.returns
returns c =
    let first = c.first_values in
    above_less c.args.m c.args.v first.result c.less.result c.ranges.m.fits first.ensures c.less.ensures
