-- `values::with` meets its contract.
use Rattle.values.proofs.One.{added_or}
use Rattle.values.proofs.with.Goals as goal

pub returns : goal.returns
returns c = added_or c.args.m c.args.v c.only.result c.only.ensures
