-- `values::both` meets its contract.
use Rattle.values.proofs.Pairs.{shared_and}
use Rattle.values.proofs.both.Goals as goal

pub returns : goal.returns
returns c = shared_and c.args.a c.args.b
