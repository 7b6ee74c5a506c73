-- `values::only` meets its contract.
use native.Mathlib.Omega.{arith}
use Rattle.values.proofs.One.{alone_shift, alone_none}
use Rattle.values.proofs.only.Goals as goal

pub returns-then-v-lt-VALUES : goal.returns-then-v-lt-VALUES
returns-then-v-lt-VALUES c = alone_shift c.args.v c.if-v-lt-VALUES.true

pub returns-else-v-lt-VALUES : goal.returns-else-v-lt-VALUES
returns-else-v-lt-VALUES c = alone_none c.args.v (omega arith)
