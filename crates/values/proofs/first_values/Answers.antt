-- `values::first_values` meets its contract.
use native.Mathlib.Omega.{arith}
use Rattle.values.proofs.Below.{first_ones, first_all}
use Rattle.values.proofs.first_values.Goals as goal

pub returns-then-s-lt-VALUES : goal.returns-then-s-lt-VALUES
returns-then-s-lt-VALUES c = first_ones c.args.s c.if-s-lt-VALUES.true

pub returns-else-s-lt-VALUES : goal.returns-else-s-lt-VALUES
returns-else-s-lt-VALUES c = first_all c.args.s (omega arith)
