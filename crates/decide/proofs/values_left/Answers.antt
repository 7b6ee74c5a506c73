-- `decide::values_left` meets its contract.
use native.Mathlib.Omega.{arith}
use Rattle.decide.proofs.Decisions.{left_known}
use Rattle.decide.proofs.values_left.Goals as goal

pub returns : goal.returns
returns c = let a = c.args in left_known a.s a.x c.list_of.result (omega arith) c.list_of.ensures
