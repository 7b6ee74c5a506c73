-- `decide::take_back` meets its contract.
use native.Mathlib.Omega.{arith}
use Rattle.decide.proofs.TakingBack.{back_answers}
use Rattle.decide.proofs.take_back.Goals as goal

pub returns : goal.returns
returns c =
    let a = c.args in
    rw (c.accepted.ensures.0, c.accepted.ensures.1) (back_answers a.s a.k c.clear_after.new.lists (omega arith) c.clear_after.ensures)
