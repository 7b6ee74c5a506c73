-- `decide::pin` meets its contract.
use Rattle.decide.proofs.Decisions.{pin_answers}
use Rattle.decide.proofs.pin.Goals as goal

pub returns : goal.returns
returns c = let a = c.args in pin_answers a.s a.x a.v _ _ _ c.decided.ensures c.only.ensures
