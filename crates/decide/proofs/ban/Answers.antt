-- `decide::ban` meets its contract.
use Rattle.decide.proofs.Decisions.{ban_answers}
use Rattle.decide.proofs.ban.Goals as goal

pub returns : goal.returns
returns c = let a = c.args in ban_answers a.s a.x a.v _ _ _ c.decided.ensures (rw c.list_of-left.ensures at c.without.ensures)
