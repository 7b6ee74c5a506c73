-- `decide::decided` meets its contract.
use Rattle.decide.proofs.Decisions.{all_passed}
use Rattle.decide.proofs.decided.Goals as goal

pub narrowed-requires-clause-x_lt_variables : goal.narrowed-requires-clause-x_lt_variables
narrowed-requires-clause-x_lt_variables c =
    let a = c.args in
    let (known, small, few, has) = all_passed a.s a.x a.v (rw c.in_default.is at c.tested.ensures) in
    (known, few)
