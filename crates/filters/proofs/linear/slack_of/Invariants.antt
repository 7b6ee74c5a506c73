-- `filters::linear::slack_of` meets its contract. The loop's invariant: the terms passed are summed at their least values.
use Rattle.filters.proofs.Summing.{Summed}
use Rattle.filters.proofs.linear.slack_of.Given as goal

abbrev pub invariant-loop-i : goal.invariant-loop-i
invariant-loop-i l = Summed l.lists l.scope l.coefficients l.bound l.i l.above l.below
