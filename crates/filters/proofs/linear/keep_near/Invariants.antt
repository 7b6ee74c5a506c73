-- `filters::linear::keep_near` meets its contract. The loop's invariant: the places passed are sifted.
use Rattle.filters.specs.Sifting.{Sifted}
use Rattle.filters.specs.Linear.{NearAt}
use Rattle.filters.proofs.linear.keep_near.Given as goal

abbrev pub invariant-loop-i : goal.invariant-loop-i
invariant-loop-i l = Sifted l.scope l.i (NearAt l.initial.lists l.scope l.coefficients l.slack) l.initial.lists l.lists l.changed
