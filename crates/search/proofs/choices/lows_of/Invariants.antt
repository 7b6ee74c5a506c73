-- `search::choices::lows_of` meets its contract.
use Rattle.search.specs.Choosing.{Lows}
use Rattle.search.proofs.choices.lows_of.Given as goal

abbrev pub invariant-loop-x : goal.invariant-loop-x
invariant-loop-x l = Lows l.lists l.x l.lows
