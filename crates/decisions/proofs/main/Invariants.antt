-- Calls on a new state have left the state after each ban.
use Rattle.state.specs.Holds.{Reached}
use Rattle.decisions.proofs.main.Given as goal

abbrev pub invariant-loop-v : goal.invariant-loop-v
invariant-loop-v l = Reached l.state
