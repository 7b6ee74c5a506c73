-- Each call is made on a state that calls have left.
use Rattle.meaning.specs.Calls.{add_variable, take_back}
use Rattle.state.proofs.Runs.{reached_new, reached_after}
use Rattle.decisions.proofs.main.Goals as goal

pub add_variable-requires : goal.add_variable-requires
add_variable-requires c = reached_new c.new.ensures

pub loop-v-init : goal.loop-v-init
loop-v-init c = reached_after (add_variable _) (reached_new c.new.ensures) c.add_variable.ensures

pub ban-requires-2 : goal.ban-requires-2
ban-requires-2 c = reached_after (take_back 31) c.loop-v.invariant c.take_back.ensures
