-- The ban is one call more.
use Rattle.meaning.specs.Calls.{ban}
use Rattle.state.proofs.Runs.{reached_after}
use Rattle.decisions.proofs.ban.Goals as goal

pub returns : goal.returns
returns c = reached_after (ban 0 c.args.v) c.requires c.ban-after.ensures
