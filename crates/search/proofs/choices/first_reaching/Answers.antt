-- `search::choices::first_reaching` meets its contract.
use Rattle.search.proofs.Taking.{given_ready, given_net, given_closed}
use Rattle.search.proofs.choices.first_reaching.Goals as goal

pub rules_on-requires : goal.rules_on-requires
rules_on-requires c = let ready = given_ready c.requires in (ready.placed, ready.few)

pub first_within-requires : goal.first_within-requires
first_within-requires c = record { net = given_net c.requires c.rules_on.result c.rules_on.ensures; closed = given_closed c.requires }
