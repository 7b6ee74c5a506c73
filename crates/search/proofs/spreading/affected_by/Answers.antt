-- `search::spreading::affected_by` meets its contract: what is known of the variables passed.
use Rattle.search.proofs.Noting.{walked_start, walked_on, walked_end}
use Rattle.search.proofs.spreading.affected_by.Goals as goal

pub loop-rest-init : goal.loop-rest-init
loop-rest-init c = walked_start c.args.sets.now c.args.lists.now c.args.changed

pub loop-rest-preserved : goal.loop-rest-preserved
loop-rest-preserved c =
    walked_on c.loop-rest.invariant c.loop-rest-test.true c.lowest-x.ensures c.without_lowest-rest.ensures c.if-lists-x-eq0.false

pub returns : goal.returns
returns c = walked_end c.loop-rest.invariant c.loop-rest-test.false
