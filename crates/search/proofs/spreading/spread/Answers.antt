-- `search::spreading::spread` meets its contract: wave after wave, until nothing is due.
use Rattle.search.proofs.Waves.{wave_lists, wave_dry, wave_on, wave_less, wave_end}
use Rattle.search.proofs.spreading.spread.Goals as goal

pub affected_by-requires : goal.affected_by-requires
affected_by-requires c = wave_lists c.requires.net.0.sets c.loop-rest.invariant c.loop-rest-test.true c.lowest-k.ensures c.filter_rule-changed.ensures

pub returns-in_err-after : goal.returns-in_err-after
returns-in_err-after c =
    rw c.from_residual.ensures
    (wave_dry c.requires.net.0.sets c.loop-rest.invariant c.loop-rest-test.true c.lowest-k.ensures c.filter_rule-changed.ensures c.in_err-after.ensures)

pub loop-rest-smaller : goal.loop-rest-smaller
loop-rest-smaller c =
    wave_less c.requires.net.0.sets c.loop-rest.invariant c.loop-rest-test.true c.lowest-k.ensures c.filter_rule-changed.ensures c.in_ok-after.ensures
    c.without_lowest.ensures c.without.ensures

pub loop-rest-preserved : goal.loop-rest-preserved
loop-rest-preserved c =
    wave_on c.requires.net.0.sets c.loop-rest.invariant c.loop-rest-test.true c.lowest-k.ensures c.filter_rule-changed.ensures c.in_ok-after.ensures
    c.without_lowest.ensures c.without.ensures

pub returns : goal.returns
returns c = wave_end c.loop-rest.invariant c.loop-rest-test.false
