-- `filters::sweeps::settled` meets its contract: sweeps go on until one drops nothing.
use Rattle.filters.proofs.Sweeping.{toward_more, toward_end, sweep_last}
use Rattle.filters.proofs.Laid.{rules_ready}
use Rattle.filters.proofs.sweeps.settled.Goals as goal

pub sweep-requires : goal.sweep-requires
sweep-requires c = let ready = rules_ready c.requires in record { all_placed = ready.placed; room_len = (ready.filled, c.loop.array_long) }

pub loop-preserved : goal.loop-preserved
loop-preserved c = toward_more c.loop.invariant c.sweep.ensures.swept

pub returns : goal.returns
returns c = toward_end (toward_more c.loop.invariant c.sweep.ensures.swept) (sweep_last c.sweep.ensures c.loop-test.false)
