-- `filters::sweeps::filter_rule` meets its contract.
use native.Mathlib.Omega.{arith}
use Rattle.filters.proofs.Laid.{rules_ready}
use Rattle.filters.proofs.sweeps.filter_rule.Goals as goal

pub filter_by-requires : goal.filter_by-requires
filter_by-requires c =
    let ready = rules_ready c.requires in
    record { placed = ready.placed c.args.k (omega arith); room_len = (ready.filled, c.if-lists-ne32.false) }
