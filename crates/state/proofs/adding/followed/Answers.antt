-- `state::adding::followed` meets its contract.
use native.Mathlib.Omega.{arith}
use Rattle.blocks.proofs.Reading.{copied_is}
use Rattle.state.proofs.Following.{stays, goes_on}
use Rattle.state.proofs.adding.followed.Goals as goal
use Rattle.state.proofs.adding.followed.Goals.{then-filter_rule-ne0, else-filter_rule-ne0}

pub returns : goal.returns
returns c =
    let s = c.args.s in
    let rules = c.rules_held-rules in
    let copied = c.lists_after-left in
    let filtered = c.filter_rule in
    let eb = copied_is c.requires.lists (omega arith) copied.ensures in
    let here = stays s c.args.k c.requires rules.result.heads.now rules.result.room.now rules.ensures copied.result filtered.new.lists c.put_lists.new.lists filtered.result eb filtered.ensures in
    let more = goes_on s c.args.k c.requires rules.result.heads.now rules.result.room.now rules.ensures copied.result filtered.new.lists c.put_lists.new.lists filtered.result eb filtered.ensures in
    elim c.if-filter_rule-ne0.branch [ then-filter_rule-ne0 w ↦ search (here, more) | else-filter_rule-ne0 w ↦ search (here, more) ]
