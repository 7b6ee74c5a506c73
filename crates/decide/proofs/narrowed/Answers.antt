-- `decide::narrowed` meets its contract.
use mathlib.Core.Logic.{⊎_elim}
use Rattle.blocks.proofs.Reading.{copied_is}
use Rattle.state.proofs.Holding.{sizes}
use Rattle.state.proofs.Reading.{reached_rules}
use Rattle.decide.proofs.Decisions.{narrows_by, nothing_removed}
use Rattle.decide.proofs.narrowed.Goals as goal

pub settled-left-requires : goal.settled-left-requires
settled-left-requires c =
    let held = c.rules_held-rules.ensures in
    rw (held.0, held.1) (reached_rules c.requires.reached)

pub returns : goal.returns
returns c =
    let copied = c.lists_after-left in
    let s = c.args.s in
    let z = sizes c.requires.reached in
    let eb = copied_is z.lists z.depth copied.ensures in
    let held = c.rules_held-rules.ensures in
    let narrows = narrows_by s c.args.x c.args.kept copied.result c.if-found-kept.left c.put_lists.new.lists c.requires.x_lt_variables.0 c.requires.x_lt_variables.1 eb c.put_lists.ensures in
    ⊎_elim (λ p. narrows (rw p.left-is (rw (held.0, held.1) at p.settled-left.ensures))) (λ p. narrows (rw p.left-is (nothing_removed c.requires.reached c.args.x c.args.kept eb p.if-found-kept.false))) c.if-found-kept.branch-raw
