-- `blocks::clear_after` meets its contract.
use native.Mathlib.Omega.{arith}
use Rattle.std.proofs.Common.{rules, List, ℕ}
use Rattle.std.specs.List.{each_same}
use Rattle.std.proofs.lemmas.List.{set-get_or}
use Rattle.blocks.proofs.Writing.{emptied}
use Rattle.blocks.proofs.clear_after.Goals as goal

pub returns-then-k-lt-DECISIONS : goal.returns-then-k-lt-DECISIONS
returns-then-k-lt-DECISIONS c =
    let e = emptied c.args.lists.now c.args.k (omega arith) c.told-lists (c.fill.ensures.after (λ y clones. each_same _ y clones.whole)) in
    search (rules, e, set-get_or)
