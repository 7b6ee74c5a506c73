-- `filters::sweeps::sweep` meets its contract. After some rules the lists are swept by those.
use mathlib.Core.Path.{◌∙◌}
use borrow.Author.Rules.{rules}
use Rattle.filters.proofs.Sweeping.{rules_more, sweeping_none, sweeping_more}
use Rattle.filters.proofs.sweeps.sweep.Goals as goal

pub loop-head-init : goal.loop-head-init
loop-head-init c = (λ x. (c.type_inv.lists x).fits, search rules, sweeping_none c.args.lists.now)

pub loop-head-preserved : goal.loop-head-preserved
loop-head-preserved c =
    let at = c.loop-head in
    let f = c.filter_by-changed in
    let a = c.args in (
      at.invariant.0,
      f.ensures.filtered.long ∙ at.invariant.1,
      rw (rules_more a.rules.heads.now a.rules.room.now at.head-index (search rules))
          (sweeping_more at.changed f.result c.requires.room_len.1 at.invariant.0 at.invariant.2 f.ensures),
    )
