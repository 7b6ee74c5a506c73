-- `filters::tables::keep_each` meets its contract.
use mathlib.Core.Path.{◌∙◌}
use lib.ListN.{get_or}
use Rattle.filters.proofs.Cells.{mem_at}
use Rattle.filters.proofs.Sifting.{sifted_none, masked_more}
use Rattle.filters.proofs.tables.keep_each.Goals as goal

pub loop-j-init : goal.loop-j-init
loop-j-init c = sifted_none _ _ _

pub loop-j-preserved : goal.loop-j-preserved
loop-j-preserved c =
    let s = c.args.scope.now in
    let known = c.requires.0 in
    let j = c.loop-j.j in
    let so = c.loop-j.invariant in
    masked_more s c.args.masks.now known.once j c.loop-j-test.true so
    (c.keep-changed.ensures.kept (known.known (get_or s j 0) (mem_at s j 0 c.loop-j-test.true)) (so.long ∙ known.lists))
