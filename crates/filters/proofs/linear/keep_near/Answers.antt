-- `filters::linear::keep_near` meets its contract. The loop's invariant: the places passed are sifted.
use mathlib.Core.Path.{◌∙◌}
use lib.ListN.{get_or}
use Rattle.filters.specs.Linear.{NearAt}
use Rattle.filters.proofs.Cells.{mem_at}
use Rattle.filters.proofs.Sifting.{sifted_none, in_turn, sifted_more}
use Rattle.filters.proofs.linear.keep_near.Goals as goal

pub loop-i-init : goal.loop-i-init
loop-i-init c = sifted_none _ _ _

pub keep_term-changed-requires : goal.keep_term-changed-requires
keep_term-changed-requires c =
    let s = c.args.scope.now in
    let known = c.requires.0 in
    let i = c.loop-i.i in
    (c.loop-i.invariant.long ∙ known.lists, known.known (get_or s i 0) (mem_at s i 0 c.loop-i-test.true), (c.type_inv.coefficients i).fits)

pub loop-i-preserved : goal.loop-i-preserved
loop-i-preserved c =
    let a = c.args in
    let s = a.scope.now in
    let near = NearAt a.lists.now s a.coefficients.now a.slack in
    let once = c.requires.0.once in
    let l = c.loop-i-test.true in
    let so = c.loop-i.invariant in
    sifted_more s near once c.loop-i.i l so (rw (in_turn s near once c.loop-i.i l so) at c.keep_term-changed.ensures)
