-- `leximin::best` meets its contract. The loop: the thresholds before the i-th are as high as they can be.
use mathlib.Core.Path.{sym}
use native.Mathlib.Omega.{arith}
use lib.Seq.{length-take-le}
use borrow.Author.Rules.{rules}
use Rattle.search.proofs.Taking.{given_known}
use Rattle.leximin.proofs.Climbs.{names, begins, begins_none, ends, small, rises, rises_less, goes_on}
use Rattle.leximin.proofs.best.Goals as goal

pub slice_bounds-floors-end : goal.slice_bounds-floors-end
slice_bounds-floors-end c = (given_known c.requires).most

pub slice_bounds-first_reaching-end : goal.slice_bounds-first_reaching-end
slice_bounds-first_reaching-end c = sym (length-take-le _ _ (given_known c.requires).most)

pub returns-in_err-rota : goal.returns-in_err-rota
returns-in_err-rota c = rw c.from_residual.ensures (begins_none (given_known c.requires) _ c.args.lists c.in_err-rota.ensures)

pub loop-i-init : goal.loop-i-init
loop-i-init c = begins (given_known c.requires) (λ x. search rules) c.in_ok-rota.ensures

pub sorted_at-reached-requires : goal.sorted_at-reached-requires
sorted_at-reached-requires c = (names (given_known c.requires), omega arith)

pub overflow_add-floors : goal.overflow_add-floors
overflow_add-floors c = let fits = small (given_known c.requires) c.loop-i.invariant c.loop-i-test.true c.sorted_at-reached.ensures in omega arith

pub slice_bounds-first_reaching-end-in-loop-i : goal.slice_bounds-first_reaching-end-in-loop-i
slice_bounds-first_reaching-end-in-loop-i c = sym (length-take-le _ _ (omega arith))

pub loop-i-smaller-in-Some : goal.loop-i-smaller-in-Some
loop-i-smaller-in-Some c = rises_less (given_known c.requires) c.loop-i.invariant c.loop-i-test.true c.sorted_at-reached.ensures c.in-Some.ensures

pub loop-i-preserved-in-Some : goal.loop-i-preserved-in-Some
loop-i-preserved-in-Some c = rises (given_known c.requires) c.loop-i.invariant c.loop-i-test.true c.sorted_at-reached.ensures c.in-Some.ensures

pub loop-i-preserved : goal.loop-i-preserved
loop-i-preserved c = goes_on (given_known c.requires) c.loop-i.invariant c.loop-i-test.true c.sorted_at-reached.ensures c.in_default.ensures

pub returns : goal.returns
returns c = ends c.loop-i.invariant c.loop-i-test.false
