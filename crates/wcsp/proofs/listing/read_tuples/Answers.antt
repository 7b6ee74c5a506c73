-- `wcsp::listing::read_tuples` meets its contract. The loop: the first i tuples are read.
use Rattle.std.proofs.Common.{◌≡◌, ℕ, length, arith, refl, subst}
use Rattle.std.proofs.lemmas.Result.{err_from_is_err_and}
use Rattle.wcsp.specs.Steps.{Filled}
use Rattle.reading.proofs.Several.{none_yet, one_more, fault_there, all_read}
use Rattle.wcsp.proofs.Heaping.{filled_none, filled_more, row_inside}
use Rattle.wcsp.proofs.Keying.{keyed_none}
use Rattle.wcsp.proofs.listing.read_tuples.Goals as goal

pub loop-i-init : goal.loop-i-init
loop-i-init c = (keyed_none _ (length c.args.heading.scope.now) c.args.cells.now refl, (_, filled_none _ _, none_yet _ _ _))

pub returns-in_err-tuple : goal.returns-in_err-tuple
returns-in_err-tuple c =
    let l = c.loop-i in
    let (ts, filled, so_far) = l.invariant.1 in
    let e = c.in_err-tuple.ensures.next_tuple in
    let p = err_from_is_err_and c.from_residual.result c.from_residual.ensures.1 in
    rw (p.1, p.2) (fault_there _ so_far c.loop-i-test.true (e.comes ts filled))

pub loop-i-preserved : goal.loop-i-preserved
loop-i-preserved c =
    let a = c.args in
    let arity = length a.heading.scope.now in
    let l = c.loop-i in
    let (ts, filled, so_far) = l.invariant.1 in
    let e = c.in_ok-tuple.ensures in
    let behind = e.next_tuple.behind in
    let (t, k, more) = one_more _ so_far c.loop-i-test.true (e.next_tuple.comes ts filled) in
    let fits = row_inside l.i a.count arity c.loop-i-test.true in
    (e.keyed_on, (_, filled_more arity l.i ts l.cells _ filled behind (omega (arith, fits, c.requires, c.told-cells)) t k, more))

pub returns : goal.returns
returns c =
    let a = c.args in
    let l = c.loop-i in
    let (ts, filled, so_far) = l.invariant.1 in
    let all : l.i ≡ a.count = omega (arith, so_far.few, c.loop-i-test.false) in
    all_read _ so_far _ c.loop-i-test.false (subst (λ (n : ℕ). Filled (length a.heading.scope.now) n ts l.cells) all filled)
