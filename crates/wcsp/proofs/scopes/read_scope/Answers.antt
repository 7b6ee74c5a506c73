-- `wcsp::scopes::read_scope` meets its contract. The loop: i variables are named.
use Rattle.std.proofs.Common.{◌≡◌, ℕ, ◌<◌, arith, rules, take, ap, ◌∙◌, length-set}
use Rattle.std.proofs.lemmas.Result.{err_from_is_err_and}
use borrow.Author.Tests.{leb-false}
use Rattle.reading.proofs.Coming.{number_is}
use Rattle.reading.proofs.Judging.{tests_passed}
use Rattle.reading.proofs.Several.{next_number, fault_there, all_read, put_next}
use Rattle.wcsp.proofs.scopes.read_scope.Goals as goal

pub returns-in_err-x : goal.returns-in_err-x
returns-in_err-x c =
    let p = err_from_is_err_and c.from_residual.result c.from_residual.ensures.1 in
    rw (p.1, p.2) (fault_there _ c.loop-i.invariant.1 c.loop-i-test.true c.in_err-x.ensures)

pub overflow_cast-variables : goal.overflow_cast-variables
overflow_cast-variables c =
    let small : c.in_ok-x.x.what < c.args.n = leb-false _ _ (tests_passed _ _ _ (number_is c.in_ok-x.ensures)).0 in
    omega (arith, small)

pub loop-i-preserved : goal.loop-i-preserved
loop-i-preserved c =
    let l = c.loop-i in
    let v = c.in_ok-x.x.what in
    (length-set l.variables l.i v ∙ l.invariant.0, next_number _ _ l.invariant.1 c.loop-i-test.true _ c.in_ok-x.ensures (put_next l.variables l.i v (search rules)))

pub returns : goal.returns
returns c =
    let l = c.loop-i in
    let all : l.i ≡ c.args.arity = omega (arith, l.invariant.1.few, c.loop-i-test.false) in
    all_read _ l.invariant.1 _ c.loop-i-test.false (ap (λ (k : ℕ). take k l.variables) all)
