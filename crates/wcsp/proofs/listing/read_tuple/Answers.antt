-- `wcsp::listing::read_tuple` meets its contract. The loop: the first j values are read.
use Rattle.std.proofs.Common.{◌≡◌, ℕ, ◌<◌, length, arith, rules, take, get_or, ap, ◌∙◌}
use lib.Seq.{take-length}
use Rattle.std.proofs.lemmas.Result.{err_from_is_err_and}
use borrow.Author.Tests.{leb-false}
use Rattle.reading.proofs.Coming.{number_is}
use Rattle.reading.proofs.Judging.{tests_passed}
use Rattle.reading.proofs.Several.{next_number, fault_there, all_read, put_next}
use Rattle.wcsp.proofs.Tupling.{value_came}
use Rattle.wcsp.proofs.listing.read_tuple.Goals as goal

pub returns-in_err-value : goal.returns-in_err-value
returns-in_err-value c =
    let a = c.args in
    let l = c.loop-j in
    let p = err_from_is_err_and c.from_residual.result c.from_residual.ensures.1 in
    rw (p.1, p.2) (fault_there _ l.invariant c.loop-j-test.true (value_came a.text.now a.heading.sizes.now a.heading.scope.now l.tuple l.j l.place (search rules) c.in_err-value.ensures))

pub overflow_cast-tuple : goal.overflow_cast-tuple
overflow_cast-tuple c =
    let a = c.args.heading in
    let small : c.in_ok-value.value.what < get_or a.sizes.now (get_or a.scope.now c.loop-j.j 0) 0 = leb-false _ _ (tests_passed _ _ _ (number_is c.in_ok-value.ensures)).0 in
    omega (arith, small)

pub loop-j-preserved : goal.loop-j-preserved
loop-j-preserved c =
    let a = c.args in
    let l = c.loop-j in
    let v = c.in_ok-value.value.what in
    next_number _ _ l.invariant c.loop-j-test.true _ (value_came a.text.now a.heading.sizes.now a.heading.scope.now l.tuple l.j l.place (search rules) c.in_ok-value.ensures) (put_next l.tuple l.j v (search rules))

pub returns : goal.returns
returns c =
    let l = c.loop-j in
    let all : l.j ≡ length l.tuple = omega (arith, c.requires, c.loop-j-test.false) in
    all_read _ l.invariant _ c.loop-j-test.false (ap (λ (k : ℕ). take k l.tuple) all ∙ take-length l.tuple)
