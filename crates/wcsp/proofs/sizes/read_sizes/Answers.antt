-- `wcsp::sizes::read_sizes` meets its contract. The loop: the sizes so far are read.
use Rattle.std.proofs.Common.{◌≡◌, ℕ, ◌≤◌, List, ◌++◌, length, arith, rules, take, ap, ◌∙◌, sym, subst}
use lib.Seq.{length-take-le, take-length}
use Rattle.std.proofs.Math.Seq.{take-append_seam}
use Rattle.std.proofs.lemmas.Result.{err_from_is_err_and}
use Rattle.reading.proofs.Coming.{number_is}
use Rattle.reading.proofs.Judging.{in_range}
use Rattle.reading.proofs.Several.{none_yet, next_number, fault_there, all_read, put_next}
use Rattle.wcsp.specs.Steps.{Under}
use Rattle.wcsp.proofs.Buffers.{under_zeros, under_set}
use Rattle.wcsp.proofs.sizes.read_sizes.Goals as goal

pub loop-size-init : goal.loop-size-init
loop-size-init c = (length-take-le _ _ (omega (arith, c.requires.1)), under_zeros 65 c.args.n 32 (omega arith), none_yet _ _ _)

pub returns-in_err-said : goal.returns-in_err-said
returns-in_err-said c =
    let l = c.loop-size in
    let p = err_from_is_err_and c.from_residual.result c.from_residual.ensures.1 in
    rw (p.1, p.2) (fault_there _ l.invariant.2 (omega (arith, c.loop-size-test.true, l.invariant.0)) c.in_err-said.ensures)

pub overflow_cast-size : goal.overflow_cast-size
overflow_cast-size c =
    let small : c.in_ok-said.said.what ≤ c.args.largest = (in_range _ _ _ _ _ _ (number_is c.in_ok-said.ensures)).1 in
    omega (arith, small)

pub loop-size-preserved : goal.loop-size-preserved
loop-size-preserved c =
    let l = c.loop-size in
    let v = c.in_ok-said.said.what in
    let small : v ≤ c.args.largest = (in_range _ _ _ _ _ _ (number_is c.in_ok-said.ensures)).1 in (
      search rules,
      under_set l.size-items l.size-index v l.invariant.1 (omega (arith, small)) (search rules),
      next_number _ _ l.invariant.2 (omega (arith, c.loop-size-test.true, l.invariant.0)) _ c.in_ok-said.ensures (put_next l.size-items l.size-index v (search rules)),
    )

pub returns : goal.returns
returns c =
    let l = c.loop-size in
    let sizes = l.size-items in
    let front : (rest : List ℕ) → take c.args.n (sizes ++ rest) ≡ sizes = λ rest. ap (λ (k : ℕ). take k (sizes ++ rest)) (sym l.invariant.0) ∙ take-append_seam sizes rest in
    let end : l.size-index ≡ length sizes = omega (arith, l.invariant.0, l.invariant.2.few, c.loop-size-test.false) in
    let all : take l.size-index sizes ≡ sizes = ap (λ (k : ℕ). take k sizes) end ∙ take-length sizes in
    all_read _ l.invariant.2 _ (omega (arith, l.invariant.0, end)) (all ∙ sym (front _), subst (λ (k : List ℕ). Under 65 k) (sym (front _)) l.invariant.1)
