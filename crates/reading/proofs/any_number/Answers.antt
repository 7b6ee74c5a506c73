-- `reading::any_number` meets its contract.
use Rattle.std.proofs.Common.{rules}
use Rattle.std.proofs.lemmas.Result.{err_from_is_err_and}
use Rattle.meaning.specs.Refusals.{first}
use Rattle.reading.proofs.Judging.{judged_comes}
use Rattle.reading.proofs.any_number.Goals as goal

pub returns-in_err-what : goal.returns-in_err-what
unfolding first
returns-in_err-what c =
    let p = err_from_is_err_and c.from_residual.result c.from_residual.ensures.1 in
    rw (p.1, p.2) (judged_comes c.args.text.now c.args.at c.in_err-what.ensures _ (λ v l r said. search rules))

pub returns : goal.returns
unfolding first
returns c = judged_comes c.args.text.now c.args.at c.in_ok-what.ensures _ (λ v l r said. search rules)
