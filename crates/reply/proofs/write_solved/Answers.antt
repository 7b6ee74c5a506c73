-- `reply::write_solved` meets its contract.
use mathlib.Core.Path.{◌≡◌}
use borrow.Author.Rules.{rules}
use native.Mathlib.Omega.{arith}
use lib.ListN.{take}
use Rattle.std.specs.Prelude.{Ok}
use Rattle.leximin.specs.declared.Solved.TheVariants.{Found, Inconsistent}
use Rattle.meaning.specs.Calls.{name_objectives}
use Rattle.state.proofs.Runs.{reached_after}
use Rattle.lines.proofs.Putting.{written_fits}
use Rattle.reply.specs.Replies.{upwards}
use Rattle.reply.proofs.Telling.{told, found_tells, none_tells, never_refused}
use Rattle.reply.proofs.write_solved.Goals as goal

pub solve-solved-requires : goal.solve-solved-requires
solve-solved-requires c =
    let count = c.objective_count-count in
    let reached = c.requires.0 in
    reached_after (name_objectives (take count.result (upwards 0 16))) reached c.name_objectives-named.ensures

pub returns-in-Ok-Found : goal.returns-in-Ok-Found
returns-in-Ok-Found c =
    let is : c.solve-solved.result ≡ Ok Found = search rules in
    let n = c.args.n in
    let ready = told _ _ n _ _ c.objective_count-count.ensures c.name_objectives-named.ensures in
    let says = ready c.solve-solved.ensures is in
    (λ h w run l d o. found_tells w n d o (says h w run l) c.write_rota.ensures, written_fits c.write_rota.ensures)

pub returns-in-Ok-Inconsistent : goal.returns-in-Ok-Inconsistent
returns-in-Ok-Inconsistent c =
    let is : c.solve-solved.result ≡ Ok Inconsistent = search rules in
    let n = c.args.n in
    let ready = told _ _ n _ _ c.objective_count-count.ensures c.name_objectives-named.ensures in
    let says = ready c.solve-solved.ensures is in
    (λ h w run l d o. none_tells w n d o (says h w run l) c.write_inconsistent.ensures, written_fits c.write_inconsistent.ensures)

pub returns-in-Err : goal.returns-in-Err
returns-in-Err c =
    let n = c.args.n in
    let ready = told _ _ n _ _ c.objective_count-count.ensures c.name_objectives-named.ensures in
    let says = ready c.solve-solved.ensures c.in-Err.is in
    (λ h w run l d o. never_refused w n d o _ c.requires.1 (omega (arith, c.requires.2)) (says h w run l), omega arith)
