-- `leximin::solve` meets its contract.
use native.Mathlib.Omega.{arith}
use Rattle.leximin.proofs.Outcomes.{nothing_found, best_found}
use borrow.Author.Rules.{rules}
use Rattle.leximin.proofs.solve.Goals as goal

pub returns-in_default : goal.returns-in_default
returns-in_default c = nothing_found c.args.s c.args.buffer.now (λ e. omega (arith, c.if-count-eq0.false)) c.if-buffer-n.false (search rules)

pub returns : goal.returns
returns c =
    best_found c.args.s c.args.buffer.now (λ e. omega (arith, c.if-count-eq0.false)) c.if-buffer-n.false _ c.copy_from_slice.new.self c.in-Some.ensures
    c.copy_from_slice.ensures.after
