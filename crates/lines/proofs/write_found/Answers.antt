-- `lines::write_found` meets its contract.
use mathlib.Core.Path.{sym}
use native.Mathlib.Omega.{arith}
use borrow.Author.Rules.{rules}
use Rattle.lines.specs.Lines.{found_lines}
use Rattle.lines.proofs.Found.{found_lines_lem}
use Rattle.lines.proofs.Putting.{puts_both, wrote}
use Rattle.lines.proofs.write_found.Goals as goal

pub returns : goal.returns
unfolding found_lines
returns c =
    rw (sym (found_lines_lem c.args.values.now c.args.sorted.now (omega arith) (omega arith)))
    (wrote (search rules)
    (puts_both (puts_both (puts_both (puts_both c.word.ensures c.numbers.ensures) c.word-2.ensures) c.numbers-2.ensures) c.byte.ensures))
