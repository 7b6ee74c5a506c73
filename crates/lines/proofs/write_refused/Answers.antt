-- `lines::write_refused` meets its contract.
use mathlib.Core.Path.{sym}
use borrow.Author.Rules.{rules}
use Rattle.lines.specs.Lines.{refused_line}
use Rattle.lines.proofs.Putting.{puts_both, wrote}
use Rattle.lines.proofs.write_refused.Goals as goal

pub returns : goal.returns
unfolding refused_line
returns c =
    rw (sym c.from.ensures)
    (wrote (search rules)
    (puts_both (puts_both (puts_both (puts_both c.word.ensures c.number.ensures) c.word-2.ensures) c.number-2.ensures) c.byte.ensures))
