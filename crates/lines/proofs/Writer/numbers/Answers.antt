-- `lines::Writer::numbers` meets its contract. The loop: one more number is written behind the others.
use mathlib.Core.Path.{sym}
use borrow.Author.Rules.{rules}
use Rattle.lines.proofs.Putting.{puts_more}
use Rattle.lines.proofs.Writer.numbers.Goals as goal

pub loop-n-preserved : goal.loop-n-preserved
loop-n-preserved c = puts_more c.args.ns.now c.loop-n.n-index (search rules) c.loop-n.invariant (rw (sym c.from.ensures) c.number.ensures)
