-- `lines::write_inconsistent` meets its contract.
use borrow.Author.Rules.{rules}
use Rattle.lines.specs.Lines.{inconsistent_line}
use Rattle.lines.proofs.Putting.{wrote}
use Rattle.lines.proofs.write_inconsistent.Goals as goal

pub returns : goal.returns
unfolding inconsistent_line
returns c = wrote (search rules) c.word.ensures
