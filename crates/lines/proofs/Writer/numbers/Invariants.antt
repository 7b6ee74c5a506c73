-- `lines::Writer::numbers` meets its contract. The loop: the first numbers are written, as many as it passed.
use lib.ListN.{take}
use Rattle.lines.specs.Lines.{numbers}
use Rattle.lines.specs.Writing.{Puts}
use Rattle.lines.proofs.Writer.numbers.Given as goal

abbrev pub invariant-loop-n : goal.invariant-loop-n
invariant-loop-n l = Puts l.initial.self (numbers (take l.n-index l.ns)) l.self
