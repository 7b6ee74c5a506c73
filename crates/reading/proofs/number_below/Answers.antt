-- `reading::number_below` meets its contract.
use Rattle.std.proofs.Common.{rules}
use Rattle.meaning.specs.Refusals.{first}
use Rattle.reading.proofs.Judging.{judged_comes}
use Rattle.reading.proofs.number_below.Goals as goal

pub returns : goal.returns
unfolding first
returns c = judged_comes c.args.text.now c.args.at c.number_judged.ensures _ (λ v l r said. search rules)
