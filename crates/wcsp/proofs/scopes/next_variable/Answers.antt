-- `wcsp::scopes::next_variable` meets its contract.
use Rattle.std.proofs.Common.{rules}
use Rattle.meaning.specs.Refusals.{first}
use Rattle.reading.proofs.Judging.{judged_comes}
use Rattle.wcsp.proofs.scopes.next_variable.Goals as goal

pub returns : goal.returns
unfolding first
returns c = judged_comes c.args.text.now c.args.at c.number_judged.ensures _ (λ v l r said. search rules)
