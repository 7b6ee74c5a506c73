-- `arguments::is_named` meets its contract: the search along the list is the library's.
use Rattle.std.proofs.Common.{sym, ◌∙◌, rules, tests, eqb}
use Rattle.std.proofs.lemmas.Iterator.{YieldsList-from_slice}
use Rattle.std.proofs.lemmas.Iterator.Search.{any_from_yields_List}
use Rattle.tuples.proofs.Chains.{some_any}
use Rattle.arguments.proofs.is_named.Goals as goal

pub returns : goal.returns
returns c = any_from_yields_List (eqb c.args.x) _ _ _ c.any.ensures.ran (YieldsList-from_slice c.args.variables.now (cc)) (λ x b q k. search (rules, tests)) ∙ sym (some_any _ _)
