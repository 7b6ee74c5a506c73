-- `arguments::any_beyond` meets its contract: the search along the list is the library's.
use Rattle.std.proofs.Common.{sym, ◌∙◌, rules, tests}
use Rattle.std.proofs.lemmas.Iterator.{YieldsList-from_slice}
use Rattle.std.proofs.lemmas.Iterator.Search.{any_from_yields_List}
use Rattle.meaning.specs.Limits.{coefficient_limit}
use Rattle.meaning.specs.Calls.{beyond}
use Rattle.tuples.proofs.Chains.{some_any}
use Rattle.arguments.proofs.any_beyond.Goals as goal

pub returns : goal.returns
returns c = any_from_yields_List (beyond coefficient_limit) _ _ _ c.any.ensures.ran (YieldsList-from_slice c.args.coefficients.now (cc)) (λ x b q k. search (rules, tests)) ∙ sym (some_any _ _)
