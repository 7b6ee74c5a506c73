-- `tuples::is_listed` meets its contract: the pieces that it looks through are the tuples that the cells make.
use Rattle.std.proofs.Common.{sym, ◌∙◌, rules, tests, arith}
use Rattle.std.proofs.lemmas.Bool.Decides.{nat_tests}
use Rattle.std.proofs.lemmas.Iterator.Search.{any_from_yields_List}
use Rattle.meaning.specs.Calls.{same}
use Rattle.tuples.proofs.Chains.{some_any, whole, chunks_are}
use Rattle.tuples.proofs.is_listed.Goals as goal

pub returns : goal.returns
returns c =
    let a = c.args in
    let pieces = chunks_are _ a.cells.now (grind (arith, nat_tests)) c.chunks_exact.ensures.size (search (rules, whole)) in
    any_from_yields_List (same a.tuple.now) _ _ _ c.any.ensures.ran pieces (λ x b q k. search (rules, tests)) ∙ sym (some_any _ _)
