-- `search::choices::first_within` meets its contract: the lists are narrowed once, before the first choice.
use borrow.Author.Rules.{rules}
use Rattle.search.proofs.Choosing.{none_empty, closed_narrowable}
use Rattle.search.proofs.choices.first_within.Goals as goal

pub returns-then-any_empty : goal.returns-then-any_empty
returns-then-any_empty c = none_empty c.requires (search rules) c.any_empty.ensures c.if-any_empty.true

pub narrow-requires : goal.narrow-requires
narrow-requires c = closed_narrowable c.requires (search rules) c.any_empty.ensures c.if-any_empty.false
