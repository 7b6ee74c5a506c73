-- `leximin::best_of` meets its contract.
use mathlib.Core.Path.{refl, sym}
use Rattle.blocks.proofs.Reading.{copied_is}
use Rattle.state.proofs.Holding.{sizes}
use Rattle.leximin.proofs.Solvable.{solved_by}
use Rattle.leximin.proofs.best_of.Goals as goal

pub best-requires : goal.best-requires
best-requires c =
    let z = sizes c.requires in
    let held = c.rules_held.ensures in
    record {
      state = c.args.s;
      reached = c.requires;
      rules = sym held.0;
      cells = sym held.1;
      objectives = refl;
      variables = refl;
      lists = copied_is z.lists z.depth c.lists_after-lists.ensures;
    }

pub returns : goal.returns
returns c =
    let z = sizes c.requires in
    let lists = c.lists_after-lists in
    let held = c.rules_held.ensures in
    solved_by c.args.s lists.result (copied_is z.lists z.depth lists.ensures) c.best.result (rw (held.0, held.1) at c.best.ensures)
