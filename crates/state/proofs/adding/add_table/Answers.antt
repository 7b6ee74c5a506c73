-- `state::adding::add_table` meets its contract.
use mathlib.Core.Path.{refl, ap, ◌∙◌}
use Rattle.meaning.specs.Calls.{add_table, rule_of}
use Rattle.refusals.specs.Numbers.{number_of}
use Rattle.state.specs.Promises.{sort_said}
use Rattle.state.specs.Additions.{counts_of}
use Rattle.state.proofs.Answering.{refuses}
use Rattle.state.proofs.Testing.{table_tested}
use Rattle.state.proofs.Extending.{counted, added_followable, added_answers}
use Rattle.state.proofs.adding.add_table.Goals as goal

pub returns-in-Err : goal.returns-in-Err
returns-in-Err c =
    let a = c.args in
    let told = table_tested a.scope.now a.cells.now (counts_of a.s) (rw c.counts.ensures at c.table_tested.ensures) in
    refuses a.s (add_table (sort_said a.sort) a.scope.now a.cells.now) c.in-Err.refusal _ _ c.refused.ensures
    λ w L p hold most. told.right w L (sort_said a.sort) (counted hold) ∙ ap number_of c.in-Err.is

pub with_table-requires : goal.with_table-requires
with_table-requires c =
    let a = c.args in
    let told = table_tested a.scope.now a.cells.now (counts_of a.s) (rw c.counts.ensures at c.table_tested.ensures) in
    (c.requires, told.accepted (ap number_of c.in_default.is))

pub followed-requires : goal.followed-requires
followed-requires c =
    let a = c.args in
    let told = table_tested a.scope.now a.cells.now (counts_of a.s) (rw c.counts.ensures at c.table_tested.ensures) in
    added_followable a.s (add_table (sort_said a.sort) a.scope.now a.cells.now) (rule_of (sort_said a.sort) a.scope.now a.cells.now) (λ w. refl)
    (λ w L b. told.right w L (sort_said a.sort) b ∙ ap number_of c.in_default.is) (told.accepted (ap number_of c.in_default.is)).free
    c.with_table.result c.with_table.ensures c.requires

pub returns : goal.returns
returns c =
    let a = c.args in
    let told = table_tested a.scope.now a.cells.now (counts_of a.s) (rw c.counts.ensures at c.table_tested.ensures) in
    rw (c.accepted.ensures.0, c.accepted.ensures.1)
    (added_answers a.s (add_table (sort_said a.sort) a.scope.now a.cells.now) (rule_of (sort_said a.sort) a.scope.now a.cells.now) (λ w. refl)
    (λ w L b. told.right w L (sort_said a.sort) b ∙ ap number_of c.in_default.is) (told.accepted (ap number_of c.in_default.is)).free
    c.with_table.result c.with_table.ensures c.followed.result c.followed.ensures)
