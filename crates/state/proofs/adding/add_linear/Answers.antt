-- `state::adding::add_linear` meets its contract. The code has the bound as the bits of an i32, which say the bound.
use mathlib.Core.Path.{refl, ap, ◌∙◌}
use mir.Facts.{to_z-of_z}
use Rattle.meaning.specs.Rules.{linear}
use Rattle.meaning.specs.Calls.{add_linear}
use Rattle.refusals.specs.Numbers.{number_of}
use Rattle.state.specs.Additions.{counts_of}
use Rattle.state.proofs.Answering.{refuses}
use Rattle.state.proofs.Testing.{linear_tested}
use Rattle.state.proofs.Extending.{counted, added_followable, added_answers}
use Rattle.state.proofs.adding.add_linear.Goals as goal

pub returns-in-Err : goal.returns-in-Err
returns-in-Err c =
    let a = c.args in
    let told = linear_tested a.scope.now a.coefficients.now a.bound (counts_of a.s) (rw (c.counts.ensures, to_z-of_z c.ranges.bound) at c.linear_tested.ensures) in
    refuses a.s (add_linear a.scope.now a.coefficients.now a.bound) c.in-Err.refusal _ _ c.refused.ensures
    λ w L p hold most. told.right w L (counted hold) ∙ ap number_of c.in-Err.is

pub with_linear-requires : goal.with_linear-requires
with_linear-requires c =
    let a = c.args in
    let told = linear_tested a.scope.now a.coefficients.now _ (counts_of a.s) (rw c.counts.ensures at c.linear_tested.ensures) in
    (c.requires, told.accepted (ap number_of c.in_default.is))

pub followed-requires : goal.followed-requires
followed-requires c =
    let a = c.args in
    let told = linear_tested a.scope.now a.coefficients.now a.bound (counts_of a.s) (rw (c.counts.ensures, to_z-of_z c.ranges.bound, c.in_default.is) at c.linear_tested.ensures) in
    added_followable a.s (add_linear a.scope.now a.coefficients.now a.bound) (linear a.scope.now a.coefficients.now a.bound) (λ w. refl)
    told.right (told.accepted refl).free c.with_linear.result (rw (to_z-of_z c.ranges.bound) at c.with_linear.ensures) c.requires

pub returns : goal.returns
returns c =
    let a = c.args in
    let told = linear_tested a.scope.now a.coefficients.now a.bound (counts_of a.s) (rw (c.counts.ensures, to_z-of_z c.ranges.bound, c.in_default.is) at c.linear_tested.ensures) in
    rw (c.accepted.ensures.0, c.accepted.ensures.1)
    (added_answers a.s (add_linear a.scope.now a.coefficients.now a.bound) (linear a.scope.now a.coefficients.now a.bound) (λ w. refl)
    told.right (told.accepted refl).free c.with_linear.result (rw (to_z-of_z c.ranges.bound) at c.with_linear.ensures)
    c.followed.result c.followed.ensures)
