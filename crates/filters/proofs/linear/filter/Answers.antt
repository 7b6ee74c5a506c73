-- `filters::linear::filter` meets its contract.
use mathlib.Core.Path.{refl}
use lib.ListN.{length}
use Rattle.filters.specs.Linear.{linear_of, NearAt}
use Rattle.filters.proofs.Sifting.{sifted_filtering, nothing_sifted}
use Rattle.filters.proofs.linear.filter.Goals as goal

pub returns-in-Some : goal.returns-in-Some
returns-in-Some c =
    let a = c.args in
    let s = a.scope.now in
    let ks = a.coefficients.now in
    sifted_filtering (linear_of s ks a.bound) (NearAt a.lists.now s ks c.in-Some.slack) a.lists.now _ _ (length s) refl c.keep_near.ensures
    (c.slack_of.ensures.some c.in-Some.slack c.in-Some.is)

pub returns-in-None : goal.returns-in-None
returns-in-None c =
    let a = c.args in
    let s = a.scope.now in
    sifted_filtering (linear_of s a.coefficients.now a.bound) (λ j v. ⊥) a.lists.now _ _ (length s) refl (nothing_sifted s 32 c.keep_each.ensures)
    (λ j v l h. (c.slack_of.ensures.none c.in-None.is j v l h, absurd))
