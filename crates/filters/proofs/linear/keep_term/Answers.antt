-- `filters::linear::keep_term` meets its contract.
use lib.ListN.{get_or}
use Rattle.filters.specs.Linear.{Near}
use Rattle.filters.proofs.Sifting.{all_narrowed, kept_narrowed}
use Rattle.filters.proofs.Nearness.{near_all, near_above, near_first}
use Rattle.filters.proofs.linear.keep_term.Goals as goal
use Rattle.filters.proofs.linear.keep_term.Goals.{After-lowest-lowest}

pub returns-then-weight-highest : goal.returns-then-weight-highest
returns-then-weight-highest c =
    let a = c.args in
    let m = get_or a.lists.now a.x 0 in
    all_narrowed a.lists.now a.x (Near a.kept m a.slack)
    (near_all m _ _ c.lowest-lowest.ensures c.highest-highest.ensures a.kept a.slack _ c.abs_diff-weight.ensures c.if-weight-highest.true)

pub returns-then-kept-lt-ZERO_COEFFICIENT : goal.returns-then-kept-lt-ZERO_COEFFICIENT
returns-then-kept-lt-ZERO_COEFFICIENT c =
    let a = c.args in
    let m = get_or a.lists.now a.x 0 in
    kept_narrowed (Near a.kept m a.slack) (c.keep.ensures.kept c.requires.1 c.requires.0)
    (λ v h.
    near_above m _ _ c.lowest-lowest.ensures c.highest-highest.ensures a.kept a.slack _ c.abs_diff-weight.ensures _ c.if-weight-highest.false v h
    c.if-kept-lt-ZERO_COEFFICIENT.true c.at_or_above.ensures)

pub returns-else-kept-lt-ZERO_COEFFICIENT : goal.returns-else-kept-lt-ZERO_COEFFICIENT
returns-else-kept-lt-ZERO_COEFFICIENT c =
    let a = c.args in
    let m = get_or a.lists.now a.x 0 in
    kept_narrowed (Near a.kept m a.slack) (c.keep-else-kept-lt-ZERO_COEFFICIENT.ensures.kept c.requires.1 c.requires.0)
    (λ v h.
    near_first m _ _ c.lowest-lowest.ensures c.highest-highest.ensures a.kept a.slack _ c.abs_diff-weight.ensures _ c.if-weight-highest.false v h
    c.if-kept-lt-ZERO_COEFFICIENT.false ((goal.at.returns-else-kept-lt-ZERO_COEFFICIENT c).After-lowest-lowest.type_inv.lists a.x).fits c.first_values.ensures)
