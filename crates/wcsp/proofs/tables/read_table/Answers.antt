-- `wcsp::tables::read_table` meets its contract. Each part goes on from the one before it.
use Rattle.std.proofs.Common.{arith, rules, sym}
use lib.Seq.{length-take-le}
use Rattle.wcsp.proofs.Tabling.{arity_bounds, arity_inside, known, fits, the_table}
use Rattle.wcsp.proofs.tables.read_table.Goals as goal

pub read_scope-requires : goal.read_scope-requires
read_scope-requires c = let a = c.args in (c.requires.0, (arity_bounds a.text.now a.sizes.now a.used a.at c.in_ok-arity.ensures).1)

pub tuple_count-requires : goal.tuple_count-requires
tuple_count-requires c = let a = c.args in (c.requires.1, (arity_bounds a.text.now a.sizes.now a.used a.at c.in_ok-arity.ensures).1)

pub slice_bounds-variables-end : goal.slice_bounds-variables-end
slice_bounds-variables-end c = let a = c.args in arity_inside a.text.now a.sizes.now a.used a.at c.in_ok-arity.ensures c.in_ok-scope.scope.what (search rules)

pub slice_bounds-heading-end : goal.slice_bounds-heading-end
slice_bounds-heading-end c =
    let a = c.args in
    sym (length-take-le _ _ (arity_inside a.text.now a.sizes.now a.used a.at c.in_ok-arity.ensures c.in_ok-scope.scope.what (search rules)))

pub invariant_of-heading : goal.invariant_of-heading
invariant_of-heading c =
    let a = c.args in
    let so_many = length-take-le _ _ (arity_inside a.text.now a.sizes.now a.used a.at c.in_ok-arity.ensures c.in_ok-scope.scope.what (search rules)) in
    record { known = known a.text.now a.sizes.now a.used a.at c.in_ok-arity.ensures c.in_ok-scope.ensures; not_empty = omega (arith, so_many, (arity_bounds a.text.now a.sizes.now a.used a.at c.in_ok-arity.ensures).0) }

pub read_tuples-requires : goal.read_tuples-requires
read_tuples-requires c =
    let a = c.args in
    let scope = c.in_ok-scope.scope.what in
    let so_many = length-take-le c.in_ok-arity.arity.what scope (arity_inside a.text.now a.sizes.now a.used a.at c.in_ok-arity.ensures scope (search rules)) in
    let room = fits a.text.now a.sizes.now a.used a.at c.in_ok-arity.ensures c.in_ok-scope.ensures c.in_ok-default.ensures c.in_ok-count.ensures in
    rw so_many (omega (arith, room))

pub overflow_mul-result : goal.overflow_mul-result
overflow_mul-result c =
    let a = c.args in
    omega (arith, fits a.text.now a.sizes.now a.used a.at c.in_ok-arity.ensures c.in_ok-scope.ensures c.in_ok-default.ensures c.in_ok-count.ensures)

pub returns : goal.returns
returns c =
    let a = c.args in
    the_table a.text.now a.sizes.now a.used a.at c.in_ok-arity.ensures c.in_ok-scope.ensures c.in_ok-default.ensures c.in_ok-count.ensures _ c.in_ok-listed.ensures _ c.sort_by.ensures (search rules)
