-- `filters::forbidden::filter` meets its contract.
use mathlib.Core.Path.{◌≡◌, sym, ◌∙◌}
use Prim.Native.Nat.{◌/◌}
use native.Mathlib.Omega.{arith}
use lib.ListN.{length, take}
use lib.Seq.{length-take-le}
use Rattle.meaning.specs.Calls.{tuples_of}
use Rattle.meaning.proofs.Listed.{product_but}
use Rattle.meaning.proofs.Proper.{rows_count}
use Rattle.filters.specs.Tables.{places}
use Rattle.filters.proofs.Cells.{all_below, proper_tuples}
use Rattle.filters.proofs.Sifting.{ready_known}
use Rattle.filters.proofs.Places.{gathered_front, products_front}
use Rattle.filters.proofs.Supporting.{all_above, forbidden_nothing, forbidden_filtering}
use Rattle.filters.proofs.forbidden.filter.Goals as goal

pub gather-gathered-requires : goal.gather-gathered-requires
gather-gathered-requires c =
    let ready = c.requires.0 in
    (ready.proper.parts.few, all_below c.args.scope.now ready.proper.known, ready.lists)

pub returns-then-too_few : goal.returns-then-too_few
returns-then-too_few c =
    let s = c.args.scope.now in
    let lists = c.args.lists.now in
    let proper = c.requires.0.proper in
    let masks = take (length s) c.gather-gathered.result in
    let e : length masks ≡ length s = length-take-le (length s) c.gather-gathered.result (omega (arith, proper.parts.few)) in
    let products = products_front masks c.ways_of-products.result (length s) e (omega (arith, proper.parts.few)) c.ways_of-products.ensures in
    let few = all_above (length c.args.cells.now / length s) masks _ products (sym c.too_few.ensures ∙ c.if-too_few.true) in
    forbidden_nothing lists s masks (gathered_front lists s c.gather-gathered.result c.gather-gathered.ensures) proper.once (tuples_of s c.args.cells.now)
    (λ x. omega (arith, c.slice_known-1.given x)) proper.parts.once
    (rw (rows_count (length c.args.cells.now / length s) (length s) c.args.cells.now) (rw e at few))

pub left_of-left-requires : goal.left_of-left-requires
left_of-left-requires c =
    let s = c.args.scope.now in
    let proper = c.requires.0.proper in
    let e : length (take (length s) c.gather-gathered.result) ≡ length s = length-take-le (length s) c.gather-gathered.result (omega (arith, proper.parts.few)) in
    record {
      tuples = (rw e (proper_tuples proper.some proper.parts), c.requires.1);
      products = products_front _ c.ways_of-products.result (length s) e (omega (arith, proper.parts.few)) c.ways_of-products.ensures;
    }

pub keep_each-requires : goal.keep_each-requires
keep_each-requires c = (ready_known c.requires.0, omega (arith, c.requires.0.proper.parts.few))

pub returns : goal.returns
returns c =
    let s = c.args.scope.now in
    let lists = c.args.lists.now in
    let proper = c.requires.0.proper in
    let masks = take (length s) c.gather-gathered.result in
    let left = c.left_of-left in
    let e : length masks ≡ length s = length-take-le (length s) c.gather-gathered.result (omega (arith, proper.parts.few)) in
    forbidden_filtering lists s masks (gathered_front lists s c.gather-gathered.result c.gather-gathered.ensures) proper.once (tuples_of s c.args.cells.now)
    (λ x. omega (arith, c.slice_known-1.given x)) proper.parts.once
    left.ensures.counts left.result c.keep_each.new.lists c.keep_each.result (rw e at left.ensures.counted) (rw e at left.ensures.fewer) c.keep_each.ensures
