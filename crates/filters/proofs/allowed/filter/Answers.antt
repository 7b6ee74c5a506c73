-- `filters::allowed::filter` meets its contract.
use mathlib.Core.Path.{◌≡◌}
use native.Mathlib.Omega.{arith}
use lib.ListN.{length, take}
use lib.Seq.{length-take-le}
use Rattle.meaning.specs.Calls.{tuples_of}
use Rattle.filters.proofs.Cells.{all_below, proper_tuples}
use Rattle.filters.proofs.Sifting.{ready_known}
use Rattle.filters.proofs.Places.{gathered_front}
use Rattle.filters.proofs.Supporting.{allowed_filtering}
use Rattle.filters.proofs.allowed.filter.Goals as goal

pub gather-gathered-requires : goal.gather-gathered-requires
gather-gathered-requires c =
    let proper = c.requires.proper in
    (proper.parts.few, all_below c.args.scope.now proper.known, c.requires.lists)

pub marks-marked-requires : goal.marks-marked-requires
marks-marked-requires c =
    let s = c.args.scope.now in
    let e : length (take (length s) c.gather-gathered.result) ≡ length s = length-take-le (length s) c.gather-gathered.result (omega (arith, c.requires.proper.parts.few)) in
    rw e (proper_tuples c.requires.proper.some c.requires.proper.parts)

pub keep_each-requires : goal.keep_each-requires
keep_each-requires c = (ready_known c.requires, omega (arith, c.requires.proper.parts.few))

pub returns : goal.returns
returns c =
    let s = c.args.scope.now in
    let masks = c.gather-gathered.result in
    let e : length (take (length s) masks) ≡ length s = length-take-le (length s) masks (omega (arith, c.requires.proper.parts.few)) in
    allowed_filtering c.args.lists.now s (take (length s) masks) (gathered_front c.args.lists.now s masks c.gather-gathered.ensures) c.requires.proper.once
    (tuples_of s c.args.cells.now) c.marks-marked.result c.keep_each.new.lists c.keep_each.result (rw e at c.marks-marked.ensures) c.keep_each.ensures
