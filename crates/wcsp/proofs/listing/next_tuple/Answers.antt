-- `wcsp::listing::next_tuple` meets its contract.
use Rattle.std.proofs.Common.{◌*◌, length, arith, rules}
use Rattle.wcsp.proofs.Heaping.{part_behind, part_written}
use Rattle.wcsp.proofs.Keying.{keyed_behind}
use Rattle.wcsp.proofs.Tupling.{twice, fresh}
use Rattle.wcsp.proofs.listing.next_tuple.Goals as goal

pub listed_by_key-requires-clause-keyed : goal.listed_by_key-requires-clause-keyed
listed_by_key-requires-clause-keyed c =
    let a = c.args in
    let arity = length a.heading.scope.now in
    let p = c.requires in
    keyed_behind arity a.count a.cells.now _ (omega (arith, p.room, c.told-cells)) (part_behind (a.count * arity) arity a.cells.now _ (omega (arith, p.room, c.told-cells)) (search rules)) p.keyed

pub returns-then-says_same-clause-next_tuple : goal.returns-then-says_same-clause-next_tuple
returns-then-says_same-clause-next_tuple c =
    let a = c.args in
    let arity = length a.heading.scope.now in
    let p = c.requires.room in
    twice a.text.now a.heading.sizes.now a.heading.scope.now a.heading.default a.at a.count a.cells.now _ c.read_tuple.new.tuple (part_behind (a.count * arity) arity a.cells.now _ (omega (arith, p, c.told-cells)) (search rules)) (part_written (a.count * arity) arity a.cells.now _ (omega (arith, p, c.told-cells)) (search rules)) c.in_ok-tuple.ensures c.in_ok-cost.ensures (omega (arith, p, c.told-cells)) _ c.skip_blanks.ensures (search rules)

pub returns-clause-next_tuple : goal.returns-clause-next_tuple
returns-clause-next_tuple c =
    let a = c.args in
    let arity = length a.heading.scope.now in
    let p = c.requires.room in
    fresh a.text.now a.heading.sizes.now a.heading.scope.now a.heading.default a.at a.count a.cells.now _ c.read_tuple.new.tuple (part_behind (a.count * arity) arity a.cells.now _ (omega (arith, p, c.told-cells)) (search rules)) (part_written (a.count * arity) arity a.cells.now _ (omega (arith, p, c.told-cells)) (search rules)) c.in_ok-tuple.ensures c.in_ok-cost.ensures (omega (arith, p, c.told-cells)) (search rules) _
