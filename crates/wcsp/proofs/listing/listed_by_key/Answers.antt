-- `wcsp::listing::listed_by_key` meets its contract.
use mathlib.Core.Path.{sym, ap, ◌∙◌}
use Prim.Native.Nat.{◌*◌}
use Rattle.tuples.specs.Keys.{key_from}
use Rattle.tuples.proofs.Rows.{part_is}
use Rattle.wcsp.proofs.Keying.{listed_before, marked_before, marked_now, not_listed}
use Rattle.wcsp.proofs.listing.listed_by_key.Goals as goal

pub returns-then-marked-key : goal.returns-then-marked-key
returns-then-marked-key c =
    let a = c.args in
    let p = c.requires in
    let key = c.key_of-key in
    let key_is = key.ensures.0 ∙ ap (key_from 0) (part_is a.arity a.cells.now (a.count * a.arity)) in record { value = c.is_listed.ensures ∙ listed_before a.arity a.count a.cells.now p.arity_bound.1 p.arity_bound.0; keyed_2 = marked_before a.marked.now a.arity a.count a.cells.now p.keyed key.result key_is c.if-marked-key.true }

pub returns : goal.returns
returns c =
    let a = c.args in
    let p = c.requires in
    let key = c.key_of-key in
    let key_is = key.ensures.0 ∙ ap (key_from 0) (part_is a.arity a.cells.now (a.count * a.arity)) in record { value = sym (not_listed a.marked.now a.arity a.count a.cells.now p.keyed key.result key_is c.if-marked-key.false); keyed_2 = marked_now a.marked.now a.arity a.count a.cells.now p.keyed key.result key_is key.ensures.1 }
