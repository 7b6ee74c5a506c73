-- `filters::tables::is_live` meets its contract.
use mathlib.Core.Path.{sym}
use native.Mathlib.Omega.{arith}
use lib.ListN.{length, get_or}
use borrow.Author.Count.{below_more}
use borrow.Author.Tests.{eq-eqb, ne_eqb}
use Rattle.values.proofs.One.{tells_digit}
use Rattle.filters.proofs.Places.{tuple_live, tuple_dead}
use Rattle.filters.proofs.tables.is_live.Goals as goal

pub returns-then-masks-j-ne1 : goal.returns-then-masks-j-ne1
returns-then-masks-j-ne1 c =
    let masks = c.args.masks.now in
    let tuple = c.args.tuple.now in
    let j = c.loop-j.j in
    sym (tuple_dead masks tuple (length masks) j (omega arith) ((tells_digit (get_or masks j 0) (get_or tuple j 0)).no (ne_eqb _ 1 c.if-masks-j-ne1.true)))

pub loop-j-preserved : goal.loop-j-preserved
loop-j-preserved c =
    let j = c.loop-j.j in
    below_more _ _ c.loop-j.invariant ((tells_digit (get_or c.args.masks.now j 0) (get_or c.args.tuple.now j 0)).yes (eq-eqb _ 1 c.if-masks-j-ne1.false))

pub returns : goal.returns
returns c =
    let masks = c.args.masks.now in
    sym (tuple_live masks c.args.tuple.now (length masks) (omega arith) (λ j h. c.loop-j.invariant j (omega arith)))
