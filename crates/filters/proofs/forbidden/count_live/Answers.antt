-- `filters::forbidden::count_live` meets its contract.
use mathlib.Core.Path.{◌≡◌, sym, ◌∙◌, ap}
use Prim.Native.Nat.{ℕ, ◌*◌, ◌/◌, ◌<◌}
use native.Mathlib.Nat.{div-le_self}
use native.Mathlib.Omega.{arith}
use lib.ListN.{length, get_or}
use lib.Seq.{take_all}
use Rattle.meaning.specs.Limits.{value_limit}
use Rattle.meaning.proofs.Proper.{rows_count}
use Rattle.std.proofs.lemmas.List.{length_push}
use Rattle.std.proofs.lemmas.Iterator.Consumers.{YieldsList-turn, YieldsList-end}
use Rattle.filters.specs.Tables.{pieces}
use Rattle.filters.proofs.Cells.{chunks_are, turn_long, turn_small}
use Rattle.filters.proofs.Tallies.{counted_few, counted_live, counted_dead}
use Rattle.filters.proofs.forbidden.count_live.Goals as goal
use Rattle.filters.proofs.forbidden.count_live.Goals.{In-Some}

-- the tuple whose turn it is
turn : (c : In-Some)
    → (length c.loop-tuple.yielded < length (pieces (length c.args.masks.now) c.args.cells.now))
    × (c.in-Some.tuple.now ≡ get_or (pieces (length c.args.masks.now) c.args.cells.now) (length c.loop-tuple.yielded) c.in-Some.tuple.now)
turn c =
    YieldsList-turn (chunks_are (length c.args.masks.now) c.args.cells.now c.requires.0.some (cc) (cc)) c.loop-tuple.yielded _ c.loop-tuple.yielded_by _ _ c.in-Some.tuple c.in-Some.is c.next.ensures.steps

pub is_live-requires : goal.is_live-requires
is_live-requires c = (turn_long c.requires.0 (turn c), turn_small c.requires.0 (turn c))

pub tally-requires : goal.tally-requires
tally-requires c =
    let masks = c.args.masks.now in
    let cells = c.args.cells.now in
    let now = turn ((goal.at.tally-requires c).In-Some) in
    let long = turn_long c.requires.0 now in
    let small = turn_small c.requires.0 now in
    record {
      small = (small, omega (arith, ap (λ (n : ℕ). n * value_limit) long, c.loop-tuple.auto.counts, c.requires.2.long));
      by_index = λ j h.
          let few = counted_few (pieces (length masks) cells) masks (length masks) (length c.loop-tuple.yielded) c.loop-tuple.counts c.loop-tuple.invariant j (omega arith)
          (get_or c.in-Some.tuple.now j 0) (small j h) in
          omega (arith, few, now.0, rows_count (length cells / length masks) (length masks) cells, div-le_self (length cells) (length masks), c.requires.1);
    }

pub loop-tuple-preserved-then-is_live : goal.loop-tuple-preserved-then-is_live
loop-tuple-preserved-then-is_live c =
    let masks = c.args.masks.now in
    let now = turn ((goal.at.loop-tuple-preserved-then-is_live c).In-Some) in
    rw (length_push c.loop-tuple.yielded c.in-Some.tuple)
    (counted_live (pieces (length masks) c.args.cells.now) masks (length masks) (length c.loop-tuple.yielded) c.in-Some.tuple.now now c.loop-tuple.counts c.tally.new.counts
    (sym c.is_live.ensures ∙ c.if-is_live.true) (turn_long c.requires.0 now) c.tally.ensures c.loop-tuple.invariant)

pub loop-tuple-preserved : goal.loop-tuple-preserved
loop-tuple-preserved c =
    let masks = c.args.masks.now in
    let now = turn ((goal.at.loop-tuple-preserved c).In-Some) in
    rw (length_push c.loop-tuple.yielded c.in-Some.tuple)
    (counted_dead (pieces (length masks) c.args.cells.now) masks (length masks) (length c.loop-tuple.yielded) c.in-Some.tuple.now now c.loop-tuple.counts
    (sym c.is_live.ensures ∙ c.if-is_live.false) c.loop-tuple.invariant)

pub returns : goal.returns
returns c =
    let masks = c.args.masks.now in
    let all = pieces (length masks) c.args.cells.now in
    let end = YieldsList-end (chunks_are (length masks) c.args.cells.now c.requires.0.some (cc) (cc)) c.loop-tuple.yielded _ c.loop-tuple.yielded_by _ _ c.in-None.is c.next.ensures.steps in
    rw (take_all (length c.loop-tuple.yielded) all (omega arith)) at c.loop-tuple.invariant
