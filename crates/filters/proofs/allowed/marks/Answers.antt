-- `filters::allowed::marks` meets its contract.
use mathlib.Core.Path.{◌≡◌, sym, ◌∙◌}
use Prim.Native.Nat.{◌<◌}
use native.Mathlib.Omega.{arith}
use lib.ListN.{length, get_or}
use lib.Seq.{take_all}
use Rattle.std.proofs.lemmas.List.{length_push}
use Rattle.std.proofs.lemmas.Iterator.Consumers.{YieldsList-turn, YieldsList-end}
use Rattle.filters.specs.Tables.{pieces}
use Rattle.filters.proofs.Cells.{chunks_are, turn_long, turn_small}
use Rattle.filters.proofs.Passes.{marked_none, marked_live, marked_dead}
use Rattle.filters.proofs.allowed.marks.Goals as goal
use Rattle.filters.proofs.allowed.marks.Goals.{In-Some}

-- the tuple whose turn it is
turn : (c : In-Some)
    → (length c.loop-tuple.yielded < length (pieces (length c.args.masks.now) c.args.cells.now))
    × (c.in-Some.tuple.now ≡ get_or (pieces (length c.args.masks.now) c.args.cells.now) (length c.loop-tuple.yielded) c.in-Some.tuple.now)
turn c =
    YieldsList-turn (chunks_are (length c.args.masks.now) c.args.cells.now c.requires.some (cc) (cc)) c.loop-tuple.yielded _ c.loop-tuple.yielded_by _ _ c.in-Some.tuple c.in-Some.is c.next.ensures.steps

pub loop-tuple-init : goal.loop-tuple-init
loop-tuple-init c = (omega arith, marked_none (pieces (length c.args.masks.now) c.args.cells.now) c.args.masks.now (length c.args.masks.now) 8)

pub is_live-requires : goal.is_live-requires
is_live-requires c = (turn_long c.requires (turn c), turn_small c.requires (turn c))

pub mark-requires : goal.mark-requires
mark-requires c =
    let now = turn ((goal.at.mark-requires c).In-Some) in
    (omega (arith, turn_long c.requires now, c.requires.few, c.loop-tuple.invariant.0), turn_small c.requires now)

pub loop-tuple-preserved-then-is_live : goal.loop-tuple-preserved-then-is_live
loop-tuple-preserved-then-is_live c =
    let masks = c.args.masks.now in
    let now = turn ((goal.at.loop-tuple-preserved-then-is_live c).In-Some) in (
      c.mark.auto.marked ∙ c.loop-tuple.invariant.0,
      rw (length_push c.loop-tuple.yielded c.in-Some.tuple)
          (marked_live (pieces (length masks) c.args.cells.now) masks (length masks) (length c.loop-tuple.yielded) c.in-Some.tuple.now now c.loop-tuple.marked c.mark.new.marked
          (sym c.is_live.ensures ∙ c.if-is_live.true) (turn_long c.requires now) c.mark.ensures c.loop-tuple.invariant.1),
    )

pub loop-tuple-preserved : goal.loop-tuple-preserved
loop-tuple-preserved c =
    let masks = c.args.masks.now in
    let now = turn ((goal.at.loop-tuple-preserved c).In-Some) in (
      c.loop-tuple.invariant.0,
      rw (length_push c.loop-tuple.yielded c.in-Some.tuple)
          (marked_dead (pieces (length masks) c.args.cells.now) masks (length masks) (length c.loop-tuple.yielded) c.in-Some.tuple.now now c.loop-tuple.marked
          (sym c.is_live.ensures ∙ c.if-is_live.false) c.loop-tuple.invariant.1),
    )

pub returns : goal.returns
returns c =
    let masks = c.args.masks.now in
    let all = pieces (length masks) c.args.cells.now in
    let end = YieldsList-end (chunks_are (length masks) c.args.cells.now c.requires.some (cc) (cc)) c.loop-tuple.yielded _ c.loop-tuple.yielded_by _ _ c.in-None.is c.next.ensures.steps in
    rw (take_all (length c.loop-tuple.yielded) all (omega arith)) at c.loop-tuple.invariant.1
