-- `filters::sweeps::filter_by` meets its contract.
use native.Mathlib.Omega.{arith}
use Rattle.filters.proofs.Dispatch.{is_allowed, is_forbidden, cells_fit}
use Rattle.filters.proofs.sweeps.filter_by.Goals as goal

pub filter-requires : goal.filter-requires
filter-requires c =
    let is = is_allowed c.args.room.now c.args.head c.requires.placed c.scope-scope.result.now c.scope-scope.ensures c.in-Allow.is in
    rw is (record { lists = c.requires.room_len.1; proper = c.requires.placed.proper })

pub filter-requires-in-Forbid : goal.filter-requires-in-Forbid
filter-requires-in-Forbid c =
    let a = c.args in
    let s = c.scope-scope.result.now in
    let is = is_forbidden a.room.now a.head c.requires.placed s c.scope-scope.ensures c.in-Forbid.is in
    (rw is (record { lists = c.requires.room_len.1; proper = c.requires.placed.proper }), omega (arith, cells_fit a.room.now a.head.start s a.head.last, c.requires.room_len.0))

pub returns-in-Allow : goal.returns-in-Allow
returns-in-Allow c =
    rw (is_allowed c.args.room.now c.args.head c.requires.placed c.scope-scope.result.now c.scope-scope.ensures c.in-Allow.is) at c.filter.ensures

pub returns-in-Forbid : goal.returns-in-Forbid
returns-in-Forbid c =
    rw (is_forbidden c.args.room.now c.args.head c.requires.placed c.scope-scope.result.now c.scope-scope.ensures c.in-Forbid.is) at c.filter-in-Forbid.ensures
