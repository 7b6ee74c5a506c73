-- `wcsp::tables::read_tables` meets its contract. The loop: the tables so far are added.
use Rattle.std.proofs.Common.{[], arith, rules}
use Rattle.std.proofs.lemmas.Result.{err_from_is_err_and}
use Rattle.state.proofs.Runs.{run_reached}
use Rattle.wcsp.specs.Files.{table}
use Rattle.reading.proofs.Several.{none_yet, one_more, fault_there, all_read}
use Rattle.wcsp.proofs.Adding.{table_runs, used_more, no_tables, none_taken}
use Rattle.wcsp.proofs.tables.read_tables.Goals as goal

pub loop-init : goal.loop-init
loop-init c = (search rules, ([], none_taken, none_yet _ _ _, no_tables c.requires.1))

pub returns-in_err-table : goal.returns-in_err-table
returns-in_err-table c =
    let (ts, u, so_far, run) = c.loop.invariant.1 in
    let p = err_from_is_err_and c.from_residual.result c.from_residual.ensures.1 in
    rw (p.1, p.2) (fault_there _ so_far c.loop-test.true (c.in_err-table.ensures ts u))

pub add_table-added-requires : goal.add_table-added-requires
add_table-added-requires c =
    let (ts, u, so_far, run) = c.loop.invariant.1 in
    run_reached run

pub loop-preserved : goal.loop-preserved
loop-preserved c =
    let a = c.args in
    let (ts, u, so_far, run) = c.loop.invariant.1 in
    let (t, kept, more) = one_more (table a.text.now a.sizes.now) so_far c.loop-test.true (c.in_ok-table.ensures ts u) in
    (omega (arith, kept.room), (_, used_more kept ts u, more, table_runs kept ts _ run c.add_table-added.ensures))

pub returns : goal.returns
returns c =
    let (ts, u, so_far, run) = c.loop.invariant.1 in
    all_read _ so_far _ c.loop-test.false run
