-- `reply::write_rota` meets its contract.
use mathlib.Core.Path.{◌≡◌}
use mir.Syntax.{w8}
use lib.ListN.{length}
use Rattle.blocks.proofs.Arrays.{array_length}
use Rattle.reply.proofs.Telling.{rota_lines}
use Rattle.reply.proofs.write_rota.Goals as goal

pub returns : goal.returns
returns c =
    let a = c.args in
    let p = c.requires in
    let count = c.objective_count-count in
    let upwards = c.sorted_up-sorted in
    let long : length a.values ≡ 32 = array_length w8 32 a.values _ c.well_formed.0 in
    rota_lines a.values a.n _ _ long p.0 p.1 count.ensures upwards.ensures c.write_found.ensures
