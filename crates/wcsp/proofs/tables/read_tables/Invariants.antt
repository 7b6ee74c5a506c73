-- `wcsp::tables::read_tables` meets its contract. The loop: the tables so far are added.
use Rattle.std.proofs.Common.{◌≡◌, ◌≤◌, List, []}
use Rattle.meaning.specs.Limits.{room_limit}
use Rattle.state.specs.Runs.{Run}
use Rattle.wcsp.specs.Files.{Table, taken, table, variable_calls, table_calls}
use Rattle.reading.proofs.Several.{SoFar}
use Rattle.wcsp.proofs.tables.read_tables.Given as goal

abbrev pub invariant-loop : goal.invariant-loop
invariant-loop l =
    (l.used ≤ room_limit)
    × ((ts : List Table) × (taken ts ≡ l.used) × SoFar (table l.text l.sizes) l.count l.at l.counter l.place ts × Run (table_calls ts (variable_calls l.sizes [])) l.state)
