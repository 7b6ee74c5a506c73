-- `filters::tables::gather` meets its contract.
use mathlib.Core.Path.{◌≡◌}
use lib.ListN.{length}
use Rattle.filters.specs.Tables.{Gathered}
use Rattle.filters.proofs.tables.gather.Given as goal

abbrev pub invariant-loop-j : goal.invariant-loop-j
invariant-loop-j l = (length l.masks ≡ 8) × Gathered l.lists l.scope l.j l.masks
