-- `filters::sweeps::sweep` meets its contract. After some rules the lists are swept by those.
use mathlib.Core.Path.{◌≡◌}
use lib.ListN.{length, take}
use Rattle.meaning.specs.Limits.{variable_limit}
use Rattle.meaning.proofs.Listed.{Words}
use Rattle.filters.specs.Layout.{rules_at}
use Rattle.filters.specs.Filter.{Sweeping}
use Rattle.filters.proofs.sweeps.sweep.Given as goal

abbrev pub invariant-loop-head : goal.invariant-loop-head
invariant-loop-head l =
    Words l.initial.lists × (length l.lists ≡ variable_limit) × Sweeping (rules_at (take l.head-index l.head-items) l.rules.room.now) l.initial.lists l.lists l.changed
