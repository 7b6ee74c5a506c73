-- `filters::tables::keep_each` meets its contract.
use lib.ListN.{get_or}
use Rattle.meaning.specs.Values.{Has}
use Rattle.filters.specs.Sifting.{Sifted}
use Rattle.filters.proofs.tables.keep_each.Given as goal

abbrev pub invariant-loop-j : goal.invariant-loop-j
invariant-loop-j l = Sifted l.scope l.j (λ j v. Has (get_or l.masks j 0) v) l.initial.lists l.lists l.changed
