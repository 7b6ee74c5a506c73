-- `search::spreading::spread` meets its contract: wave after wave, until nothing is due.
use Prim.Native.Nat.{◌+◌, ◌*◌}
use Rattle.meaning.specs.Values.{size}
use Rattle.filters.specs.Filter.{weight}
use Rattle.search.proofs.Waves.{Wave}
use Rattle.search.proofs.spreading.spread.Given as goal

abbrev pub invariant-loop-rest : goal.invariant-loop-rest
invariant-loop-rest l = Wave l.task.rules.heads.now l.task.rules.room.now l.initial.lists l.lists l.rest

abbrev pub decreases-loop-rest : goal.decreases-loop-rest
decreases-loop-rest l = 64 * weight l.lists + size l.rest
