-- `tuples::key_of` meets its contract. The loop: the rest takes its key to the whole tuple's.
use mathlib.Core.Path.{◌≡◌}
use Prim.Native.Nat.{◌<◌}
use lib.ListN.{drop}
use Rattle.tuples.specs.Keys.{key_limit, key_from}
use Rattle.tuples.proofs.key_of.Given as goal

abbrev pub invariant-loop-value : goal.invariant-loop-value
invariant-loop-value l = (l.key < key_limit) × (key_from l.key (drop l.value-index l.tuple) ≡ key_from 0 l.tuple)
