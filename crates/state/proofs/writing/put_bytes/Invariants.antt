-- `state::writing::put_bytes` meets its contract. The loop: the first j bytes are written.
use Prim.Native.Nat.{ℕ, ◌<◌}
use mathlib.Core.Path.{◌≡◌}
use lib.ListN.{get_or}
use Rattle.state.proofs.writing.put_bytes.Given as goal

abbrev pub invariant-loop-j : goal.invariant-loop-j
invariant-loop-j l = (k : ℕ) → k < l.j → get_or l.places k 0 ≡ get_or l.bytes k 0
