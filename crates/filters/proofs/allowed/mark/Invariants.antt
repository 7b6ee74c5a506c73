-- `filters::allowed::mark` meets its contract.
use Prim.Native.Nat.{◌^◌}
use lib.Bits.{bit_or}
use lib.ListN.{get_or}
use Rattle.filters.proofs.Filling.{Mapped}
use Rattle.filters.proofs.allowed.mark.Given as goal

abbrev pub invariant-loop-j : goal.invariant-loop-j
invariant-loop-j l = Mapped (λ i m. bit_or m (2 ^ get_or l.tuple i 0)) l.initial.marked l.j l.marked
