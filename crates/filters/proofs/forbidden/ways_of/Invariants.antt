-- `filters::forbidden::ways_of` meets its contract.
use mathlib.Core.Path.{◌≡◌}
use Prim.Native.Nat.{ℕ, ◌<◌}
use lib.ListN.{length, get_or}
use Rattle.meaning.proofs.Listed.{product_but}
use Rattle.filters.specs.Tables.{places}
use Rattle.filters.proofs.forbidden.ways_of.Given as goal

abbrev pub invariant-loop-j : goal.invariant-loop-j
invariant-loop-j l = (length l.ways ≡ 8) × ((i : ℕ) → i < l.j → get_or l.ways i 0 ≡ product_but l.masks (places (length l.masks)) i)
