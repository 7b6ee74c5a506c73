-- `filters::forbidden::supported` meets its contract.
use mathlib.Core.Path.{◌≡◌}
use Prim.Native.Nat.{ℕ, ◌<◌}
use lib.ListN.{length, get_or}
use Rattle.meaning.proofs.Listed.{product_but}
use Rattle.filters.specs.Tables.{FewerAt, places}
use Rattle.filters.proofs.forbidden.supported.Given as goal

abbrev pub invariant-loop-j : goal.invariant-loop-j
invariant-loop-j l = (length l.left ≡ 8) × ((i : ℕ) → i < l.j → FewerAt l.counts i (product_but l.masks (places (length l.masks)) i) (get_or l.masks i 0) (get_or l.left i 0))
