-- A table as the code takes it out of the room: its scope, and the cells of its tuples behind the scope. Assumes nothing.
use mathlib.Core.Path.{◌≡◌, sym, ap, ap₂, ◌∙◌}
use mathlib.Core.List.{List}
use Prim.Native.Nat.{ℕ, ◌+◌, ◌-◌, ◌*◌, ◌≤◌, ◌<◌}
use native.Mathlib.Nat.{mul_comm}
use native.Mathlib.Omega.{arith}
use lib.ListN.{length, take, drop, length-take, length-drop}
use Rattle.std.proofs.lemmas.List.{take_rest}
use Rattle.meaning.specs.Rules.{allowed, forbidden}
use Rattle.meaning.specs.Calls.{tuples_of}
use Rattle.filters.specs.declared.Head.{Head}
use Rattle.filters.specs.declared.Kind.{Kind}
use Rattle.filters.specs.declared.Kind.TheVariants.{Allow, Forbid}
use Rattle.filters.specs.Layout.{scope_at, tuples_at, rule_by, rule_under, Placed}
use Rattle.filters.proofs.Cells.{part_long, pieces_front}
use Rattle.filters.proofs.Laid.{scope_under, scope_inside}

-- the last cells, each a scope long, of what follows the scope
abbrev pub cells_behind : List ℕ → ℕ → List ℕ → ℕ → List ℕ
cells_behind room start s last = take (last * length s) (take (length room - (start + length s)) (drop (start + length s) room))

module _ (room : List ℕ) (h : Head) (p : Placed room h) (s : List ℕ) (is : s ≡ scope_at room h.start h.arity) where
  long : length s ≡ h.arity
  long = ap length is ∙ part_long room h.start h.arity (scope_inside p)

  some : 0 < h.arity
  some = omega (arith, long, ap length is, ap length (scope_under room h), p.proper.some)

  cells_make : h.start + (h.arity + h.arity * h.last) ≤ length room → tuples_of s (cells_behind room h.start s h.last) ≡ tuples_at room h.start h.arity h.last
  cells_make fits =
      rw (take_rest room (h.start + length s), long)
      (pieces_front h.last h.arity (drop (h.start + h.arity) room) some (omega (arith, length-drop (h.start + h.arity) room, mul_comm h.last h.arity)))

  kind_is : (kind : Kind) → h.kind ≡ kind → rule_by room kind h.arity h.start h.last ≡ rule_under room h
  kind_is kind e = sym (ap (λ (k : Kind). rule_by room k h.arity h.start h.last) e)

  pub is_allowed : h.kind ≡ Allow → allowed s (tuples_of s (cells_behind room h.start s h.last)) ≡ rule_under room h
  is_allowed e = ap₂ allowed is (cells_make (rw e at p.fits)) ∙ kind_is Allow e

  pub is_forbidden : h.kind ≡ Forbid → forbidden s (tuples_of s (cells_behind room h.start s h.last)) ≡ rule_under room h
  is_forbidden e = ap₂ forbidden is (cells_make (rw e at p.fits)) ∙ kind_is Forbid e

-- they are within the room
pub cells_fit : (room : List ℕ) (start : ℕ) (s : List ℕ) (last : ℕ) → length (cells_behind room start s last) ≤ length room
cells_fit room start s last =
    omega (
      arith,
      length-take (last * length s) (take (length room - (start + length s)) (drop (start + length s) room)),
      length-take (length room - (start + length s)) (drop (start + length s) room),
    )
