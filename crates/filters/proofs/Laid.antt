-- The rules that lie in heads and room are those that stand. Assumes nothing.
use mathlib.Core.Path.{◌≡◌, refl, ap, ◌∙◌}
use mathlib.Core.List.{List}
use Prim.Native.Nat.{ℕ, ◌+◌, ◌-◌, ◌≤◌}
use native.Mathlib.Omega.{arith}
use lib.ListN.{length, replicate}
use Rattle.meaning.specs.Limits.{rule_limit, room_limit}
use Rattle.meaning.specs.Rules.{scope_of}
use Rattle.meaning.specs.Standing.{Standing}
use Rattle.meaning.specs.Proper.{Proper}
use Rattle.meaning.proofs.Proper.{leaves_proper}
use Rattle.filters.specs.declared.Head.{Head}
use Rattle.filters.specs.declared.Kind.{Kind}
use Rattle.filters.specs.declared.Kind.TheVariants.{Allow, Forbid, Linear}
use Rattle.filters.specs.Layout.{scope_at, rule_by, size_by, rule_under, Placed, rules_at, AllPlaced, heads_of, room_of}
use Rattle.filters.specs.Held.{InRoom, RulesOf}
use Rattle.filters.proofs.Padding.{length_padded}
use Rattle.filters.proofs.Rooms.{length_heads_of, length_room_of}
use Rattle.filters.proofs.ReadBack as ReadBack

-- the scope of a rule under a head
scope_by : (room : List ℕ) (kind : Kind) (arity start last : ℕ) → scope_of (rule_by room kind arity start last) ≡ scope_at room start arity
scope_by room Allow arity start last = refl
scope_by room Forbid arity start last = refl
scope_by room Linear arity start last = refl

pub scope_under : (room : List ℕ) (h : Head) → scope_of (rule_under room h) ≡ scope_at room h.start h.arity
scope_under room h = scope_by room h.kind h.arity h.start h.last

size_scope : (kind : Kind) (arity last : ℕ) → arity ≤ size_by kind arity last
size_scope Allow arity last = omega arith
size_scope Forbid arity last = omega arith
size_scope Linear arity last = omega arith

pub scope_inside : {room : List ℕ} {h : Head} → Placed room h → h.start + h.arity ≤ length room
scope_inside {h} p = omega (arith, p.fits, size_scope h.kind h.arity h.last)

-- what filtering asks of the rules
pub record Ready (heads : List Head) (room : List ℕ) : Type 0 where
  pub placed : AllPlaced heads room
  pub filled : length room ≡ room_limit
  pub few : length heads ≤ rule_limit

module _ {heads : List Head} {room : List ℕ} (w : Standing) (p : Proper w) (laid : InRoom w.rules heads room) where
  pub laid_rules : rules_at heads room ≡ w.rules
  laid_rules =
      ap (λ (hs : List Head). rules_at hs room) laid.heads_are
      ∙ ReadBack.read_back room (replicate (room_limit - length (room_of w.rules)) 0) 0 w.rules p.rules laid.room_is

  pub laid_ready : Ready heads room
  laid_ready =
      let filled : length room ≡ room_limit = ap length laid.room_is ∙ length_padded room_limit (room_of w.rules) (omega (arith, p.room, length_room_of w.rules p.rules)) in
      let placed : AllPlaced (heads_of 0 w.rules) room =
      ReadBack.placed room (replicate (room_limit - length (room_of w.rules)) 0) p.variables 0 w.rules p.rules laid.room_is (omega (arith, p.room)) in
      record {
        placed = rw laid.heads_are placed;
        filled = filled;
        few = omega (arith, ap length laid.heads_are, length_heads_of 0 w.rules, p.count);
      }

pub rules_ready : {heads : List Head} {room : List ℕ} → RulesOf heads room → Ready heads room
rules_ready (h, w, l, laid) = laid_ready w (leaves_proper l) laid
