-- The rules that lie in a state are those that stand. Assumes nothing.
use mathlib.Core.Path.{◌≡◌, ap₂, ◌∙◌}
use mathlib.Core.List.{List}
use Prim.Native.Nat.{ℕ, ◌-◌}
use lib.ListN.{length, take, replicate}
use lib.Seq.{take_at}
use Rattle.meaning.specs.Limits.{rule_limit}
use Rattle.meaning.specs.Rules.{Rule}
use Rattle.meaning.specs.Standing.{Standing}
use Rattle.meaning.specs.Proper.{Proper}
use Rattle.filters.specs.declared.Head.{Head}
use Rattle.filters.specs.Layout.{rules_at, no_head, heads_of, filled}
use Rattle.filters.specs.Held.{InRoom, RulesOf}
use Rattle.filters.proofs.Rooms.{length_heads_of}
use Rattle.filters.proofs.Laid.{laid_rules}
use Rattle.state.specs.declared.State.{State}
use Rattle.state.specs.Holds.{Holds, Reached, heads_held}

pub first_heads : (rs : List Rule) (count : ℕ) (heads : List Head) → count ≡ length rs → heads ≡ filled no_head rule_limit (heads_of 0 rs) → take count heads ≡ heads_of 0 rs
first_heads rs count heads n e =
    ap₂ (λ (k : ℕ) (hs : List Head). take k hs) n e
    ∙ take_at (heads_of 0 rs) (replicate (rule_limit - length (heads_of 0 rs)) no_head) (length rs) (length_heads_of 0 rs)

pub rules_in : {s : State} {w : Standing} → Holds s w → InRoom w.rules (heads_held s) s.room
rules_in {s} {w} h = record { heads_are = first_heads w.rules s.rules s.heads h.rules h.heads; room_is = h.room }

pub rules_held : (s : State) (w : Standing) → Proper w → Holds s w → rules_at (heads_held s) s.room ≡ w.rules
rules_held s w p h = laid_rules w p (rules_in h)

pub reached_rules : {s : State} → Reached s → RulesOf (heads_held s) s.room
reached_rules (h, w, l, hold) = (h, w, l, rules_in hold)
