-- The rules that stand after some calls, as they lie in heads and room.
use Rattle.std.specs.Prelude.{◌≡◌, List, ℕ}
use Rattle.meaning.specs.Limits.{room_limit}
use Rattle.meaning.specs.Rules.{Rule}
use Rattle.meaning.specs.Standing.{Standing}
use Rattle.meaning.specs.Calls.{Call}
use Rattle.meaning.specs.Histories.{Leaves}
use Rattle.filters.specs.declared.Head.{Head}
use Rattle.filters.specs.Layout.{heads_of, room_of, padded}

-- the rules lie one after the other, with zeros past them in the room
pub record InRoom (rs : List Rule) (heads : List Head) (room : List ℕ) : Type 0 where
  pub heads_are : heads ≡ heads_of 0 rs
  pub room_is : room ≡ padded room_limit (room_of rs)

-- they are rules that calls on a new state have left
abbrev pub RulesOf : List Head → List ℕ → Type 0
RulesOf heads room = (h : List Call) × (w : Standing) × Leaves h w × InRoom w.rules heads room
