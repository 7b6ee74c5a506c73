-- What follows from holding: the values left now, and the sizes. Assumes nothing.
use mathlib.Core.Path.{◌≡◌, refl}
use mathlib.Core.List.{List, [], ◌∷◌}
use Prim.Native.Nat.{◌≤◌}
use native.Mathlib.Omega.{arith}
use native.Mathlib.Nat.{le_refl}
use lib.ListN.{length}
use lib.Seq.{take-length}
use Rattle.meaning.specs.Limits.{variable_limit, rule_limit, room_limit, objective_limit, decision_limit}
use Rattle.meaning.specs.Standing.{Standing, Decision}
use Rattle.meaning.specs.Lists.{Largest}
use Rattle.meaning.proofs.Proper.{leaves_proper}
use Rattle.state.specs.declared.State.{State}
use Rattle.blocks.specs.Blocks.{block, Whole}
use Rattle.state.specs.Holds.{Holds, Reached}

pub none_of : (ds : List Decision) → length ds ≡ 0 → ds ≡ []
none_of [] e = refl
none_of (d ∷ ds) e = absurd (omega arith)

-- the values left now
pub current : {s : State} {w : Standing} → Holds s w → Largest w (block s.lists (length w.decisions) (length w.declared))
current {s} {w} h = rw (take-length w.decisions) at (h.lists.left (length w.decisions) (le_refl (length w.decisions)))

-- the counts and the lengths of a state that calls have left
pub record Sizes (s : State) : Type 0 where
  pub variables : s.variables ≤ variable_limit
  pub rules : s.rules ≤ rule_limit
  pub used : s.used ≤ room_limit
  pub objectives : s.objectives ≤ objective_limit
  pub depth : s.depth ≤ decision_limit
  pub lists : Whole s.lists

pub sizes : {s : State} → Reached s → Sizes s
sizes (h, w, l, hold) =
    let p = leaves_proper l in
    record {
      variables = omega (arith, hold.variables, p.variables);
      rules = omega (arith, hold.rules, p.count);
      used = omega (arith, hold.used, p.room);
      objectives = omega (arith, hold.objectives, p.objectives);
      depth = omega (arith, hold.depth, p.decisions);
      lists = hold.lists.whole;
    }
