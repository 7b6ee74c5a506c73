-- What a state that calls have left gives to filtering and to the search. Assumes nothing.
use mathlib.Core.Path.{◌≡◌, refl, sym, ap, ◌∙◌}
use mathlib.Core.List.{List, Memᴰ}
use Prim.Native.Nat.{ℕ, ◌-◌, ◌≤◌, ◌<◌}
use native.Mathlib.Nat.{le_refl}
use native.Mathlib.Omega.{arith}
use lib.ListN.{length, get_or, take, replicate}
use lib.Seq.{take_at}
use Rattle.meaning.specs.Limits.{variable_limit, objective_limit}
use Rattle.meaning.specs.Standing.{Standing}
use Rattle.meaning.specs.Lists.{Closed}
use Rattle.meaning.specs.Proper.{Proper}
use Rattle.meaning.proofs.Largest.{◌⊑◌}
use Rattle.meaning.proofs.Proper.{leaves_proper}
use Rattle.blocks.specs.Blocks.{block}
use Rattle.state.specs.declared.State.{State}
use Rattle.filters.specs.declared.Head.{Head}
use Rattle.filters.specs.Layout.{rules_at}
use Rattle.search.specs.Spreading.{Touching}
use Rattle.filters.specs.Held.{RulesOf}
use Rattle.filters.proofs.Laid.{Ready, rules_ready}
use Rattle.state.specs.Holds.{Holds, heads_held}
use Rattle.search.specs.Search.{Net, Given}
use Rattle.state.proofs.Holding.{current}
use Rattle.state.proofs.Depths.{wide_block, closed_same, same_within}
use Rattle.state.proofs.Reading.{rules_held, reached_rules}

-- the objectives, few enough, are among n variables
pub record Known (goals : List ℕ) (n : ℕ) : Type 0 where
  pub most : length goals ≤ objective_limit
  pub named : (y : ℕ) → Memᴰ y goals → y < n
  pub variables : n ≤ variable_limit

-- the values left now
abbrev pub left_now : State → Standing → List ℕ
left_now s w = block s.lists (length w.decisions) (length w.declared)

module _ (s : State) (w : Standing) (p : Proper w) (hold : Holds s w) where
  pub names : take s.objectives s.objective ≡ w.objectives
  names =
      ap (λ (k : ℕ). take k s.objective) hold.objectives ∙ ap (take (length w.objectives)) hold.objective
      ∙ take_at w.objectives (replicate (objective_limit - length w.objectives) 0) (length w.objectives) refl

  known_held : Known (take s.objectives s.objective) s.variables
  known_held = record {
    most = omega (arith, ap length names, p.objectives);
    named = λ y m. omega (arith, hold.variables, p.named y (rw names at m));
    variables = omega (arith, hold.variables, p.variables);
  }

  net_held : RulesOf (heads_held s) s.room → (touching : List ℕ) → Touching (heads_held s) s.room (length (heads_held s)) touching
      → Net (heads_held s) s.room touching (take s.objectives s.objective) s.variables
  net_held held touching sets = record {
    held = held;
    sets = sets;
    variables = known_held.variables;
    known = λ r m y i. omega (arith, hold.variables, (p.rules r (rw (rules_held s w p hold) at m)).known y i);
    most = known_held.most;
    named = known_held.named;
  }

  module _ (L : List ℕ) (is : L ≡ block s.lists s.depth variable_limit) where
    same : (x : ℕ) → get_or L x 0 ≡ get_or (left_now s w) x 0
    same x = rw (is, hold.depth) (wide_block w p s.lists hold.lists (length w.decisions) (le_refl (length w.decisions)) x)

    pub low : L ⊑ left_now s w
    low = same_within L (left_now s w) same

    pub high : left_now s w ⊑ L
    high = same_within (left_now s w) L (λ x. sym (same x))

    closed_held : Closed (rules_at (heads_held s) s.room) L
    closed_held = rw (rules_held s w p hold) (closed_same {K = L} {M = left_now s w} low high (current hold).closed)

-- ---- as the code comes by it

module _ {heads : List Head} {room goals : List ℕ} {n : ℕ} {lists : List ℕ} (given : Given heads room goals n lists) where
  given_held : RulesOf heads room
  given_held = rw (← given.rules, ← given.cells) (reached_rules given.reached)

  pub given_ready : Ready heads room
  given_ready = rules_ready given_held

  pub given_known : Known goals n
  given_known =
      let (h, w, l, hold) = given.reached in
      rw (← given.objectives, ← given.variables) (known_held given.state w (leaves_proper l) hold)

  pub given_net : (touching : List ℕ) → Touching heads room (length heads) touching → Net heads room touching goals n
  given_net touching =
      let (h, w, l, hold) = given.reached in
      rw (← given.rules, ← given.cells, ← given.objectives, ← given.variables) (net_held given.state w (leaves_proper l) hold (reached_rules given.reached) touching)

  pub given_closed : Closed (rules_at heads room) lists
  given_closed =
      let (h, w, l, hold) = given.reached in
      rw (← given.rules, ← given.cells) (closed_held given.state w (leaves_proper l) hold lists given.lists)
