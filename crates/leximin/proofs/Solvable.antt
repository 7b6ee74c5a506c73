-- What a state holds, as the search takes it: the rotas within its lists are the solutions, and the best of them the answer. Assumes nothing.
use mathlib.Core.Path.{◌≡◌, sym, ap, ◌∙◌, subst}
use Rattle.std.specs.Prelude.{Option, None, Some}
use mathlib.Core.List.{List}
use Prim.Native.Nat.{ℕ, ◌≤◌}
use native.Mathlib.Omega.{arith}
use lib.ListN.{length, take, length-map}
use Rattle.meaning.specs.Limits.{variable_limit}
use Rattle.meaning.specs.Rules.{at}
use Rattle.meaning.specs.Standing.{Standing}
use Rattle.meaning.specs.Solutions.{Solution, Answer, profile}
use Rattle.meaning.specs.Proper.{Proper}
use Rattle.meaning.proofs.Largest.{largest_between}
use Rattle.meaning.proofs.Solutions.{solution_kept}
use Rattle.meaning.proofs.Proper.{leaves_proper}
use Rattle.meaning.proofs.Reach.{◌≼◌}
use Rattle.meaning.proofs.Greedy.{Reaches, Greedy, FirstReaching, reaches_iff, greedy_sorted, found_last}
use Rattle.state.specs.declared.State.{State}
use Rattle.filters.specs.Layout.{rules_at}
use Rattle.blocks.specs.Blocks.{block}
use Rattle.state.specs.Holds.{Holds, heads_held}
use Rattle.search.specs.Search.{Meets}
use Rattle.leximin.specs.Solving.{Best, Climbed, Settles, SolvedBy}
use Rattle.state.proofs.Holding.{current}
use Rattle.search.proofs.Taking.{names, low, high}
use Rattle.state.proofs.Reading.{rules_held}

module _ (s : State) (w : Standing) (p : Proper w) (hold : Holds s w) where
  module _ (L : List ℕ) (is : L ≡ block s.lists s.depth variable_limit) where
    there : (y a : List ℕ) → Meets (rules_at (heads_held s) s.room) (take s.objectives s.objective) y s.variables L a
        → Solution w a × Reaches y (profile w a)
    there y a m = (
      record {
        long = m.long ∙ hold.variables;
        declared = λ x h. (current hold).within.declared x (at a x) (low s w p hold L is x (at a x) (m.inside x (omega (arith, m.long))));
        rules = λ r i. m.right r (rw (rules_held s w p hold) i);
        decisions = λ d i x h. (current hold).within.permitted x (at a x) (low s w p hold L is x (at a x) (m.inside x (omega (arith, m.long)))) d i;
      },
      rw (names s w p hold) at m.reaches,
    )

    back : (y a : List ℕ) → Solution w a → Reaches y (profile w a)
        → Meets (rules_at (heads_held s) s.room) (take s.objectives s.objective) y s.variables L a
    back y a t r = record {
      long = t.long ∙ sym hold.variables;
      inside = λ x h. high s w p hold L is x (at a x) (solution_kept t (λ q i z j. omega (arith, (p.rules q i).known z j, t.long)) (largest_between (current hold)) x (omega (arith, t.long, hold.variables)));
      right = λ q i. t.rules q (rw (rules_held s w p hold) at i);
      reaches = rw (names s w p hold) r;
    }

    best_answer : (a : List ℕ) → Best (rules_at (heads_held s) s.room) (take s.objectives s.objective) s.variables L a → Answer w a
    best_answer a b = found_last w b.vector b.thresholds a greedy first reached short below
      where
        count : length (take s.objectives s.objective) ≡ length w.objectives
        count = ap length (names s w p hold)

        found : Solution w a × Reaches b.thresholds (profile w a)
        found = there b.thresholds a b.first.holds

        reached : Reaches b.vector (profile w a)
        reached = rw (names s w p hold) at b.reached

        greedy : Greedy w (length w.objectives) b.vector
        greedy = record {
          long = b.long ∙ count;
          reached = (a, found.0, reached);
          largest = λ i h r. b.largest i (omega (arith, count)) r.0 (back _ r.0 r.1 r.2);
        }

        first : FirstReaching w b.thresholds a
        first = record { solution = found.0; reaches = found.1; first = λ c t r. b.first.first c (back b.thresholds c t r) }

        short : length b.thresholds ≤ length w.objectives
        short = omega (arith, b.few, count)

        below : b.thresholds ≼ b.vector
        below =
            subst (λ (z : List ℕ). b.thresholds ≼ z) (greedy_sorted w b.vector greedy a found.0 reached)
            ((reaches_iff b.thresholds (profile w a) (omega (arith, short, length-map w.objectives (at a)))).0 found.1)

    settles : (r : Option (List ℕ)) → Climbed (rules_at (heads_held s) s.room) (take s.objectives s.objective) s.variables L r → Settles w r
    settles None none = λ a t. none a (back _ a t (λ i h. absurd (omega arith)))
    settles (Some out) best = rw (← hold.variables) (best_answer (take s.variables out) best)

-- ---- as the code comes by it

pub solved_by : (s : State) (L : List ℕ) → L ≡ block s.lists s.depth variable_limit → (r : Option (List ℕ))
    → Climbed (rules_at (heads_held s) s.room) (take s.objectives s.objective) s.variables L r → SolvedBy s r
solved_by s L is r c h w l hold = settles s w (leaves_proper l) hold L is r c
