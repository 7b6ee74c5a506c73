-- What solving says: its refusals, that nothing meets all rules, and the answer in the buffer. Assumes nothing.
use mathlib.Core.Path.{◌≡◌, refl, sym, ap, ◌∙◌}
use mathlib.Core.Logic.{inr}
use mathlib.Core.Bool.{Bool, false}
use mathlib.Core.List.{List, [], ◌∷◌, ◌++◌}
use Prim.Native.Nat.{ℕ, ◌≤◌}
use native.Mathlib.Omega.{arith}
use borrow.Author.Tests.{ne_eqb, le-ltb}
use lib.Dec.{eqb, ltb}
use lib.ListN.{length, take, drop}
use Rattle.std.specs.Prelude.{None, Some, Ok}
use Rattle.meaning.specs.Refusals.{number, no_objective, short_buffer}
use Rattle.meaning.specs.Standing.{Standing}
use Rattle.meaning.specs.Solutions.{Answer}
use Rattle.meaning.specs.Calls.{solve_refusal}
use Rattle.state.specs.declared.State.{State}
use Rattle.leximin.specs.declared.Solved.TheVariants.{Found, Inconsistent}
use Rattle.state.specs.Holds.{Holds}
use Rattle.leximin.specs.Solving.{Solves, SolvedBy}
use Rattle.meaning.proofs.Finding.{finds}

abbrev tests : Standing → ℕ → List (Bool × Rattle.meaning.specs.Refusals.Refusal)
tests w n = (eqb (length w.objectives) 0, no_objective) ∷ (ltb n (length w.declared), short_buffer) ∷ []

module _ (s : State) (buffer : List ℕ) where
  module _ (named : ¬ (s.objectives ≡ 0)) where
    some_named : {w : Standing} → Holds s w → eqb (length w.objectives) 0 ≡ false
    some_named {w} hold = ne_eqb (length w.objectives) 0 (λ e. named (hold.objectives ∙ e))

    module _ (room : s.variables ≤ length buffer) where
      accepted : {w : Standing} → Holds s w → 0 ≡ solve_refusal w (length buffer)
      accepted {w} hold =
          let enough = le-ltb (length buffer) (length w.declared) (omega (arith, hold.variables)) in
          sym (finds (tests w (length buffer)) 0 (inr (some_named hold, inr (enough, refl))))

      pub nothing_found : SolvedBy s None → Solves s buffer (Ok Inconsistent) buffer
      nothing_found by h w l hold = record { number = accepted hold; outcome = record { none = by h w l hold; buffer = refl } }

      -- the values copied over the front are the answer, written
      pub best_found : (out front : List ℕ) → SolvedBy s (Some out) → front ≡ take s.variables out → Solves s buffer (Ok Found) (front ++ drop s.variables buffer)
      best_found out front by put h w l hold =
          let answer : Answer w (take s.variables out) = rw hold.variables (by h w l hold) in
          let long : length (take s.variables out) ≡ s.variables = omega (arith, answer.solution.long, hold.variables) in
          record {
            number = accepted hold;
            outcome = record {
              rota = take s.variables out;
              answer = answer;
              buffer = ap (λ (l : List ℕ). l ++ drop s.variables buffer) put ∙ ap (λ (k : ℕ). take s.variables out ++ drop k buffer) (sym long);
            };
          }
