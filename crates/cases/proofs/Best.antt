-- Answers and inconsistency, tested by going through all assignments of values left. Assumes nothing.
use mathlib.Core.Path.{◌≡◌, refl, sym, ap, subst, ◌∙◌}
use mathlib.Core.Logic.{⊎_elim}
use mathlib.Core.Bool.{Bool, true, not, ◌&&◌, ◌||◌}
use mathlib.Core.List.Memᴰ
use mathlib.Core.List.{List, [], ◌∷◌, Memᴰ}
use Prim.Native.Nat.{ℕ, zero, suc, ◌+◌, ◌<◌}
use native.Mathlib.Nat.{le_of_suc-le-suc}
use native.Mathlib.Omega.{arith}
use lib.Dec.{T, T_not}
use lib.ListN.{length, get_or, length-map}
use lib.Seq.{ext_get_or}
use Rattle.meaning.specs.Rules.{scope_of, at, values_at}
use Rattle.meaning.specs.Order.{sorted}
use Rattle.meaning.specs.Standing.{Standing}
use Rattle.meaning.specs.Lists.{Left, Largest}
use Rattle.meaning.specs.Solutions.{Solution, profile, Answer, Inconsistent}
use Rattle.meaning.specs.Calls.{same}
use Rattle.meaning.specs.Proper.{Proper}
use Rattle.meaning.proofs.Tests.{and_left, and_right, and_both, or_left, or_right}
use Rattle.meaning.proofs.Listed.{listed, live, live_is}
use Rattle.meaning.proofs.Assignments.{values_at_lem, values_live, live_length}
use Rattle.meaning.proofs.Largest.{largest_between}
use Rattle.meaning.proofs.Solutions.{solution_kept}
use Rattle.cases.proofs.Tests.{every, every_at, all_every, says_same, some_in_box, finds}
use Rattle.cases.proofs.Judging.{okay, okay_says, smaller, says_smaller}
use Rattle.cases.proofs.Support.{live_at}
use Rattle.cases.proofs.Settled.{left, left_words}

-- ---- the variables k, k + 1 .. as a scope

unfoldable pub from : ℕ → ℕ → List ℕ
from k zero = []
from k (suc n) = k ∷ from (suc k) n

from_long : (k n : ℕ) → length (from k n) ≡ n
unfolding from
from_long k zero = refl
from_long k (suc n) = ap suc (from_long (suc k) n)

from_at : (k n j : ℕ) → j < n → get_or (from k n) j 0 ≡ k + j
unfolding from
from_at k zero j h = absurd (omega arith)
from_at k (suc n) zero h = omega arith
from_at k (suc n) (suc j) h = from_at (suc k) n j (le_of_suc-le-suc h) ∙ omega arith

from_below : (k n y : ℕ) → Memᴰ y (from k n) → y < k + n
unfolding from
from_below k zero y m = absurd (Memᴰ.not-nil m)
from_below k (suc n) y m = ⊎_elim (λ e. omega arith) (λ i. omega (arith, from_below (suc k) n y i)) (Memᴰ.cases_cons m)

abbrev pub variables : Standing → List ℕ
variables w = from 0 (length w.declared)

whole : (a : List ℕ) (n : ℕ) → length a ≡ n → values_at a (from 0 n) ≡ a
whole a n e =
    let long : length (values_at a (from 0 n)) ≡ n = length-map (from 0 n) (at a) ∙ from_long 0 n in
    ext_get_or 0 (values_at a (from 0 n)) a (long ∙ sym e) λ j h.
    let l : j < n = omega arith in
    values_at_lem (from 0 n) a j (omega (arith, from_long 0 n)) ∙ ap (at a) (from_at 0 n j l ∙ omega arith)

-- ---- the tests

unfoldable pub keeps_rules : Standing → List ℕ → Bool
keeps_rules w a = every (λ r. okay r (values_at a (scope_of r))) w.rules

-- some assignment of values left keeps all rules, and passes
unfoldable pub some_solution : Standing → (List ℕ → Bool) → Bool
some_solution w p = some_in_box (listed (left w) (variables w)) (λ b. keeps_rules w b && p b)

-- b is better than a, or ties and is smaller
unfoldable pub before : Standing → List ℕ → List ℕ → Bool
before w a b =
    let u = sorted (profile w a) in
    let v = sorted (profile w b) in
    smaller u v || (same v u && smaller b a)

unfoldable pub best : Standing → List ℕ → Bool
best w a = live (left w) (variables w) a && (keeps_rules w a && not (some_solution w (before w a)))

-- ---- what they say

module _ (w : Standing) (p : Proper w) (l : Largest w (left w)) where
  listed_solution : (test : List ℕ → Bool) (a : List ℕ) → Solution w a → T (test a) → T (some_solution w test)
  unfolding some_solution keeps_rules
  listed_solution test a s t =
      finds (listed (left w) (variables w)) (λ b. keeps_rules w b && test b) a (rw (live_is (left w) (left_words w) (variables w) a) alive)
      (and_both (keeps_rules w a) (test a) rules t)
    where
      left_to : (x : ℕ) → x < length a → Left (left w) x (at a x)
      left_to = solution_kept s (λ r m y i. subst (λ (n : ℕ). y < n) (sym s.long) ((p.rules r m).known y i)) (largest_between l)

      alive : T (live (left w) (variables w) a)
      alive =
          subst (λ b. T (live (left w) (variables w) b)) (whole a (length w.declared) s.long)
          (values_live (left w) (variables w) a (λ y m. left_to y (omega (arith, from_below 0 (length w.declared) y m, s.long))))

      rules : T (keeps_rules w a)
      rules = all_every (λ r. okay r (values_at a (scope_of r))) w.rules (λ r m. (okay_says r a).1 (s.rules r m))

  solution : (a : List ℕ) → T (live (left w) (variables w) a) → T (keeps_rules w a) → Solution w a
  unfolding keeps_rules
  solution a alive rules = record {
    long = long;
    declared = λ x h. l.within.declared x (at a x) (left_to x h);
    rules = λ r m. (okay_says r a).0 (every_at (λ r. okay r (values_at a (scope_of r))) w.rules rules r m);
    decisions = λ d m x h. l.within.permitted x (at a x) (left_to x h) d m;
  }
    where
      n : ℕ
      n = length w.declared

      long : length a ≡ n
      long = sym (live_length (left w) (variables w) a alive) ∙ from_long 0 n

      left_to : (x : ℕ) → x < length a → Left (left w) x (at a x)
      left_to x h =
          let inside : x < n = omega (arith, long) in
          let e : get_or (from 0 n) x 0 ≡ x = from_at 0 n x inside ∙ omega arith in
          subst (λ (y : ℕ). Left (left w) y (at a x)) e (live_at (left w) (variables w) a alive x (omega (arith, from_long 0 n)))

  pub none_inconsistent : T (not (some_solution w (λ b. true))) → Inconsistent w
  none_inconsistent t a s = T_not (some_solution w (λ b. true)) t (listed_solution (λ b. true) a s tt)

  pub best_answer : (a : List ℕ) → T (best w a) → Answer w a
  unfolding best before
  best_answer a t = record {
    solution = solution a (and_left alive rest t) (and_left rules none (and_right alive rest t));
    best = λ b s h. no_earlier b s (or_left (smaller (u a) (u b)) (same (u b) (u a) && smaller b a) (says_smaller (u a) (u b) h));
    first = λ b s e h. no_earlier b s
        (or_right (smaller (u a) (u b)) (same (u b) (u a) && smaller b a)
        (and_both (same (u b) (u a)) (smaller b a) (says_same e) (says_smaller b a h)));
  }
    where
      u : List ℕ → List ℕ
      u b = sorted (profile w b)

      alive : Bool
      alive = live (left w) (variables w) a

      rules : Bool
      rules = keeps_rules w a

      none : Bool
      none = not (some_solution w (before w a))

      rest : Bool
      rest = rules && none

      no_earlier : (b : List ℕ) → Solution w b → T (before w a b) → ⊥
      no_earlier b s h =
          T_not (some_solution w (before w a)) (and_right rules none (and_right alive rest t)) (listed_solution (before w a) b s h)
