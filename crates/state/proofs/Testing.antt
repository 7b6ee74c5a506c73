-- The tests of an addition are document 01's, whatever stands; and what an accepted one has passed. Assumes nothing.
use mathlib.Core.Path.{◌≡◌, refl, sym, ap, ◌∙◌}
use mathlib.Core.Bool.{Bool, true, false, not, ◌||◌}
use mathlib.Core.List.{List, [], ◌∷◌}
use Prim.Native.Nat.{ℕ, ◌+◌, ◌*◌, ◌/◌, ◌%◌, ◌≤◌, ◌<◌}
use native.Mathlib.Nat.{div-add-mod', mul_comm}
use native.Mathlib.Omega.{arith}
use borrow.Author.Tests.{ltb-false, leb-false, eqb-true, eqb-false, not-false}
use lib.Dec.{leb, ltb, eqb}
use lib.IntN.{ℤ}
use lib.ListN.{length}
use Rattle.meaning.specs.Limits.{rule_limit, room_limit, arity_limit, term_limit, coefficient_limit, bound_limit}
use Rattle.meaning.specs.Refusals.{first, decided, wrong_length, no_such_variable, variable_twice, out_of_range, tuple_twice, full}
use Rattle.meaning.specs.Order.{outside}
use Rattle.meaning.specs.Rules.{room}
use Rattle.meaning.specs.Standing.{Standing}
use Rattle.meaning.specs.Calls as Calls
use Rattle.meaning.specs.Calls.{add_table, add_linear, some, beyond, tuples_of, rule_of, refusal}
use Rattle.meaning.proofs.Proper.{passed, rows_count, table_room, some_no, beyond_no}
use Rattle.meaning.proofs.Tests.{or_no}
use Rattle.checks.specs.declared.Counts.{Counts}
use Rattle.checks.specs.Tests.{table_tests, linear_tests}
use Rattle.state.specs.Additions.{Counted, TableFits, TableTested, LinearFits, LinearTested}

inside : (k n : ℕ) → outside k n ≡ false → (0 < n) × (n ≤ k)
inside k n e =
    let (some, few) = or_no (eqb n 0) (ltb k n) e in
    let other = eqb-false n 0 some in
    (omega arith, ltb-false k n few)

-- ---- a table

module _ (s cells : List ℕ) where
  whole_tuples : (outside arity_limit (length s) || not (eqb (length cells % length s) 0)) ≡ false → length cells % length s ≡ 0
  whole_tuples e = eqb-true (length cells % length s) 0 (not-false _ (or_no (outside arity_limit (length s)) (not (eqb (length cells % length s) 0)) e).1)

  room_is : (sort : Calls.Sort) → length cells % length s ≡ 0 → room (rule_of sort s cells) ≡ length s + length cells
  room_is sort whole =
      let t = rows_count (length cells / length s) (length s) cells in
      let cells_count : length s * length (tuples_of s cells) ≡ length cells =
      ap (λ (m : ℕ). length s * m) t ∙ mul_comm (length s) (length cells / length s) ∙ omega (arith, div-add-mod' (length cells) (length s)) in
      table_room sort s (tuples_of s cells) ∙ ap (λ (m : ℕ). length s + m) cells_count

  -- the room counts only where the length is right
  last_test : (a : Bool) (b : Bool) (e f g h : Bool) {x y : Bool} → (b ≡ false → x ≡ y)
      → first ((a, decided) ∷ (b, wrong_length) ∷ (e, no_such_variable) ∷ (f, variable_twice) ∷ (g, out_of_range) ∷ (h, tuple_twice) ∷ (x, full) ∷ [])
      ≡ first ((a, decided) ∷ (b, wrong_length) ∷ (e, no_such_variable) ∷ (f, variable_twice) ∷ (g, out_of_range) ∷ (h, tuple_twice) ∷ (y, full) ∷ [])
  unfolding first
  last_test a true e f g h same = refl
  last_test a false e f g h same =
      ap (λ (z : Bool). first ((a, decided) ∷ (false, wrong_length) ∷ (e, no_such_variable) ∷ (f, variable_twice) ∷ (g, out_of_range) ∷ (h, tuple_twice) ∷ (z, full) ∷ [])) (same refl)

  module _ (n : Counts) where
    table_right : (w : Standing) (L : List ℕ) (sort : Calls.Sort) → Counted n w → refusal w L (add_table sort s cells) ≡ first (table_tests n s cells)
    table_right w L sort c =
        rw (c.variables, c.depth, c.rules, c.used)
        (last_test _ _ _ _ _ _ (λ fits. ap (λ (m : ℕ). leb rule_limit (length w.rules) || ltb room_limit (Calls.held w.rules + m)) (room_is sort (whole_tuples fits))))

    table_fits : first (table_tests n s cells) ≡ 0 → TableFits n.depth n.rules n.used s cells
    table_fits e =
        let p = passed (table_tests n s cells) e in
        let size = inside arity_limit (length s) (or_no (outside arity_limit (length s)) (not (eqb (length cells % length s) 0)) p.1.0).0 in
        let (count, room) = or_no (leb rule_limit n.rules) (ltb room_limit (n.used + (length s + length cells))) p.1.1.1.1.1.1.0 in
        let none = ltb-false 0 n.depth p.0 in
        record {
          free = omega arith;
          some = size.0;
          few = size.1;
          whole = whole_tuples p.1.0;
          count = leb-false rule_limit n.rules count;
          room = ltb-false room_limit (n.used + (length s + length cells)) room;
        }

    pub table_tested : {m : ℕ} → m ≡ first (table_tests n s cells) → TableTested n s cells m
    table_tested e = record { right = λ w L sort c. table_right w L sort c ∙ sym e; accepted = λ z. table_fits (sym e ∙ z) }

-- ---- a linear rule

module _ (s : List ℕ) (cs : List ℤ) (b : ℤ) (n : Counts) where
  linear_right : (w : Standing) (L : List ℕ) → Counted n w → refusal w L (add_linear s cs b) ≡ first (linear_tests n s cs b)
  linear_right w L c = rw (c.variables, c.depth, c.rules, c.used)

  linear_fits : first (linear_tests n s cs b) ≡ 0 → LinearFits n.depth n.rules n.used s cs b
  linear_fits e =
      let p = passed (linear_tests n s cs b) e in
      let (sized, same) = or_no (outside term_limit (length s)) (not (eqb (length cs) (length s))) p.1.0 in
      let size = inside term_limit (length s) sized in
      let (near, bound) = or_no (some (beyond coefficient_limit) cs) (beyond bound_limit b) p.1.1.1.1.0 in
      let (count, room) = or_no (leb rule_limit n.rules) (ltb room_limit (n.used + (2 * length s + 1))) p.1.1.1.1.1.0 in
      let none = ltb-false 0 n.depth p.0 in
      record {
        free = omega arith;
        some = size.0;
        few = size.1;
        long = eqb-true (length cs) (length s) (not-false _ same);
        near = λ z m. beyond_no coefficient_limit z (some_no (beyond coefficient_limit) cs near z m);
        bound = beyond_no bound_limit b bound;
        count = leb-false rule_limit n.rules count;
        room = ltb-false room_limit (n.used + (2 * length s + 1)) room;
      }

  pub linear_tested : {m : ℕ} → m ≡ first (linear_tests n s cs b) → LinearTested n s cs b m
  linear_tested e = record { right = λ w L c. linear_right w L c ∙ sym e; accepted = λ z. linear_fits (sym e ∙ z) }
