-- What stands is proper after any history: what the refusals let through.
-- Assumes nothing.
use mathlib.Core.Path.{◌≡◌, refl, ap, sym, ◌∙◌}
use mathlib.Core.Logic.{⊎_elim}
use mathlib.Core.Bool.{Bool, true, false, not, cond, true≢false}
use mathlib.Core.List.{List, [], ◌∷◌, ◌++◌, Memᴰ}
use Prim.Native.Nat.{ℕ, zero, suc, ◌+◌, ◌*◌, ◌/◌, ◌%◌, ◌≤◌, ◌<◌}
use native.Mathlib.Nat.{suc-mul, div-mul-le_self}
use native.Mathlib.Omega.{arith}
use borrow.Author.Tests.{ltb-false, leb-false, eqb-true, eqb-false, not-false, eq-eqb, ne_eqb, le-ltb}
use lib.Dec.{leb, ltb, eqb}
use lib.IntN.{ℤ, pos, negsuc}
use lib.ListN.{length, take, drop, length-append, length-take, length-drop, take-append-drop}
use lib.Seq.{length-take-le}
use Rattle.meaning.specs.Limits.{value_limit, variable_limit, rule_limit, room_limit, arity_limit, term_limit, coefficient_limit, bound_limit, objective_limit, decision_limit}
use Rattle.meaning.specs.Refusals.{Refusal, number, first}
use Rattle.meaning.specs.Order.{outside}
use Rattle.meaning.specs.Rules.{Rule, linear, room}
use Rattle.meaning.specs.Standing.{Standing, Decision, pinned, banned, nothing}
use Rattle.meaning.specs.Calls.{Sort, allow, forbid, Call, add_variable, add_table, add_linear, name_objectives, pin, ban, take_back, some, same, repeats, beyond, rows, tuples_of, held, rule_listing, rule_of, unknown, overfull, tests, refusal, with_rule, with_decisions, accepted, after}
use Rattle.meaning.specs.Histories.{Leaves, none, call}
use Rattle.meaning.specs.Proper.{Distinct, ProperTuples, Around, ProperRule, Proper}
use Rattle.meaning.proofs.Tests.{or_no, near_both}

-- ---- an accepted call has passed every test

pub number_above : (r : Refusal) → 0 < number r
number_above Refusal.no_such_variable = omega arith
number_above Refusal.variable_twice = omega arith
number_above Refusal.wrong_length = omega arith
number_above Refusal.out_of_range = omega arith
number_above Refusal.tuple_twice = omega arith
number_above Refusal.full = omega arith
number_above Refusal.malformed = omega arith
number_above Refusal.not_left = omega arith
number_above Refusal.too_many_decisions = omega arith
number_above Refusal.too_deep = omega arith
number_above Refusal.short_buffer = omega arith
number_above Refusal.no_objective = omega arith
number_above Refusal.decided = omega arith

-- no test holds
abbrev pub Passed : List (Bool × Refusal) → Type 0
Passed [] = Unit
Passed (t ∷ ts) = (t.0 ≡ false) × Passed ts

pub passed : (ts : List (Bool × Refusal)) → first ts ≡ 0 → Passed ts
unfolding first
passed [] e = tt
passed (t ∷ ts) e = step t.0 e (passed ts)
  where
    step : (b : Bool) → cond b (number t.1) (first ts) ≡ 0 → (first ts ≡ 0 → Passed ts) → (b ≡ false) × Passed ts
    step true e ih = absurd (let h = number_above t.1 in omega arith)
    step false e ih = (refl, ih e)

-- ---- what the tests say

pub some_no {ℓ} : {A : Type ℓ} (p : A → Bool) (xs : List A) → some p xs ≡ false → (x : A) → Memᴰ x xs → p x ≡ false
unfolding some
some_no p [] e x m = absurd (mathlib.Core.List.Memᴰ.not-nil m)
some_no p (y ∷ ys) e x m =
    let h = or_no (p y) (some p ys) e in
    ⊎_elim (λ q. ap p q ∙ h.0) (some_no p ys h.1 x) (mathlib.Core.List.Memᴰ.cases_cons m)

-- a list in which no two are the same, by a test that sees every pair of the same
pub repeats_no {ℓ} : {A : Type ℓ} (eq : A → A → Bool) → ((x : A) → eq x x ≡ true) → (xs : List A) → repeats eq xs ≡ false → Distinct xs
unfolding repeats
repeats_no eq own [] e = tt
repeats_no eq own (x ∷ xs) e =
    let h = or_no (some (eq x) xs) (repeats eq xs) e in
    (λ m. let z : true ≡ false = sym (own x) ∙ some_no (eq x) xs h.0 x m in absurd (true≢false z), repeats_no eq own xs h.1)

pub same_own : (u : List ℕ) → same u u ≡ true
unfolding same
same_own [] = refl
same_own (x ∷ u) = rw (eq-eqb x x refl, same_own u)

pub outside_no : (k n : ℕ) → outside k n ≡ false → (0 < n) × (n ≤ k)
outside_no k n e =
    let h = or_no (eqb n 0) (ltb k n) e in
    let a = eqb-false n 0 h.0 in
    (omega arith, ltb-false k n h.1)

pub not_outside : (k n : ℕ) → 0 < n → n ≤ k → outside k n ≡ false
not_outside k n h l = near_both (ne_eqb n 0 (λ z. omega arith)) (le-ltb k n l)

pub beyond_no : (k : ℕ) (z : ℤ) → beyond k z ≡ false → Around k z
beyond_no k (pos n) e = ltb-false k n e
beyond_no k (negsuc n) e = leb-false k n e

-- ---- rows

pub rows_count : (t a : ℕ) (cells : List ℕ) → length (rows t a cells) ≡ t
unfolding rows
rows_count zero a cells = refl
rows_count (suc t) a cells = ap suc (rows_count t a (drop a cells))

rows_long : (t a : ℕ) (cells : List ℕ) → t * a ≤ length cells → (u : List ℕ) → Memᴰ u (rows t a cells) → length u ≡ a
unfolding rows
rows_long zero a cells h u m = absurd (mathlib.Core.List.Memᴰ.not-nil m)
rows_long (suc t) a cells h u m =
    let s = suc-mul t a in
    ⊎_elim (λ e. ap length e ∙ length-take-le a cells (omega arith))
    (rows_long t a (drop a cells) (omega (arith, length-drop a cells)) u) (mathlib.Core.List.Memᴰ.cases_cons m)

rows_all : (P : ℕ → Type 0) (t a : ℕ) (cells : List ℕ) → ((v : ℕ) → Memᴰ v cells → P v)
    → (u : List ℕ) → Memᴰ u (rows t a cells) → (v : ℕ) → Memᴰ v u → P v
unfolding rows
rows_all P zero a cells h u m v k = absurd (mathlib.Core.List.Memᴰ.not-nil m)
rows_all P (suc t) a cells h u m v k =
    let e = take-append-drop a cells in
    ⊎_elim
    (λ q. let k' : Memᴰ v (take a cells) = rw q at k in h v (rw e at (mathlib.Core.List.Memᴰ.append_left (drop a cells) k')))
    (λ r. rows_all P t a (drop a cells) (λ z l. h z (rw e at (mathlib.Core.List.Memᴰ.append_right (take a cells) l))) u r v k)
    (mathlib.Core.List.Memᴰ.cases_cons m)

-- ---- accepted rules are proper

module _ (w : Standing) (L : List ℕ) where
  n : ℕ
  n = length w.declared

  known : (s : List ℕ) → some (unknown w) s ≡ false → (x : ℕ) → Memᴰ x s → x < n
  unfolding n
  known s e x m = leb-false n x (some_no (unknown w) s e x m)

  tuples_proper : (s cells : List ℕ) → (0 < length s) × (length s ≤ arity_limit) → eqb (length cells % length s) 0 ≡ true
      → some (leb value_limit) cells ≡ false → repeats same (tuples_of s cells) ≡ false → ProperTuples (length s) (tuples_of s cells)
  tuples_proper s cells (h, few) e v d = record {
    few = few;
    long = rows_long (length cells / length s) (length s) cells (div-mul-le_self (length cells) (length s));
    values = rows_all (λ v. v < value_limit) (length cells / length s) (length s) cells (λ z m. leb-false value_limit z (some_no (leb value_limit) cells v z m));
    once = repeats_no same same_own (tuples_of s cells) d;
  }

  eqb_own : (x : ℕ) → eqb x x ≡ true
  eqb_own x = eq-eqb x x refl

  pub table_proper : (sort : Sort) (s cells : List ℕ) → refusal w L (add_table sort s cells) ≡ 0 → ProperRule (length w.declared) (rule_of sort s cells)
  unfolding n
  table_proper sort s cells e =
      let p = passed (tests w L (add_table sort s cells)) e in
      let (a, (b, (c, (d, (f, (g, q)))))) = p in
      let (o, r) = or_no (outside arity_limit (length s)) (not (eqb (length cells % length s) 0)) b in
      let size = outside_no arity_limit (length s) o in
      build sort size (known s c) (repeats_no eqb eqb_own s d) (tuples_proper s cells size (not-false _ r) f g)
    where
      build : (sort : Sort) → (0 < length s) × (length s ≤ arity_limit) → ((x : ℕ) → Memᴰ x s → x < n) → Distinct s → ProperTuples (length s) (tuples_of s cells)
          → ProperRule (length w.declared) (rule_of sort s cells)
      build allow size k d p = record { some = size.0; known = k; once = d; parts = p }
      build forbid size k d p = record { some = size.0; known = k; once = d; parts = p }

  pub linear_proper : (s : List ℕ) (cs : List ℤ) (b : ℤ) → refusal w L (add_linear s cs b) ≡ 0 → ProperRule (length w.declared) (linear s cs b)
  unfolding n
  linear_proper s cs b e =
      let (a, (l, (c, (d, (f, q))))) = passed (tests w L (add_linear s cs b)) e in
      let (o, r) = or_no (outside term_limit (length s)) (not (eqb (length cs) (length s))) l in
      let (g, h) = or_no (some (beyond coefficient_limit) cs) (beyond bound_limit b) f in
      let (some, few) = outside_no term_limit (length s) o in
      record {
        some = some;
        known = known s c;
        once = repeats_no eqb eqb_own s d;
        parts = record {
          few = few;
          long = eqb-true (length cs) (length s) (not-false _ r);
          coefficients = λ z m. beyond_no coefficient_limit z (some_no (beyond coefficient_limit) cs g z m);
          bound = beyond_no bound_limit b h;
        };
      }

-- ---- what stands stays proper

pub held_more : (rs : List Rule) (r : Rule) → held (rs ++ (r ∷ [])) ≡ held rs + room r
unfolding held
held_more [] r = omega arith
held_more (q ∷ rs) r = omega (arith, held_more rs r)

pub table_room : (sort : Sort) (s : List ℕ) (ts : List (List ℕ)) → room (rule_listing sort s ts) ≡ length s + length s * length ts
table_room allow s ts = refl
table_room forbid s ts = refl

module _ (w : Standing) (p : Proper w) where
  grown : (r : Rule) → ProperRule (length w.declared) r → overfull w (room r) ≡ false → Proper (with_rule w r)
  grown r h e =
      let (a, b) = or_no (leb rule_limit (length w.rules)) (ltb room_limit (held w.rules + room r)) e in
      let few = leb-false rule_limit (length w.rules) a in
      let fits = ltb-false room_limit (held w.rules + room r) b in
      record {
        variables = p.variables;
        count = omega (arith, length-append w.rules (r ∷ []));
        room = omega (arith, held_more w.rules r);
        rules = λ q m. ⊎_elim (p.rules q) (λ k. let e : q ≡ r = mathlib.Core.List.Memᴰ.eq_of_singleton k in rw e h) (mathlib.Core.List.Memᴰ.append_cases w.rules m);
        objectives = p.objectives;
        named = p.named;
        decisions = p.decisions;
      }

  redecided : (ds : List Decision) → length ds ≤ decision_limit → Proper (with_decisions w ds)
  redecided ds h = record {
    variables = p.variables;
    count = p.count;
    room = p.room;
    rules = p.rules;
    objectives = p.objectives;
    named = p.named;
    decisions = h;
  }

  -- a rule on n variables is one on more
  wider : (k : ℕ) (r : Rule) → length w.declared ≤ k → ProperRule (length w.declared) r → ProperRule k r
  wider k r h q = record { some = q.some; known = λ x m. omega (arith, q.known x m); once = q.once; parts = q.parts }

  pub accepted_proper : (L : List ℕ) (c : Call) → refusal w L c ≡ 0 → Proper (accepted w c)
  accepted_proper L (add_variable m) e =
      let (a, (b, q)) = passed (tests w L (add_variable m)) e in
      let few = leb-false variable_limit (length w.declared) b in
      let l = length-append w.declared (m ∷ []) in
      record {
        variables = omega arith;
        count = p.count;
        room = p.room;
        rules = λ r i. wider (length (w.declared ++ (m ∷ []))) r (omega arith) (p.rules r i);
        objectives = p.objectives;
        named = λ x i. omega (arith, p.named x i);
        decisions = p.decisions;
      }
  accepted_proper L (add_table sort s cells) e =
      let (a, (b, (c, (d, (f, (g, (h, q))))))) = passed (tests w L (add_table sort s cells)) e in
      grown (rule_of sort s cells) (table_proper w L sort s cells e) h
  accepted_proper L (add_linear s cs z) e =
      let (a, (b, (c, (d, (f, (g, q)))))) = passed (tests w L (add_linear s cs z)) e in
      grown (linear s cs z) (linear_proper w L s cs z e) g
  accepted_proper L (name_objectives xs) e =
      let (a, (b, q)) = passed (tests w L (name_objectives xs)) e in
      record {
        variables = p.variables;
        count = p.count;
        room = p.room;
        rules = p.rules;
        objectives = (outside_no objective_limit (length xs) a).1;
        named = λ x m. leb-false (length w.declared) x (some_no (unknown w) xs b x m);
        decisions = p.decisions;
      }
  accepted_proper L (pin x v) e =
      let (a, (b, (c, q))) = passed (tests w L (pin x v)) e in
      let few = leb-false decision_limit (length w.decisions) c in
      redecided (w.decisions ++ (pinned x v ∷ [])) (omega (arith, length-append w.decisions (pinned x v ∷ [])))
  accepted_proper L (ban x v) e =
      let (a, (b, (c, q))) = passed (tests w L (ban x v)) e in
      let few = leb-false decision_limit (length w.decisions) c in
      redecided (w.decisions ++ (banned x v ∷ [])) (omega (arith, length-append w.decisions (banned x v ∷ [])))
  accepted_proper L (take_back k) e = redecided (take k w.decisions) (omega (arith, length-take k w.decisions, p.decisions))

  pub after_proper : (L : List ℕ) (c : Call) → Proper (after w L c)
  after_proper L c = step (eqb (refusal w L c) 0) refl
    where
      step : (b : Bool) → eqb (refusal w L c) 0 ≡ b → Proper (cond b (accepted w c) w)
      step true e = accepted_proper L c (eqb-true (refusal w L c) 0 e)
      step false e = p

nothing_proper : Proper nothing
unfolding held
nothing_proper = record {
  variables = omega arith;
  count = omega arith;
  room = omega arith;
  rules = λ r m. absurd (mathlib.Core.List.Memᴰ.not-nil m);
  objectives = omega arith;
  named = λ x m. absurd (mathlib.Core.List.Memᴰ.not-nil m);
  decisions = omega arith;
}

-- what any history leaves standing is proper
pub leaves_proper : {h : List Call} {w : Standing} → Leaves h w → Proper w
leaves_proper none = nothing_proper
leaves_proper (call {w} {L} c l m) = after_proper w (leaves_proper l) L c
