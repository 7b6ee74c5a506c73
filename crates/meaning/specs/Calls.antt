-- The calls of document 01: the number with which each is refused, 0 where it is accepted, and what stands after it.
use Rattle.std.specs.Prelude.{Bool, true, false, not, ◌&&◌, ◌||◌, cond, List, [], ◌∷◌, ◌++◌, ℕ, zero, suc, ◌+◌, ◌/◌, ◌%◌, length, get_or, take, drop, ℤ, pos, negsuc, leb, ltb, eqb}
use Rattle.meaning.specs.Limits.{value_limit, variable_limit, rule_limit, room_limit, arity_limit, term_limit, coefficient_limit, bound_limit, objective_limit, decision_limit}
use Rattle.meaning.specs.Refusals.{Refusal, no_such_variable, variable_twice, wrong_length, out_of_range, tuple_twice, full, not_left, too_many_decisions, too_deep, short_buffer, no_objective, decided, first}
use Rattle.meaning.specs.Values.{bit}
use Rattle.meaning.specs.Rules.{Rule, allowed, forbidden, linear, room}
use Rattle.meaning.specs.Order.{outside}
use Rattle.meaning.specs.Standing.{Standing, Decision, pinned, banned}

pub data Sort : Type 0 where
  allow forbid : Sort

pub data Call : Type 0 where
  add_variable : (marks : ℕ) → Call
  add_table : (sort : Sort) (scope cells : List ℕ) → Call
  add_linear : (scope : List ℕ) (coefficients : List ℤ) (bound : ℤ) → Call
  name_objectives : (variables : List ℕ) → Call
  pin ban : (variable value : ℕ) → Call
  take_back : (depth : ℕ) → Call

-- ---- tests on what a call is given

unfoldable pub some {ℓ} : {A : Type ℓ} → (A → Bool) → List A → Bool
some p [] = false
some p (x ∷ xs) = p x || some p xs

unfoldable pub same : List ℕ → List ℕ → Bool
same [] [] = true
same [] (y ∷ w) = false
same (x ∷ u) [] = false
same (x ∷ u) (y ∷ w) = eqb x y && same u w

unfoldable pub repeats {ℓ} : {A : Type ℓ} → (A → A → Bool) → List A → Bool
repeats eq [] = false
repeats eq (x ∷ xs) = some (eq x) xs || repeats eq xs

-- below −k or above k
abbrev pub beyond : ℕ → ℤ → Bool
beyond k (pos n) = ltb k n
beyond k (negsuc n) = leb k n

-- the first t rows of a cells each
unfoldable pub rows : ℕ → ℕ → List ℕ → List (List ℕ)
rows zero a cells = []
rows (suc t) a cells = take a cells ∷ rows t a (drop a cells)

abbrev pub tuples_of : List ℕ → List ℕ → List (List ℕ)
tuples_of scope cells = rows (length cells / length scope) (length scope) cells

unfoldable pub held : List Rule → ℕ
held [] = 0
held (r ∷ rs) = room r + held rs

abbrev pub rule_listing : Sort → List ℕ → List (List ℕ) → Rule
rule_listing allow scope tuples = allowed scope tuples
rule_listing forbid scope tuples = forbidden scope tuples

abbrev pub rule_of : Sort → List ℕ → List ℕ → Rule
rule_of sort scope cells = rule_listing sort scope (tuples_of scope cells)

module _ (w : Standing) where
  abbrev pub outstanding : ℕ
  outstanding = length w.decisions

  abbrev pub unknown : ℕ → Bool
  unknown x = leb (length w.declared) x

  -- there are no more rules, or no more room for k numbers
  abbrev pub overfull : ℕ → Bool
  overfull k = leb rule_limit (length w.rules) || ltb room_limit (held w.rules + k)

  -- ---- what each call is tested for, in document 01's order; L are the values left

  abbrev pub decision_tests : List ℕ → ℕ → ℕ → List (Bool × Refusal)
  decision_tests L x v =
      (unknown x, no_such_variable)
      ∷ (leb value_limit v, out_of_range)
      ∷ (leb decision_limit outstanding, too_many_decisions)
      ∷ (eqb (bit (get_or L x 0) v) 0, not_left)
      ∷ []

  abbrev pub tests : List ℕ → Call → List (Bool × Refusal)
  tests L (add_variable m) = (ltb 0 outstanding, decided) ∷ (leb variable_limit (length w.declared), full) ∷ []
  tests L (add_table sort s cells) =
      (ltb 0 outstanding, decided)
      ∷ (outside arity_limit (length s) || not (eqb (length cells % length s) 0), wrong_length)
      ∷ (some unknown s, no_such_variable)
      ∷ (repeats eqb s, variable_twice)
      ∷ (some (leb value_limit) cells, out_of_range)
      ∷ (repeats same (tuples_of s cells), tuple_twice)
      ∷ (overfull (room (rule_of sort s cells)), full)
      ∷ []
  tests L (add_linear s cs b) =
      (ltb 0 outstanding, decided)
      ∷ (outside term_limit (length s) || not (eqb (length cs) (length s)), wrong_length)
      ∷ (some unknown s, no_such_variable)
      ∷ (repeats eqb s, variable_twice)
      ∷ (some (beyond coefficient_limit) cs || beyond bound_limit b, out_of_range)
      ∷ (overfull (room (linear s cs b)), full)
      ∷ []
  tests L (name_objectives xs) = (outside objective_limit (length xs), wrong_length) ∷ (some unknown xs, no_such_variable) ∷ []
  tests L (pin x v) = decision_tests L x v
  tests L (ban x v) = decision_tests L x v
  tests L (take_back k) = (ltb outstanding k, too_deep) ∷ []

  abbrev pub refusal : List ℕ → Call → ℕ
  refusal L c = first (tests L c)

  -- the calls that change nothing: values left, and solving with a buffer of n places
  abbrev pub left_refusal : ℕ → ℕ
  left_refusal x = first ((unknown x, no_such_variable) ∷ [])

  abbrev pub solve_refusal : ℕ → ℕ
  solve_refusal n = first ((eqb (length w.objectives) 0, no_objective) ∷ (ltb n (length w.declared), short_buffer) ∷ [])

  -- ---- what stands after a call

  abbrev pub with_rule : Rule → Standing
  with_rule r = record { declared = w.declared; rules = w.rules ++ (r ∷ []); objectives = w.objectives; decisions = w.decisions }

  abbrev pub with_decisions : List Decision → Standing
  with_decisions ds = record { declared = w.declared; rules = w.rules; objectives = w.objectives; decisions = ds }

  abbrev pub decide : Decision → Standing
  decide d = with_decisions (w.decisions ++ (d ∷ []))

  abbrev pub accepted : Call → Standing
  accepted (add_variable m) =
      record { declared = w.declared ++ (m ∷ []); rules = w.rules; objectives = w.objectives; decisions = w.decisions }
  accepted (add_table sort s cells) = with_rule (rule_of sort s cells)
  accepted (add_linear s cs b) = with_rule (linear s cs b)
  accepted (name_objectives xs) = record { declared = w.declared; rules = w.rules; objectives = xs; decisions = w.decisions }
  accepted (pin x v) = decide (pinned x v)
  accepted (ban x v) = decide (banned x v)
  accepted (take_back k) = with_decisions (take k w.decisions)

  -- a refused call changes nothing
  abbrev pub after : List ℕ → Call → Standing
  after L c = cond (eqb (refusal L c) 0) (accepted c) w
