-- The lines of an answer, and of none. Assumes nothing.
use mathlib.Core.Path.{◌≡◌, refl, sym, ap, ap₂, ◌∙◌, subst}
use mathlib.Core.Bool.{Bool, cond, ◌&&◌, ◌||◌}
use mathlib.Core.List.{List, [], ◌∷◌}
use Prim.Native.Nat.{ℕ, zero, suc, ◌+◌, ◌-◌, ◌≤◌, ◌<◌, min}
use native.Mathlib.Numerals.{add-one}
use native.Mathlib.Omega.{arith}
use borrow.Author.Tests.{le-leb, ne_eqb, le-ltb}
use lib.ListN.{length, take, drop, replicate, length-take}
use lib.Seq.{take_at, take-take, drop-cons, length-take-le}
use Rattle.meaning.specs.Limits.{variable_limit, objective_limit}
use Rattle.meaning.specs.Refusals as Table
use Rattle.meaning.specs.Refusals.{first}
use Rattle.meaning.specs.Rules.{values_at}
use Rattle.meaning.specs.Order.{sorted}
use Rattle.meaning.specs.Standing.{Standing}
use Rattle.meaning.specs.Solutions.{profile}
use Rattle.meaning.specs.Calls.{Call, name_objectives}
use Rattle.meaning.specs.Histories.{Leaves}
use Rattle.meaning.proofs.Proper.{number_above}
use Rattle.meaning.proofs.Sorting.{sorted_length}
use Rattle.meaning.proofs.Answers.{answer_unique}
use Rattle.profile.specs.declared.Sorted.{Sorted}
use Rattle.profile.specs.Upwards.{SortedUp, kept, padded}
use Rattle.refusals.specs.declared.Refusal.{Refusal}
use Rattle.state.specs.declared.State.{State}
use Rattle.std.specs.Prelude.{Result, Ok, Err}
use Rattle.leximin.specs.declared.Solved.{Solved}
use Rattle.leximin.specs.declared.Solved.TheVariants as Solveds
use Rattle.refusals.specs.Numbers.{table_of}
use Rattle.state.specs.Promises.{Answers}
use Rattle.state.specs.Runs.{Run, step}
use Rattle.leximin.specs.Solving.{Solves, SolvedAs}
use Rattle.state.proofs.Runs.{run_stands}
use Rattle.lines.specs.Lines.{found_lines, found_text, inconsistent_line}
use Rattle.lines.specs.Writing.{Written}
use Rattle.reply.specs.Replies.{Tells, upwards, objectives_of}
use Rattle.reply.proofs.Naming.{upwards_long}

-- ---- the lines of a rota

kept_all : (p : List ℕ) → 0 < length p → length p ≤ objective_limit → kept p ≡ p
kept_all p some few =
    ap₂ (λ (a b : Bool). cond (a || b) [] p) (ne_eqb (length p) 0 (λ e. omega arith)) (le-ltb objective_limit (length p) few)

upwards_front : (p : List ℕ) (s : Sorted) → 0 < length p → length p ≤ objective_limit → SortedUp p s → take (length p) s.values ≡ sorted p
upwards_front p s some few up =
    ap (take (length p)) (up.upwards ∙ ap padded (kept_all p some few)) ∙ take_at (sorted p) (replicate (objective_limit - length p) 0) (length p) (sorted_length p)

text_is : (values up : List ℕ) → length values ≤ variable_limit → length up ≤ objective_limit → found_text values up ≡ found_lines values up
unfolding found_text
text_is values up h k = ap₂ (λ (a b : Bool). cond (a && b) (found_lines values up) []) (le-leb (length values) variable_limit h) (le-leb (length up) objective_limit k)

pub rota_lines : (values : List ℕ) (n count : ℕ) (s : Sorted) {before after : List ℕ} {r : ℕ} → length values ≡ variable_limit → 0 < n → n ≤ variable_limit → count ≡ min n objective_limit
    → SortedUp (take count values) s → Written before (found_text (take n values) (take count s.values)) after r
    → Written before (found_lines (take n values) (sorted (take (min n objective_limit) values))) after r
rota_lines values n count s {before} {after} {r} long some few e up w =
    let most : count ≤ objective_limit = omega (arith, e) in
    let many : length (take count values) ≡ count = length-take-le count values (omega (arith, e, long)) in
    let front : take count s.values ≡ sorted (take count values) =
    ap (λ (k : ℕ). take k s.values) (sym many) ∙ upwards_front (take count values) s (omega (arith, many, e)) (omega (arith, many, e)) up in
    let all : length (take n values) ≤ variable_limit = omega (arith, length-take n values) in
    let lines_are = ap (found_text (take n values)) front ∙ text_is (take n values) (sorted (take count values)) all (omega (arith, sorted_length (take count values), many, e)) in
    subst (λ (k : ℕ). Written before (found_lines (take n values) (sorted (take k values))) after r) e
    (subst (λ (t : List ℕ). Written before t after r) lines_are w)

-- ---- the objectives are the first variables

values_front : (a : List ℕ) (x k : ℕ) → x + k ≤ length a → values_at a (upwards x k) ≡ take k (drop x a)
values_front a x zero h = refl
values_front a x (suc k) h =
    ap₂ ◌∷◌ refl (values_front a (x + 1) k (omega arith) ∙ ap (λ (y : ℕ). take k (drop y a)) (add-one x)) ∙ sym (ap (take (suc k)) (drop-cons a x 0 (omega arith)))

profile_front : (w : Standing) (a : List ℕ) (n : ℕ) → length a ≡ n → w.objectives ≡ objectives_of n → profile w a ≡ take (min n objective_limit) a
profile_front w a n long e = ap (values_at a) e ∙ values_front a 0 (min n objective_limit) (omega (arith, long))

upwards_more : (x k m : ℕ) → k ≤ m → take k (upwards x m) ≡ upwards x k
upwards_more x zero m h = refl
upwards_more x (suc k) zero h = absurd (omega arith)
upwards_more x (suc k) (suc m) h = ap (λ (l : List ℕ). x ∷ l) (upwards_more (x + 1) k m (omega arith))

pub first_are : (n count : ℕ) → count ≡ min n objective_limit → take count (upwards 0 16) ≡ objectives_of n
first_are n count e = upwards_more 0 count 16 (omega (arith, e)) ∙ ap (upwards 0) e

-- ---- what solving says, as lines

module _ (w : Standing) (n : ℕ) (declared : length w.declared ≡ n) (named : w.objectives ≡ objectives_of n) {buffer values before after : List ℕ} {r : ℕ} where
  pub found_tells : SolvedAs w buffer (Ok Solveds.Found) values → Written before (found_lines (take n values) (sorted (take (min n objective_limit) values))) after r → Tells w before after r
  found_tells s written =
      let o = s.outcome in
      let long : length o.rota ≡ n = o.answer.solution.long ∙ declared in
      let front : take n values ≡ o.rota = ap (take n) o.buffer ∙ take_at o.rota (drop (length o.rota) buffer) n long in
      let ups : take (min n objective_limit) values ≡ profile w o.rota =
      sym (take-take (min n objective_limit) n values (omega arith)) ∙ ap (take (min n objective_limit)) front ∙ sym (profile_front w o.rota n long named) in
      record {
        inconsistent = λ none. absurd (none o.rota o.answer.solution);
        found = λ a answer.
            let same : o.rota ≡ a = answer_unique o.answer answer in
            subst (λ (b : List ℕ). Written before (found_lines b (sorted (profile w b))) after r) same
            (subst (λ (t : List ℕ). Written before t after r) (ap₂ (λ (u p : List ℕ). found_lines u (sorted p)) front ups) written);
      }

  pub none_tells : SolvedAs w buffer (Ok Solveds.Inconsistent) values → Written before inconsistent_line after r → Tells w before after r
  none_tells s written = record {
    inconsistent = λ none. written;
    found = λ a answer. absurd (s.outcome.none a answer.solution);
  }

  -- there are objectives, and the buffer is long enough
  pub never_refused : (x : Refusal) → 0 < n → n ≤ length buffer → SolvedAs w buffer (Err x) values → Tells w before after r
  unfolding first
  never_refused x some fits s =
      let objectives : ¬ (length w.objectives ≡ 0) = λ e. omega (arith, ap length named, upwards_long 0 (min n objective_limit)) in
      let not_12 = ne_eqb (length w.objectives) 0 objectives in
      let not_11 = le-ltb (length buffer) (length w.declared) (omega (arith, declared)) in
      let none : Table.number (table_of x) ≡ 0 =
      s.number ∙ ap₂ (λ (a b : Bool). first ((a, Table.no_objective) ∷ (b, Table.short_buffer) ∷ [])) not_12 not_11 in
      absurd (omega (arith, none, number_above (table_of x)))

-- ---- once the objectives are named, solving tells of what stands

module _ (state ready : State) (n count number : ℕ) (counted : count ≡ min n objective_limit) (answers : Answers state (name_objectives (take count (upwards 0 16))) number ready) where
  pub told : {buffer values : List ℕ} {r outcome : Result Solved Refusal} → Solves ready buffer r values → r ≡ outcome → (h : List Call) (w : Standing) → Run h state
      → Leaves (name_objectives (objectives_of n) ∷ h) w → SolvedAs w buffer outcome values
  told {buffer} {values} solves e h w run l =
      let now = step (name_objectives (objectives_of n)) number run (subst (λ (xs : List ℕ). Answers state (name_objectives xs) number ready) (first_are n count counted) answers) in
      subst (λ (r : Result Solved Refusal). SolvedAs w buffer r values) e (solves (name_objectives (objectives_of n) ∷ h) w l (run_stands w now l))
