-- Pins and bans: their tests, and the state with one decision more. Assumes nothing.
use mathlib.Core.Path.{◌≡◌, refl, sym, ap, ◌∙◌}
use mathlib.Core.Logic.{inl, inr, by_cases}
use mathlib.Core.List.{List, [], ◌∷◌}
use Prim.Native.Nat.{ℕ, ◌+◌, ◌≤◌, ◌<◌}
use native.Mathlib.Decide.{ℕ_discrete, dec_lt}
use native.Mathlib.Omega.{arith}
use borrow.Author.Tests.{le-leb, lt-leb, leb-false, eqb-false}
use lib.ListN.{length, get_or, set, take, length-append, length-set, get_or-eq_default}
use lib.Seq.{get_or-set_same, get_or-set_other, set-get_or, length-take-le}
use Rattle.meaning.specs.Limits.{value_limit, variable_limit, decision_limit}
use Rattle.meaning.specs.Refusals.{number, first, no_such_variable}
use Rattle.meaning.specs.Values.{bit, Has}
use Rattle.meaning.specs.Standing.{Standing, Decision, pinned, banned}
use Rattle.meaning.specs.Lists.{Largest, Cut}
use Rattle.meaning.specs.Calls.{pin, ban, unknown, decide, decision_tests}
use Rattle.meaning.specs.Proper.{Proper}
use Rattle.meaning.proofs.Largest.{largest_unique}
use Rattle.meaning.proofs.Proper.{leaves_proper, passed}
use Rattle.meaning.proofs.Digits.{bit_lt}
use Rattle.meaning.proofs.Steps.{cut_between, pin_cut, ban_cut}
use Rattle.values.specs.Sets.{Alone, Removed}
use Rattle.state.specs.declared.State.{State}
use Rattle.std.specs.Prelude.{Result, Ok, Err}
use Rattle.refusals.specs.declared.Refusal.{Refusal}
use Rattle.filters.specs.Layout.{rules_at}
use Rattle.filters.specs.Filter.{LargestIn}
use Rattle.blocks.specs.Blocks.{block}
use Rattle.state.specs.Holds.{Holds, Reached, heads_held}
use Rattle.refusals.specs.Numbers.{number_of}
use Rattle.state.specs.Promises.{Answers}
use Rattle.decide.specs.Decisions.{TellsLeft, Narrowed, Decided, left_to, tests_in}
use Rattle.meaning.proofs.Finding.{finds}
use Rattle.state.proofs.Answering.{refuses, accepts}
use Rattle.state.proofs.Holding.{current}
use Rattle.values.proofs.One.{alone_is}
use Rattle.blocks.proofs.Reading.{block_at, block_length}
use Rattle.filters.proofs.Closing.{empty_within}
use Rattle.filters.proofs.Sweeping.{toward_start, toward_end}
use Rattle.state.proofs.Depths.{first_within, within_first, settled, closed_same, wide_block, same_within}
use Rattle.decide.proofs.Blocks.{lists_decided, at_depth, held_at}
use Rattle.state.proofs.Reading.{rules_held}

-- ---- the tests

module _ (s : State) (w : Standing) (L : List ℕ) (p : Proper w) (hold : Holds s w) (most : Largest w L) (x : ℕ) where
  -- what is left to x stands in the lists
  pub left_here : x < s.variables → get_or L x 0 ≡ left_to s x
  left_here known =
      let e : L ≡ block s.lists s.depth (length w.declared) = largest_unique most (rw hold.depth (current hold)) in
      ap (λ (l : List ℕ). get_or l x 0) e ∙ block_at s.lists s.depth (length w.declared) x (omega (arith, hold.variables))

  -- the tests by what the state says are document 01's
  pub tests_right : (v : ℕ) → first (decision_tests w L x v) ≡ first (tests_in s x v)
  tests_right v = by_cases (dec_lt x s.variables) (λ known. rw (left_here known, hold.variables, hold.depth)) unknown_to_both
    where
      unknown_to_both : ¬ (x < s.variables) → first (decision_tests w L x v) ≡ first (tests_in s x v)
      unknown_to_both out =
          finds (decision_tests w L x v) (number no_such_variable) (inl (le-leb (length w.declared) x (omega (arith, hold.variables)), refl))
          ∙ sym (finds (tests_in s x v) (number no_such_variable) (inl (le-leb s.variables x (omega arith), refl)))

-- what an accepted decision has passed
pub all_passed : (s : State) (x v : ℕ) → 0 ≡ first (tests_in s x v) → (x < s.variables) × (v < value_limit) × (s.depth < decision_limit) × Has (left_to s x) v
all_passed s x v e =
    let (known, (small, (few, (present, done)))) = passed (tests_in s x v) (sym e) in
    let some = eqb-false (bit (left_to s x) v) 0 present in
    (leb-false s.variables x known, leb-false value_limit v small, leb-false decision_limit s.depth few, omega (arith, bit_lt (left_to s x) v))

-- ---- one decision more

set_same : (K L : List ℕ) (x m : ℕ) → x < length K → x < length L → ((y : ℕ) → get_or K y 0 ≡ get_or L y 0) → (y : ℕ) → get_or (set K x m) y 0 ≡ get_or (set L x m) y 0
set_same K L x m i j e y =
    by_cases (ℕ_discrete y x) (λ q. rw (q, get_or-set_same K x m 0 i, get_or-set_same L x m 0 j))
    (λ n. get_or-set_other K x y m 0 n ∙ e y ∙ sym (get_or-set_other L x y m 0 n))

abbrev next : State → List ℕ → List (List ℕ)
next s M = set s.lists (s.depth + 1) M

module _ (s : State) (x kept : ℕ) (M : List ℕ) (known : x < s.variables) (few : s.depth < decision_limit)
    (largest : LargestIn (rules_at (heads_held s) s.room) (set (block s.lists s.depth variable_limit) x kept) M) where
  -- the lists, whatever decision they are cut by
  module _ (w : Standing) (d : Decision) (p : Proper w) (hold : Holds s w)
      (cut : Cut d (block s.lists s.depth (length w.declared)) (set (block s.lists s.depth (length w.declared)) x kept)) where
    wide : List ℕ
    wide = block s.lists s.depth variable_limit

    narrow : List ℕ
    narrow = block s.lists s.depth (length w.declared)

    wide_length : length wide ≡ variable_limit
    unfolding wide
    wide_length = block_length s.lists s.depth variable_limit hold.lists.whole (omega arith) (omega arith)

    narrow_length : length narrow ≡ length w.declared
    unfolding narrow
    narrow_length = block_length s.lists s.depth (length w.declared) hold.lists.whole (omega arith) p.variables

    same : (y : ℕ) → get_or (set wide x kept) y 0 ≡ get_or (set narrow x kept) y 0
    unfolding wide narrow
    same =
        set_same wide narrow x kept (omega (arith, wide_length, hold.variables, p.variables)) (omega (arith, narrow_length, hold.variables))
        (λ y. wide_block w p s.lists hold.lists s.depth (omega (arith, hold.depth)) y)

    none : (y : ℕ) → length w.declared ≤ y → get_or M y 0 ≡ 0
    unfolding wide narrow
    none y i =
        empty_within M (set wide x kept) y largest.within
        (same y ∙ get_or-eq_default (set narrow x kept) 0 {n = y} (omega (arith, length-set narrow x kept, narrow_length)))

    long : length M ≡ variable_limit
    unfolding wide
    long = largest.long ∙ length-set wide x kept ∙ wide_length

    left : Largest (decide w d) (take (length w.declared) M)
    unfolding wide narrow
    left =
        settled (cut_between {w = w} d (rw hold.depth (current hold)) cut) (rw (rules_held s w p hold) at largest)
        (same_within (set wide x kept) (set narrow x kept) same) (same_within (set narrow x kept) (set wide x kept) (λ y. sym (same y)))
        (first_within (length w.declared) M) (within_first (length w.declared) M none)
        (length-take-le (length w.declared) M (omega (arith, long, p.variables)))

    narrowed_held : Holds (at_depth s (s.depth + 1) (next s M)) (decide w d)
    narrowed_held =
        held_at hold (omega (arith, hold.depth, length-append w.decisions (d ∷ [])))
        (rw hold.depth (lists_decided w p s.lists hold.lists d (omega (arith, hold.depth)) M long left none))

  pub narrows : Narrowed s x kept (at_depth s (s.depth + 1) (next s M))
  narrows h w L d l hold most cut =
      let e : L ≡ block s.lists s.depth (length w.declared) = largest_unique most (rw hold.depth (current hold)) in
      narrowed_held w d (leaves_proper l) hold (rw e at cut)

-- where the decision removes nothing the lists stay: they are closed already
pub nothing_removed : {s : State} → Reached s → (x kept : ℕ) {b : List ℕ} → b ≡ block s.lists s.depth variable_limit → get_or b x 0 ≡ kept
    → LargestIn (rules_at (heads_held s) s.room) (set b x kept) b
nothing_removed {s} (h, w, l, hold) x kept {b} eb same =
    let p = leaves_proper l in
    let wide = block s.lists s.depth variable_limit in
    let narrow = block s.lists s.depth (length w.declared) in
    let most : Largest w narrow = rw hold.depth (current hold) in
    let alike = wide_block w p s.lists hold.lists s.depth (omega (arith, hold.depth)) in
    let shut = closed_same {K = wide} {M = narrow} (same_within wide narrow alike) (same_within narrow wide (λ y. sym (alike y))) most.closed in
    rw (← same, set-get_or b x 0, eb, rules_held s w p hold) (toward_end (toward_start w.rules wide) shut)

-- the same, as the code comes by it: from a copy of the block, and what is written back
pub narrows_by : (s : State) (x kept : ℕ) (b M : List ℕ) (l : List (List ℕ)) → x < s.variables → s.depth < decision_limit → b ≡ block s.lists s.depth variable_limit
    → l ≡ set s.lists (s.depth + 1) M → LargestIn (rules_at (heads_held s) s.room) (set b x kept) M
    → Narrowed s x kept (at_depth s (s.depth + 1) l)
narrows_by s x kept b M l known few eb el largest =
    rw el (narrows s x kept M known few (rw eb at largest))

-- ---- the answers

module _ (s : State) (x v kept : ℕ) (t : State) where
  pub pin_answers : (a : Result Unit Refusal) → Decided s x v kept a t → Alone v kept → Answers s (pin x v) (number_of a) t
  pin_answers (Ok z) (e, narrowed) alone =
      accepts s (pin x v) t λ h w L l hold most.
      let (known, small, few, has) = all_passed s x v e in
      let here = left_here s w L (leaves_proper l) hold most x known in
      let cut = pin_cut L x v (omega (arith, known, hold.variables, most.long)) (rw here has) in (
        tests_right s w L (leaves_proper l) hold most x v ∙ sym e,
        narrowed h w L (pinned x v) l hold most (rw (alone_is v kept small alone) cut),
      )
  pin_answers (Err r) (e, same) alone =
      refuses s (pin x v) r (Err r) t (refl, same) λ w L p hold most. tests_right s w L p hold most x v ∙ sym e

  pub ban_answers : (a : Result Unit Refusal) → Decided s x v kept a t → Removed (left_to s x) v kept → Answers s (ban x v) (number_of a) t
  ban_answers (Ok z) (e, narrowed) removed =
      accepts s (ban x v) t λ h w L l hold most.
      let (known, small, few, has) = all_passed s x v e in
      let here = left_here s w L (leaves_proper l) hold most x known in
      let cut = ban_cut L x v kept (omega (arith, known, hold.variables, most.long)) removed.gone (λ u n. removed.kept u n ∙ ap (λ (k : ℕ). bit k u) (sym here)) in (
        tests_right s w L (leaves_proper l) hold most x v ∙ sym e,
        narrowed h w L (banned x v) l hold most cut,
      )
  ban_answers (Err r) (e, same) removed =
      refuses s (ban x v) r (Err r) t (refl, same) λ w L p hold most. tests_right s w L p hold most x v ∙ sym e

-- ---- the values left

pub none_past : (L : List ℕ) (x : ℕ) → length L ≤ x → get_or L x 0 ≡ 0
none_past L x out = get_or-eq_default L 0 {n = x} out

pub left_known : (s : State) (x m : ℕ) → x < s.variables → m ≡ left_to s x → TellsLeft s x (Ok m)
left_known s x m known e h w L l hold most = (
  sym (finds ((unknown w x, no_such_variable) ∷ []) 0 (inr (lt-leb (length w.declared) x (omega (arith, hold.variables)), refl))),
  e ∙ sym (left_here s w L (leaves_proper l) hold most x known),
)
