-- What a file that is read has passed: its first line, its sizes and its tables, by the reading alone. Assumes nothing.
use mathlib.Core.Path.{◌≡◌, refl, ap, ap₂, ◌∙◌, subst}
use mathlib.Core.Bool.{Bool, false}
use mathlib.Core.List.Memᴰ
use mathlib.Core.List.{List, [], ◌∷◌, ◌++◌}
use Prim.Native.Nat.{ℕ, zero, suc, ◌+◌, ◌*◌, ◌≤◌, ◌<◌}
use native.Mathlib.Omega.{arith}
use borrow.Author.Tests.{ltb-false, leb-false, lt-leb}
use lib.Dec.{leb, ltb, eqb}
use lib.ListN.{length, get_or}
use Rattle.meaning.specs.Limits.{variable_limit, value_limit, rule_limit, room_limit, arity_limit}
use Rattle.meaning.specs.Refusals.{out_of_range, wrong_length, full}
use Rattle.meaning.specs.Calls.{some, same, repeats}
use Rattle.meaning.proofs.Tests.{or_no}
use Rattle.meaning.proofs.Growing.{some_append, some_more, some_at, repeats_more, eqb_turns, same_turns}
use Rattle.meaning.proofs.Proper.{Passed}
use Rattle.filters.specs.Layout.{joined}
use Rattle.filters.proofs.Rooms.{Even}
use Rattle.text.specs.Words.{token_start}
use Rattle.costs.specs.Costs.{same_said}
use Rattle.reading.specs.Reading.{got, times, any_number, range, number, name, several}
use Rattle.reading.proofs.Readings.{what_or, split}
use Rattle.reading.proofs.Judging.{in_range, tests_passed, judged_got}
use Rattle.reading.proofs.Keeping.{all_kept, numbers_kept}
use Rattle.wcsp.specs.Files.{Header, Table, taken, variable_tests, value_tests, count_tests, tuple_tests, header, tuple, table}
use Rattle.wcsp.specs.Steps.{Known}
use Rattle.wcsp.proofs.Heaping.{joined_more, even_more}

-- the first line
pub record Bounds (h : Header) : Type 0 where
  pub some : 1 ≤ h.variables
  pub variables : h.variables ≤ variable_limit
  pub largest : h.largest ≤ value_limit
  pub constraints : h.constraints ≤ rule_limit

pub header_bounds : (text : List ℕ) {h : Header} {p : ℕ} → header text ≡ got h p → Bounds h
header_bounds text {h} e =
    let (x, p0, e0, r0) = split (name text 0) _ e in
    let (n, p1, e1, r1) = split (number text (range 1 out_of_range variable_limit full) p0) _ r0 in
    let (k, p2, e2, r2) = split (number text (range 1 out_of_range value_limit out_of_range) p1) _ r1 in
    let (c, p3, e3, r3) = split (number text (range 0 full rule_limit full) p2) _ r2 in
    let (b, p4, e4, r4) = split (number text any_number p3) _ r3 in
    let variables = in_range text 1 variable_limit out_of_range full p0 e1 in
    subst Bounds (ap (what_or h) r4) (record {
      some = variables.0;
      variables = variables.1;
      largest = (in_range text 1 value_limit out_of_range out_of_range p1 e2).1;
      constraints = (in_range text 0 rule_limit full full p2 e3).1;
    })

-- a table on n variables, where some of the room is used before it
pub record Sound (n used : ℕ) (t : Table) : Type 0 where
  pub size : (0 < length t.scope) × (length t.scope ≤ arity_limit)
  pub known : some (leb n) t.scope ≡ false
  pub once : repeats eqb t.scope ≡ false
  pub even : Even (length t.scope) t.tuples
  pub small : some (leb value_limit) (joined t.tuples) ≡ false
  pub apart : repeats same t.tuples ≡ false
  pub room : used + (length t.scope + length t.scope * length t.tuples) ≤ room_limit

abbrev Variables : ℕ → List ℕ → Type 0
Variables n xs = (some (leb n) xs ≡ false) × (repeats eqb xs ≡ false)

scope_sound : (text : List ℕ) (n a at : ℕ) {xs : List ℕ} {p : ℕ} → several text (variable_tests n) a at ≡ got xs p → (length xs ≡ a) × Variables n xs
unfolding some repeats
scope_sound text n a at e = numbers_kept text (variable_tests n) a (Variables n)
    (λ before v h (known, once) (below, (new, _)). (some_more (leb n) before v known below, repeats_more eqb eqb_turns before v once new)) at (refl, refl) e

none_of : (p : ℕ → Bool) (l : List ℕ) → some p l ≡ false → (i : ℕ) → i < length l → p (get_or l i 0) ≡ false
unfolding some
none_of p [] e i h = absurd (omega arith)
none_of p (x ∷ l) e zero h = (or_no (p x) (some p l) e).0
none_of p (x ∷ l) e (suc i) h = none_of p l (or_no (p x) (some p l) e).1 i (omega arith)

-- each is the number of a variable
pub scope_known : (text : List ℕ) (n a at : ℕ) {xs : List ℕ} {p : ℕ} → several text (variable_tests n) a at ≡ got xs p → Known n xs
scope_known text n a at {xs} e = λ i h. leb-false n (get_or xs i 0) (none_of (leb n) xs (scope_sound text n a at e).1.0 i h)

module _ (text sizes : List ℕ) (most : some (ltb value_limit) sizes ≡ false) where
  -- a value is below its variable's size, and a size at most 64
  values_sound : (scope : List ℕ) (at : ℕ) {vs : List ℕ} {p : ℕ} → several text (value_tests sizes scope) (length scope) at ≡ got vs p
      → (length vs ≡ length scope) × (some (leb value_limit) vs ≡ false)
  unfolding some
  values_sound scope at e = numbers_kept text (value_tests sizes scope) (length scope) (λ vs. some (leb value_limit) vs ≡ false) keeps at refl e
    where
      keeps : (before : List ℕ) (v : ℕ) → length before < length scope → some (leb value_limit) before ≡ false → Passed (value_tests sizes scope before v)
          → some (leb value_limit) (before ++ (v ∷ [])) ≡ false
      keeps before v h low passed =
          let s = get_or sizes (get_or scope (length before) 0) 0 in
          let at_most = ltb-false value_limit s (some_at (ltb value_limit) sizes 0 most refl (get_or scope (length before) 0)) in
          some_more (leb value_limit) before v low (lt-leb value_limit v (omega (arith, at_most, leb-false s v passed.0)))

  abbrev Tuples : List ℕ → List (List ℕ) → Type 0
  Tuples scope us = Even (length scope) us × (some (leb value_limit) (joined us) ≡ false) × (repeats same us ≡ false)

  tuples_sound : (scope : List ℕ) (default count at : ℕ) {us : List (List ℕ)} {p : ℕ} → times (tuple text sizes scope default) count [] at ≡ got us p
      → (length us ≡ count) × Tuples scope us
  unfolding some repeats joined
  tuples_sound scope default count at e = all_kept (tuple text sizes scope default) count (Tuples scope) keeps at (λ u m. absurd (Memᴰ.not-nil m), refl, refl) e
    where
      keeps : (before : List (List ℕ)) (u : List ℕ) (at place : ℕ) → length before < count → Tuples scope before → tuple text sizes scope default before at ≡ got u place
          → Tuples scope (before ++ (u ∷ []))
      keeps before u at place h (even, small, apart) e =
          let (vs, p1, e1, r1) = split (several text (value_tests sizes scope) (length scope) at) _ e in
          let (cost, p2, e2, r2) = split (number text any_number p1) _ r1 in
          let (passed, read) = judged_got (tuple_tests default cost before vs) (token_start text at) (got vs p2) r2 in
          let new = (or_no (same_said default cost) (some (same vs) before) passed.0).1 in
          let (long, low) = values_sound scope at e1 in
          let all : Tuples scope (before ++ (vs ∷ [])) = (
            even_more before vs even long,
            ap (some (leb value_limit)) (joined_more before vs) ∙ some_append (leb value_limit) (joined before) vs small low,
            repeats_more same same_turns before vs apart new,
          ) in
          subst (λ (t : List ℕ). Tuples scope (before ++ (t ∷ []))) (ap (what_or vs) read) all

  pub table_sound : (before : List Table) (at : ℕ) {t : Table} {p : ℕ} → table text sizes before at ≡ got t p → Sound (length sizes) (taken before) t
  table_sound before at {t} e =
      let (a, p1, e1, r1) = split (number text (range 1 wrong_length arity_limit wrong_length) at) _ e in
      let (xs, p2, e2, r2) = split (several text (variable_tests (length sizes)) a p1) _ r1 in
      let (default, p3, e3, r3) = split (number text any_number p2) _ r2 in
      let (count, p4, e4, r4) = split (number text (count_tests (taken before) a) p3) _ r3 in
      let (us, p5, e5, r5) = split (times (tuple text sizes xs default) count [] p4) _ r4 in
      let (low, high) = in_range text 1 arity_limit wrong_length wrong_length at e1 in
      let (long, (known, once)) = scope_sound text (length sizes) a p1 e2 in
      let fits = ltb-false room_limit (taken before + (a + a * count)) (tests_passed text (count_tests (taken before) a) p3 e4).0 in
      let (many, (even, small, apart)) = tuples_sound xs default count p4 e5 in
      let takes : length xs + length xs * length us ≡ a + a * count = ap₂ (λ (m k : ℕ). m + m * k) long many in
      subst (Sound (length sizes) (taken before)) (ap (what_or t) r5) (record {
        size = (omega (arith, low, long), omega (arith, high, long));
        known = known;
        once = once;
        even = even;
        small = small;
        apart = apart;
        room = omega (arith, fits, takes);
      })
