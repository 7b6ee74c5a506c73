-- Filtering only by the rules that are due comes to the largest closed lists. Assumes nothing.
use mathlib.Core.Path.{◌≡◌, sym, ap, ◌∙◌}
use mathlib.Core.Logic.{inl, inr, ⊎_elim, by_cases}
use Rattle.std.specs.Prelude.{None}
use mathlib.Core.List.{List, Memᴰ}
use Prim.Native.Nat.{ℕ, ◌+◌, ◌*◌, ◌<◌}
use native.Mathlib.Decide.{ℕ_discrete, dec_lt}
use native.Mathlib.Omega.{arith}
use lib.Bits.{bit_or, or_zero_r}
use lib.ListN.{length, get_or}
use Rattle.meaning.specs.Limits.{variable_limit}
use Rattle.meaning.specs.Values.{bit, Has, Lacks, size}
use Rattle.meaning.specs.Rules.{scope_of}
use Rattle.meaning.proofs.Digits.{zero_bit, bit_cases, ext_all}
use Rattle.meaning.proofs.Sizes.{size_max}
use Rattle.meaning.proofs.Sets.{or_iff}
use Rattle.meaning.proofs.Listed.{Words}
use Rattle.values.specs.Sets.{Lowest, Dropped, Removed}
use Rattle.filters.specs.declared.Head.{Head}
use Rattle.filters.specs.Layout.{rule_at, rules_at}
use Rattle.filters.specs.Filter.{Filtering, FiltersBy, Toward, weight}
use Rattle.filters.specs.Filter.{ClosedBy}
use Rattle.search.specs.Spreading.{InVariables, Touching, Due, Touched, AffectedBy, Quiet, Dry}
use Rattle.filters.proofs.Closing.{empty_within, filtered_closed, closed_kept, closed_by_all, toward_filter, rule_in}
use Rattle.filters.proofs.Sweeping.{changed_none, changed_small, changed_some, words_below, toward_end}

-- ---- a wave

-- how far the lists have come from B, and which rules are due
pub record Wave (heads : List Head) (room : List ℕ) (B L : List ℕ) (rest : ℕ) : Type 0 where
  pub long : length L ≡ variable_limit
  pub words : Words B
  pub toward : Toward (rules_at heads room) B L
  pub due : Due heads room L rest
  pub alive : (x : ℕ) → get_or L x 0 ≡ 0 → get_or B x 0 ≡ 0

module _ {heads : List Head} {room sets B L K : List ℕ} {rest k c : ℕ} (touch : Touching heads room (length heads) sets)
    (w : Wave heads room B L rest) (some : ¬ (rest ≡ 0)) (low : Lowest rest k) (filters : FiltersBy heads room k L K c) where
  -- a rule that is due is one of the rules
  first_due : k < length heads
  first_due = w.due.known k (low.here (low.some (omega arith)))

  f : Filtering (rule_at heads room k) L K c
  f = filters.by first_due w.long

  -- what was changed can be walked
  pub wave_lists : (length sets ≡ variable_limit) × (length K ≡ variable_limit) × InVariables c
  wave_lists = (touch.long, f.filtered.long ∙ w.long, changed_small f.filtered.long w.long f.changed)

  stepped : Toward (rules_at heads room) B K
  stepped = toward_filter (rule_in heads room k first_due) w.toward f.filtered

  -- a list of a changed variable is empty
  pub wave_dry : AffectedBy sets K c None → Dry (rules_at heads room) B K
  wave_dry (x, h, z) = record { toward = stepped; empty = (x, z, λ b. f.changed.other x h (z ∙ sym (empty_within L B x w.toward.within b))) }

  module _ {after d e : ℕ} (by : Touched sets K c after) (dropped : Dropped rest d) (removed : Removed after k e) where
    -- a rule that is not due now was not due before, and the change does not touch it; or it is the rule k
    not_due : (j : ℕ) → Lacks (bit_or d e) j → ¬ (j ≡ k) → Lacks rest j × Lacks after j
    not_due j l n =
        let p = (dropped.least k low).kept j n in
        let q = removed.kept j n in
        let lacks_d : Lacks d j = ⊎_elim (λ z. z) (λ h. absurd (let g = (or_iff d e j).1 (inl h) in omega arith)) (bit_cases d j) in
        let lacks_e : Lacks e j = ⊎_elim (λ z. z) (λ h. absurd (let g = (or_iff d e j).1 (inr h) in omega arith)) (bit_cases e j) in
        (sym p ∙ lacks_d, sym q ∙ lacks_e)

    untouched : (j : ℕ) → j < length heads → Lacks after j → (y : ℕ) → Memᴰ y (scope_of (rule_at heads room j)) → get_or K y 0 ≡ get_or L y 0
    untouched j l none y m =
        f.changed.same y (⊎_elim (λ z. z) (λ h. absurd (let g = by.all y j h (touch.all j l y m) in omega arith)) (bit_cases c y))

    next_due : Due heads room K (bit_or d e)
    next_due = record { known = λ j h. ⊎_elim (old j) (new j) ((or_iff d e j).0 h); others = others }
      where
        old : (j : ℕ) → Has d j → j < length heads
        old j h = by_cases (ℕ_discrete j k) (λ q. rw q first_due) (λ n. w.due.known j (sym ((dropped.least k low).kept j n) ∙ h))

        new : (j : ℕ) → Has e j → j < length heads
        new j h =
            by_cases (ℕ_discrete j k) (λ q. rw q first_due) λ n.
            let (x, g, i) = by.only j (sym (removed.kept j n) ∙ h) in
            touch.only x j i

        others : (j : ℕ) → j < length heads → Lacks (bit_or d e) j → ClosedBy (rule_at heads room j) K
        others j l none =
            by_cases (ℕ_discrete j k) (λ q. rw q (filtered_closed f.filtered)) λ n.
            let (p, q) = not_due j none n in
            closed_kept L K (untouched j l q) (w.due.others j l p)

    pub wave_on : Wave heads room B K (bit_or d e)
    wave_on = record {
      long = f.filtered.long ∙ w.long;
      words = w.words;
      toward = stepped;
      due = next_due;
      alive = λ x z. ⊎_elim (λ l. w.alive x (sym (f.changed.same x l) ∙ z)) (λ h. absurd (by.alive x h z)) (bit_cases c x);
    }

    -- each turn drops a value or a rule that is due
    pub wave_less : 64 * weight K + size (bit_or d e) < 64 * weight L + size rest
    wave_less = by_cases (dec_lt 0 c) falls (λ z. quiet (omega arith))
      where
        one : size d + 1 ≡ size rest
        one = dropped.fewer (omega arith)

        falls : 0 < c → 64 * weight K + size (bit_or d e) < 64 * weight L + size rest
        falls p =
            omega (
              arith,
              one,
              size_max (bit_or d e),
              changed_some f.filtered.long w.long (words_below L B w.words w.toward.within) f.filtered.kept f.changed p,
            )

        quiet : c ≡ 0 → 64 * weight K + size (bit_or d e) < 64 * weight L + size rest
        quiet z =
            let same : K ≡ L = changed_none f.filtered.long (rw z at f.changed) in
            let none : e ≡ 0 = ext_all e 0 (λ j. by_cases (ℕ_discrete j k) (λ q. rw q (removed.gone ∙ sym (zero_bit k))) (λ n. removed.kept j n ∙ clear j)) in
            rw (none, or_zero_r d) (omega (arith, one, ap weight same))
          where
            clear : (j : ℕ) → bit after j ≡ bit 0 j
            clear j =
                ⊎_elim (λ l. l ∙ sym (zero_bit j)) (λ h. let (x, g, i) = by.only j h in absurd (let u : Has 0 x = rw z at g in omega (arith, zero_bit x)))
                (bit_cases after j)

-- nothing is due any more
pub wave_end : {heads : List Head} {room : List ℕ} {B L : List ℕ} {rest : ℕ} → Wave heads room B L rest → rest ≡ 0
    → Quiet (rules_at heads room) B L
wave_end {heads} {room} {L} w e = record {
  largest = toward_end w.toward (closed_by_all heads room L (λ k l. w.due.others k l (rw e (zero_bit k))));
  alive = w.alive;
}
