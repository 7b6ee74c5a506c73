-- Lists sifted place by place: one variable's list narrowed, the places of a scope in turn, and what is filtered in the end.
-- Assumes nothing.
use mathlib.Core.Path.{◌≡◌, refl, sym, ap, ◌∙◌}
use mathlib.Core.Logic.{◌⊎◌, inl, inr, ⊎_elim, ◌↔◌, by_cases}
use mathlib.Core.List.Memᴰ
use mathlib.Core.List.{List, [], ◌∷◌, Memᴰ}
use Prim.Native.Nat.{ℕ, zero, suc, ◌+◌, ◌<◌}
use native.Mathlib.Nat.{not-suc-le-zero, le_of_suc-le-suc}
use native.Mathlib.Decide.{ℕ_discrete}
use native.Mathlib.Omega.{arith}
use borrow.Author.Count.{below_more}
use lib.Bits.{bit_or}
use lib.ListN.{length, get_or, replicate}
use Rattle.meaning.specs.Values.{bit, Has, Lacks}
use Rattle.meaning.specs.Rules.{Rule, scope_of}
use Rattle.meaning.specs.Lists.{Left, Supported}
use Rattle.meaning.specs.Proper.{Distinct}
use Rattle.meaning.proofs.Digits.{bit_lt, bit_of_or, zero_bit, bit_cases}
use Rattle.meaning.proofs.Sets.{or_iff}
use Rattle.blocks.specs.Keeping.{Changed, Kept}
use Rattle.blocks.proofs.Copying.{zeros_at}
use Rattle.filters.specs.Filter.{Filtered, Filtering, Ready}
use Rattle.filters.specs.Sifting.{Known, Narrowed, Sifted}

-- ---- the places of a scope

pub at_mem : (s : List ℕ) (j : ℕ) → j < length s → Memᴰ (get_or s j 0) s
at_mem [] j h = absurd (not-suc-le-zero h)
at_mem (x ∷ s) zero h = Memᴰ.head refl
at_mem (x ∷ s) (suc j) h = Memᴰ.tail (at_mem s j (le_of_suc-le-suc h))

pub mem_at : (s : List ℕ) (x : ℕ) → Memᴰ x s → (j : ℕ) × (j < length s) × (x ≡ get_or s j 0)
mem_at [] x m = absurd (Memᴰ.not-nil m)
mem_at (y ∷ s) x m =
    ⊎_elim (λ e. (0, omega arith, e)) (λ t. let w = mem_at s x t in (suc w.0, omega arith, w.2)) (Memᴰ.cases_cons m)

-- the place of x, where it has one
find : (s : List ℕ) (x : ℕ) → Memᴰ x s ⊎ ((j : ℕ) → j < length s → ¬ (x ≡ get_or s j 0))
find [] x = inr (λ j h. absurd (not-suc-le-zero h))
find (y ∷ s) x = step (ℕ_discrete x y) (find s x)
  where
    none : ¬ (x ≡ y) → ((j : ℕ) → j < length s → ¬ (x ≡ get_or s j 0)) → (j : ℕ) → j < suc (length s) → ¬ (x ≡ get_or (y ∷ s) j 0)
    none d f zero h = d
    none d f (suc j) h = f j (le_of_suc-le-suc h)

    step : Dec (x ≡ y) → Memᴰ x s ⊎ ((j : ℕ) → j < length s → ¬ (x ≡ get_or s j 0))
        → Memᴰ x (y ∷ s) ⊎ ((j : ℕ) → j < suc (length s) → ¬ (x ≡ get_or (y ∷ s) j 0))
    step (yes q) w = inl (Memᴰ.head q)
    step (no d) (inl m) = inl (Memᴰ.tail m)
    step (no d) (inr f) = inr (none d f)

pub apart : (s : List ℕ) → Distinct s → (i j : ℕ) → i < length s → j < i → ¬ (get_or s i 0 ≡ get_or s j 0)
apart [] d i j h l = absurd (not-suc-le-zero h)
apart (x ∷ s) d zero j h l = absurd (not-suc-le-zero l)
apart (x ∷ s) d (suc i) zero h l = λ e. d.0 (rw e at (at_mem s i (le_of_suc-le-suc h)))
apart (x ∷ s) d (suc i) (suc j) h l = apart s d.1 i j (le_of_suc-le-suc h) (le_of_suc-le-suc l)

-- ---- one variable

pub same_changed : (L : List ℕ) → Changed L L 0
same_changed L = record { same = λ x h. refl; other = λ x h. absurd (let z = zero_bit x in omega arith) }

pub all_narrowed : (L : List ℕ) (x : ℕ) (P : ℕ → Type 0) → ((v : ℕ) → Left L x v → P v) → Narrowed L x P L 0
all_narrowed L x P all = record { long = refl; here = λ v. (λ h. (h, all v h), λ h. h.0); there = λ y d. refl; changed = same_changed L }

pub kept_narrowed : {L : List ℕ} {x m : ℕ} {K : List ℕ} {c : ℕ} (P : ℕ → Type 0) → Kept L x m K c
    → ((v : ℕ) → Left L x v → Has m v ↔ P v) → Narrowed L x P K c
kept_narrowed {L} {x} {m} {K} P k iff = record {
  long = k.long;
  here = λ v. (there v, back v);
  there = k.there;
  changed = k.changed;
}
  where
    there : (v : ℕ) → Left K x v → Left L x v × P v
    there v h =
        let e = k.here v in
        let a = bit_lt (get_or L x 0) v in
        let b = bit_lt m v in
        let l : Left L x v = omega arith in
        (l, (iff v l).0 (omega arith))

    back : (v : ℕ) → Left L x v × P v → Left K x v
    back v h =
        let e = k.here v in
        let l = h.0 in
        let b = (iff v l).1 h.1 in
        omega arith

-- ---- the places in turn

pub sifted_none : (s : List ℕ) (P : ℕ → ℕ → Type 0) (L : List ℕ) → Sifted s 0 P L L 0
sifted_none s P L = record {
  long = refl;
  passed = λ j h. absurd (not-suc-le-zero h);
  rest = λ x h. refl;
  changed = same_changed L;
}

-- where each place keeps all that its list has
pub all_sifted : (s : List ℕ) (n : ℕ) (P : ℕ → ℕ → Type 0) (L : List ℕ) → ((j : ℕ) → j < n → (v : ℕ) → Left L (get_or s j 0) v → P j v) → Sifted s n P L L 0
all_sifted s n P L f = record {
  long = refl;
  passed = λ j h v. (λ l. (l, f j h v l), λ l. l.0);
  rest = λ x h. refl;
  changed = same_changed L;
}

module _ (s : List ℕ) (P : ℕ → ℕ → Type 0) (once : Distinct s) (i : ℕ) (inside : i < length s) {L K : List ℕ} {c : ℕ} (so : Sifted s i P L K c) where
  -- the list of the variable whose turn it is has not been touched
  pub in_turn : get_or K (get_or s i 0) 0 ≡ get_or L (get_or s i 0) 0
  in_turn = so.rest (get_or s i 0) (λ j l. apart s once i j inside l)

  module _ {M : List ℕ} {e : ℕ} (now : Narrowed K (get_or s i 0) (P i) M e) where
    passed_now : (j : ℕ) → j < i + 1 → (v : ℕ) → Left M (get_or s j 0) v ↔ (Left L (get_or s j 0) v × P j v)
    passed_now = below_more (λ j. (v : ℕ) → Left M (get_or s j 0) v ↔ (Left L (get_or s j 0) v × P j v)) i
        (λ j l v. rw (now.there (get_or s j 0) (λ q. apart s once i j inside l (sym q))) (so.passed j l v))
        (λ v. rw (← in_turn) (now.here v))

    rest_now : (x : ℕ) → ((j : ℕ) → j < i + 1 → ¬ (x ≡ get_or s j 0)) → get_or M x 0 ≡ get_or L x 0
    rest_now x f = now.there x (f i (omega arith)) ∙ so.rest x (λ j l. f j (omega arith))

    -- a list that this turn changes is as at the start
    only_here : (x : ℕ) → Has e x → get_or K x 0 ≡ get_or L x 0
    only_here x h = by_cases (ℕ_discrete x (get_or s i 0)) (λ q. rw q in_turn) (λ d. absurd (now.changed.other x h (now.there x d)))

    changed_now : Changed L M (bit_or c e)
    changed_now = record { same = same; other = other }
      where
        same : (x : ℕ) → Lacks (bit_or c e) x → get_or M x 0 ≡ get_or L x 0
        same x h =
            let b = bit_of_or c e x in
            now.changed.same x (omega arith) ∙ so.changed.same x (omega arith)

        other : (x : ℕ) → Has (bit_or c e) x → ¬ (get_or M x 0 ≡ get_or L x 0)
        other x h q = ⊎_elim
            (λ l. so.changed.other x (⊎_elim (λ a. a) (λ a. let z : Lacks e x = l in absurd (omega arith)) ((or_iff c e x).0 h)) (sym (now.changed.same x l) ∙ q))
            (λ a. now.changed.other x a (q ∙ sym (only_here x a)))
            (bit_cases e x)

    pub sifted_more : Sifted s (i + 1) P L M (bit_or c e)
    sifted_more = record {
      long = now.long ∙ so.long;
      passed = passed_now;
      rest = rest_now;
      changed = changed_now;
    }

-- a turn by a mask
pub masked_more : (s masks : List ℕ) → Distinct s → (i : ℕ) → i < length s → {L K M : List ℕ} {c e : ℕ} → Sifted s i (λ j v. Has (get_or masks j 0) v) L K c
    → Kept K (get_or s i 0) (get_or masks i 0) M e → Sifted s (i + 1) (λ j v. Has (get_or masks j 0) v) L M (bit_or c e)
masked_more s masks once i inside so k =
    sifted_more s (λ j v. Has (get_or masks j 0) v) once i inside so (kept_narrowed (λ v. Has (get_or masks i 0) v) k (λ v h. (λ b. b, λ b. b)))

-- by masks that are empty
pub nothing_sifted : (s : List ℕ) (n : ℕ) {L K : List ℕ} {c : ℕ} → Sifted s (length s) (λ j v. Has (get_or (replicate n 0) j 0) v) L K c → Sifted s (length s) (λ j v. ⊥) L K c
nothing_sifted s n so = record {
  long = so.long;
  passed = λ j h v. (λ k. let w = (so.passed j h v).0 k in (w.0, none j v w.1), λ w. absurd w.1);
  rest = so.rest;
  changed = so.changed;
}
  where
    none : (j v : ℕ) → ¬ Has (get_or (replicate n 0) j 0) v
    none j v h = let z = ap (λ (m : ℕ). bit m v) (zeros_at n j) in omega (arith, zero_bit v)

-- ---- all places, by what has support

module _ (r : Rule) (P : ℕ → ℕ → Type 0) (L K : List ℕ) (c n : ℕ) (whole : length (scope_of r) ≡ n) (so : Sifted (scope_of r) n P L K c)
    (iff : (j v : ℕ) → j < length (scope_of r) → Left L (get_or (scope_of r) j 0) v → Supported L r (get_or (scope_of r) j 0) v ↔ P j v) where
  -- a variable of the scope keeps just the values with support
  left_in : (x : ℕ) → Memᴰ x (scope_of r) → (v : ℕ) → Left K x v ↔ (Left L x v × Supported L r x v)
  left_in x m =
      let w = mem_at (scope_of r) x m in
      let j = w.0 in
      let l = w.1 in
      let g : j < n = omega arith in
      rw w.2
      (λ v. (
        λ h. let k = (so.passed j g v).0 h in (k.0, (iff j v l k.0).1 k.1),
        λ h. (so.passed j g v).1 (h.0, (iff j v l h.0).0 h.1),
      ))

  sifted_filtered : Filtered r L K
  sifted_filtered = record {
    long = so.long;
    kept = λ x v h. ⊎_elim (λ m. ((left_in x m v).0 h).0) (λ f. rw (so.rest x (λ j g. f j (omega arith))) at h) (find (scope_of r) x);
    supported = λ x v m h. ((left_in x m v).0 h).1;
    all = λ x v h k. ⊎_elim (λ m. (left_in x m v).1 (h, k m)) (λ f. rw (so.rest x (λ j g. f j (omega arith))) h) (find (scope_of r) x);
  }

  pub sifted_filtering : Filtering r L K c
  sifted_filtering = record { filtered = sifted_filtered; changed = so.changed }

-- ---- a rule that is ready

pub ready_known : {L : List ℕ} {r : Rule} → Ready r L → Known (scope_of r) L
ready_known h = record { lists = h.lists; known = h.proper.known; once = h.proper.once }
