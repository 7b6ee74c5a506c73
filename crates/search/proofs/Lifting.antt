-- Dropping values below a floor from one list after the other. Assumes nothing.
use mathlib.Core.Path.{◌≡◌, refl, sym, ◌∙◌}
use mathlib.Core.Logic.{⊎_elim, by_cases}
use mathlib.Core.List.{List}
use Prim.Native.Nat.{ℕ, ◌+◌, ◌≤◌}
use native.Mathlib.Decide.{ℕ_discrete}
use native.Mathlib.Omega.{arith}
use lib.Bits.{bit_or}
use lib.ListN.{get_or}
use Rattle.meaning.specs.Values.{Has, Lacks}
use Rattle.meaning.specs.Lists.{Left}
use Rattle.meaning.proofs.Digits.{bit_lt, bit_of_or, bit_iff, ext_all}
use Rattle.meaning.proofs.Sets.{or_iff}
use Rattle.meaning.proofs.Largest.{◌⊑◌}
use Rattle.values.specs.Sets.{AtOrAbove}
use Rattle.blocks.specs.Keeping.{Changed, Kept}
use Rattle.search.specs.Thresholds.{Lifted}
use Rattle.filters.proofs.Sifting.{same_changed}

-- ---- changes one after the other

-- lists only shrink, so what has changed once stays changed
pub changed_join : {L K M : List ℕ} {c d : ℕ} → K ⊑ L → M ⊑ K → Changed L K c → Changed K M d → Changed L M (bit_or c d)
changed_join {L} {K} {M} {c} {d} first then old new = record { same = same; other = other }
  where
    same : (x : ℕ) → Lacks (bit_or c d) x → get_or M x 0 ≡ get_or L x 0
    same x h = let b = bit_of_or c d x in new.same x (omega arith) ∙ old.same x (omega arith)

    -- what lies between two equal lists is equal to them
    middle : (x : ℕ) → get_or M x 0 ≡ get_or L x 0 → get_or K x 0 ≡ get_or L x 0
    middle x q = ext_all (get_or K x 0) (get_or L x 0) (λ v. bit_iff (get_or K x 0) (get_or L x 0) v (first x v) (λ h. then x v (rw q h)))

    other : (x : ℕ) → Has (bit_or c d) x → ¬ (get_or M x 0 ≡ get_or L x 0)
    other x h q = ⊎_elim (λ g. old.other x g (middle x q)) (λ g. new.other x g (q ∙ sym (middle x q))) ((or_iff c d x).0 h)

pub kept_within : {L K : List ℕ} {x m c : ℕ} → Kept L x m K c → K ⊑ L
kept_within {L} {K} {x} {m} k y v h =
    by_cases (ℕ_discrete y x) (λ e. rw e (let g : Left K x v = rw e at h in omega (arith, k.here v, bit_lt (get_or L x 0) v)))
    (λ d. rw (k.there y d) at h)

-- ---- objective by objective

module _ {objective tops : List ℕ} {floor : ℕ} where
  pub lifted_none : (L : List ℕ) → Lifted objective 0 tops floor L L 0
  lifted_none L = record {
    long = refl;
    within = λ x v h. h;
    high = λ x v l h. h;
    others = λ x f. refl;
    changed = same_changed L;
  }

  module _ {j : ℕ} {L K : List ℕ} {c : ℕ} (so : Lifted objective j tops floor L K c) where
    pub lifted_pass : Lifted objective (j + 1) tops floor L K c
    lifted_pass = record {
      long = so.long;
      within = so.within;
      high = so.high;
      others = λ x f. so.others x (λ i l. f i (omega arith));
      changed = so.changed;
    }

    module _ {m d : ℕ} {M : List ℕ} (reached : floor ≤ get_or tops j 0) (cut : AtOrAbove (get_or K (get_or objective j 0) 0) floor m)
        (k : Kept K (get_or objective j 0) m M d) where
      high_stays : (x v : ℕ) → floor ≤ v → Left K x v → Left M x v
      high_stays x v l h =
          by_cases (ℕ_discrete x (get_or objective j 0))
          (λ e. rw e (let g : Left K (get_or objective j 0) v = rw e at h in omega (arith, k.here v, cut.kept v l)))
          (λ n. rw (k.there x n) h)

      pub lifted_more : Lifted objective (j + 1) tops floor L M (bit_or c d)
      lifted_more = record {
        long = k.long ∙ so.long;
        within = λ x v h. so.within x v (kept_within k x v h);
        high = λ x v l h. high_stays x v l (so.high x v l h);
        others = λ x f. k.there x (f j (omega arith) reached) ∙ so.others x (λ i l. f i (omega arith));
        changed = changed_join so.within (kept_within k) so.changed k.changed;
      }
