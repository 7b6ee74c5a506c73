-- Lists that are closed by a rule and by all rules. Assumes nothing.
use mathlib.Core.Path.{◌≡◌, refl, sym, ◌∙◌}
use mathlib.Core.Logic.{⊎_elim, by_cases}
use mathlib.Core.List.Memᴰ
use mathlib.Core.List.{List, [], ◌∷◌, Memᴰ}
use Prim.Native.Nat.{ℕ, zero, suc, ◌<◌}
use native.Mathlib.Nat.{le_of_suc-le-suc}
use native.Mathlib.Decide.{ℕ_discrete}
use native.Mathlib.Omega.{arith}
use lib.ListN.{length, get_or}
use Rattle.meaning.specs.Rules.{Rule, scope_of, at}
use Rattle.meaning.specs.Lists.{Left, Supported, Closed}
use Rattle.meaning.proofs.Digits.{zero_bit, bit_cases, ext_all}
use Rattle.meaning.proofs.Largest.{◌⊑◌, stays}
use Rattle.filters.specs.declared.Head.{Head}
use Rattle.filters.specs.Layout.{rule_at, rules_at}
use Rattle.filters.specs.Filter.{Filtered, Filtering, ClosedBy, Toward, LargestIn}
use Rattle.filters.proofs.Sweeping.{filtered_removes, changed_none, toward_start, toward_end}

-- lists within others that are empty somewhere are empty there
pub empty_within : (K L : List ℕ) (x : ℕ) → K ⊑ L → get_or L x 0 ≡ 0 → get_or K x 0 ≡ 0
empty_within K L x sub e =
    ext_all (get_or K x 0) 0 λ v.
    ⊎_elim (λ z. z ∙ sym (zero_bit v)) (λ h. absurd (let k = rw e at (sub x v h) in let z = zero_bit v in omega arith)) (bit_cases (get_or K x 0) v)

-- ---- closed by one rule

-- filtering by a rule once is enough: what supports a value is supported with it
pub filtered_closed : {r : Rule} {L K : List ℕ} → Filtered r L K → ClosedBy r K
filtered_closed {r} {L} {K} f x i v h =
    let s = f.supported x v i h in
    let left = f.kept x v h in
    record {
      by = s.by;
      here = s.here;
      others = λ y j n. f.all y (at s.by y) (s.others y j n) (λ _. with s left y);
      satisfied = s.satisfied;
    }
  where
    with : (s : Supported L r x v) → Left L x v → (y : ℕ) → Supported L r y (at s.by y)
    with s left y = record {
      by = s.by;
      here = refl;
      others = λ z j n. by_cases (ℕ_discrete z x) (λ e. rw (e, s.here) left) (s.others z j);
      satisfied = s.satisfied;
    }

-- a rule sees the lists of its own variables alone
pub closed_kept : {r : Rule} (L K : List ℕ) → ((y : ℕ) → Memᴰ y (scope_of r) → get_or K y 0 ≡ get_or L y 0) → ClosedBy r L → ClosedBy r K
closed_kept {r} L K same shut x i v h =
    let s = shut x i v (rw (same x i) at h) in
    record { by = s.by; here = s.here; others = λ y j n. rw (same y j) (s.others y j n); satisfied = s.satisfied }

-- ---- the rules by their numbers

pub rule_in : (heads : List Head) (room : List ℕ) (k : ℕ) → k < length heads → Memᴰ (rule_at heads room k) (rules_at heads room)
rule_in [] room k l = absurd (omega arith)
rule_in (h ∷ heads) room zero l = Memᴰ.head refl
rule_in (h ∷ heads) room (suc k) l = Memᴰ.tail (rule_in heads room k (le_of_suc-le-suc l))

pub closed_by_all : (heads : List Head) (room L : List ℕ) → ((k : ℕ) → k < length heads → ClosedBy (rule_at heads room k) L) → Closed (rules_at heads room) L
closed_by_all [] room L all r m = absurd (Memᴰ.not-nil m)
closed_by_all (h ∷ heads) room L all r m =
    ⊎_elim (λ e. rw e (all 0 (omega arith))) (λ i. closed_by_all heads room L (λ k l. all (suc k) (omega arith)) r i) (Memᴰ.cases_cons m)

pub closed_by_each : (heads : List Head) (room L : List ℕ) → Closed (rules_at heads room) L → (k : ℕ) → k < length heads → ClosedBy (rule_at heads room k) L
closed_by_each heads room L shut k l = shut (rule_at heads room k) (rule_in heads room k l)

-- ---- on the way to the largest closed lists

pub toward_filter : {rules : List Rule} {r : Rule} {B L K : List ℕ} → Memᴰ r rules → Toward rules B L → Filtered r L K → Toward rules B K
toward_filter {L} {K} m t f = record {
  long = f.long ∙ t.long;
  within = λ x v h. t.within x v (f.kept x v h);
  most = λ J low shut. stays {K = J} {L = L} {L' = K} shut (t.most J low shut) (filtered_removes m f);
}

-- ---- one rule more

-- lists that every rule but the k-th closes, filtered by that one
module _ (heads : List Head) (room : List ℕ) (k : ℕ) {L K : List ℕ} {c : ℕ} (known : k < length heads) (others : (j : ℕ) → j < length heads → ¬ (j ≡ k) → ClosedBy (rule_at heads room j) L)
    (f : Filtering (rule_at heads room k) L K c) where
  toward : Toward (rules_at heads room) L K
  toward = toward_filter (rule_in heads room k known) (toward_start (rules_at heads room) L) f.filtered

  -- where nothing changes, nothing is left to do
  pub follows_none : c ≡ 0 → LargestIn (rules_at heads room) L K
  follows_none z = toward_end toward (closed_by_all heads room K λ j l.
      by_cases (ℕ_discrete j k) (λ e. rw e (filtered_closed f.filtered)) (λ d. rw (changed_none f.filtered.long (rw z at f.changed)) (others j l d)))

  pub follows_some : (M : List ℕ) → LargestIn (rules_at heads room) K M → LargestIn (rules_at heads room) L M
  follows_some M m = record {
    long = m.long ∙ toward.long;
    within = λ x v h. toward.within x v (m.within x v h);
    closed = m.closed;
    most = λ J low shut. m.most J (toward.most J low shut) shut;
  }
