-- The largest lists are unique, and are what removing unsupported values comes to, from any lists between them and the declared values.
-- Assumes nothing.
use mathlib.Core.Path.{◌≡◌, sym, ◌∙◌}
use mathlib.Core.Logic.{by_cases}
use mathlib.Core.List.{List, Memᴰ}
use Prim.Native.Nat.{ℕ}
use lib.ListN.{length, get_or}
use lib.Seq.{ext_get_or}
use Rattle.meaning.specs.Rules.{Rule, scope_of}
use Rattle.meaning.specs.Standing.{Standing}
use Rattle.meaning.specs.Lists.{Left, Supported, Closed, Within, Largest}
use Rattle.meaning.proofs.Digits.{has_dec, bit_iff, ext_all}

infix 50 ◌⊑◌
-- every value that K leaves, L leaves
abbrev pub ◌⊑◌ : List ℕ → List ℕ → Type 0
K ⊑ L = (x v : ℕ) → Left K x v → Left L x v

-- lists that leave the same values are the same
pub same_lists : {K L : List ℕ} → length K ≡ length L → K ⊑ L → L ⊑ K → K ≡ L
same_lists {K} {L} e f g =
    ext_get_or 0 K L e (λ x h. ext_all (get_or K x 0) (get_or L x 0) (λ v. bit_iff (get_or K x 0) (get_or L x 0) v (f x v) (g x v)))

pub largest_unique : {w : Standing} {K L : List ℕ} → Largest w K → Largest w L → K ≡ L
largest_unique {w} {K} {L} a b =
    same_lists (a.long ∙ sym b.long) (b.most K a.within a.closed) (a.most L b.within b.closed)

pub supported_mono : {K L : List ℕ} {r : Rule} {x v : ℕ} → K ⊑ L → Supported K r x v → Supported L r x v
supported_mono sub s =
    record { by = s.by; here = s.here; others = λ y m n. sub y _ (s.others y m n); satisfied = s.satisfied }

-- the lists keep to the declared values and the decisions, and hold all lists that do and are closed
pub record Between (w : Standing) (L : List ℕ) : Type 0 where
  pub long : length L ≡ length w.declared
  pub within : Within w L
  pub most : (K : List ℕ) → Within w K → Closed w.rules K → K ⊑ L

-- what L leaves and L' does not had no support among L's values, in some rule
pub record Removes (rules : List Rule) (L L' : List ℕ) : Type 0 where
  pub long : length L' ≡ length L
  pub kept : L' ⊑ L
  pub reason : (x v : ℕ) → Left L x v → ¬ Left L' x v
      → (r : Rule) × Memᴰ r rules × Memᴰ x (scope_of r) × ¬ Supported L r x v

-- closed lists are kept by a removal
pub stays : {rules : List Rule} {K L L' : List ℕ} → Closed rules K → K ⊑ L → Removes rules L L' → K ⊑ L'
stays {K} {L} {L'} shut sub r x v k =
    by_cases (has_dec (get_or L' x 0) v) (λ h. h) λ gone.
    let w = r.reason x v (sub x v k) gone in
    absurd (w.3 (supported_mono sub (shut w.0 w.1 x w.2 v k)))

pub within_mono : {w : Standing} {K L : List ℕ} → K ⊑ L → Within w L → Within w K
within_mono sub h =
    record { declared = λ x v k. h.declared x v (sub x v k); permitted = λ x v k. h.permitted x v (sub x v k) }

pub removes_between : {w : Standing} {L L' : List ℕ} → Between w L → Removes w.rules L L' → Between w L'
removes_between {w} {L} {L'} b r =
    record {
      long = r.long ∙ b.long;
      within = within_mono r.kept b.within;
      most = λ K h shut. stays {K = K} {L = L} {L' = L'} shut (b.most K h shut) r;
    }

-- nothing is unsupported any more: the largest lists
pub between_closed : {w : Standing} {L : List ℕ} → Between w L → Closed w.rules L → Largest w L
between_closed b shut = record { long = b.long; within = b.within; closed = shut; most = b.most }

pub largest_between : {w : Standing} {L : List ℕ} → Largest w L → Between w L
largest_between a = record { long = a.long; within = a.within; most = a.most }
