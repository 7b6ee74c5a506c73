-- Lists of the variables, in more places than there are variables: what they leave, and when they are closed. Assumes nothing.
use mathlib.Core.Path.{◌≡◌, sym, ◌∙◌}
use mathlib.Core.Logic.{inl, by_cases}
use mathlib.Core.List.{List, []}
use Prim.Native.Nat.{ℕ, ◌≤◌, ◌<◌}
use native.Mathlib.Decide.{dec_lt}
use native.Mathlib.Omega.{arith}
use lib.ListN.{length, get_or, take, length-take, get_or-eq_default}
use lib.Seq.{get_or-take}
use Rattle.meaning.specs.Limits.{variable_limit, decision_limit}
use Rattle.meaning.specs.Rules.{Rule}
use Rattle.meaning.specs.Standing.{Standing}
use Rattle.meaning.specs.Lists.{Closed, Largest}
use Rattle.meaning.specs.Proper.{Proper}
use Rattle.meaning.proofs.Largest.{◌⊑◌, Between, supported_mono, within_mono}
use Rattle.meaning.proofs.Solutions.{left_below}
use Rattle.filters.specs.Filter.{LargestIn}
use Rattle.blocks.specs.Blocks.{block}
use Rattle.state.specs.Holds.{HoldsLists}
use Rattle.blocks.proofs.Reading.{block_at, block_length}

-- ---- lists of n variables, in more places

-- the first n lists leave what all leave, where the later ones are empty
pub first_within : (n : ℕ) (l : List ℕ) → take n l ⊑ l
first_within n l x v h =
    let k : x < n = omega (arith, left_below (take n l) x v h, length-take n l) in
    rw (get_or-take n l x 0 k) at h

pub within_first : (n : ℕ) (l : List ℕ) → ((x : ℕ) → n ≤ x → get_or l x 0 ≡ 0) → l ⊑ take n l
within_first n l none x v h =
    by_cases (dec_lt x n) (λ k. rw (get_or-take n l x 0 k) h) λ k.
    absurd (omega (arith, left_below [] x v (rw (none x (omega arith)) at h)))

pub closed_same : {rules : List Rule} {K M : List ℕ} → K ⊑ M → M ⊑ K → Closed rules M → Closed rules K
closed_same {K} {M} low high shut r i x j v h = supported_mono {K = M} {L = K} high (shut r i x j v (low x v h))

-- the largest closed lists within B are the largest lists of w, where B leaves what lies between
pub settled : {w : Standing} {B C K M : List ℕ} → Between w C → LargestIn w.rules B M → B ⊑ C → C ⊑ B → K ⊑ M → M ⊑ K
    → length K ≡ length w.declared → Largest w K
settled {w} {B} {C} {K} {M} b m bc cb km mk e = record {
  long = e;
  within = within_mono {K = K} {L = C} (λ x v h. bc x v (m.within x v (km x v h))) b.within;
  closed = closed_same {K = K} {M = M} km mk m.closed;
  most = λ J h shut x v k. mk x v (m.most J (λ y u l. cb y u (b.most J h shut y u l)) shut x v k);
}

-- lists with the same numbers leave the same
pub same_within : (K L : List ℕ) → ((x : ℕ) → get_or K x 0 ≡ get_or L x 0) → K ⊑ L
same_within K L e x v h = rw (e x) at h

-- ---- blocks

module _ (w : Standing) (p : Proper w) (l : List (List ℕ)) (h : HoldsLists l w) where
  -- a block in all its places leaves what it leaves to the variables
  pub wide_block : (k : ℕ) → k ≤ length w.decisions → (x : ℕ) → get_or (block l k variable_limit) x 0 ≡ get_or (block l k (length w.declared)) x 0
  wide_block k low x = by_cases (dec_lt x (length w.declared)) inside outside
    where
      deep : k ≤ decision_limit
      deep = omega (arith, p.decisions)

      inside : x < length w.declared → get_or (block l k variable_limit) x 0 ≡ get_or (block l k (length w.declared)) x 0
      inside i = block_at l k variable_limit x (omega (arith, p.variables)) ∙ sym (block_at l k (length w.declared) x i)

      outside : ¬ (x < length w.declared) → get_or (block l k variable_limit) x 0 ≡ get_or (block l k (length w.declared)) x 0
      outside out =
          by_cases (dec_lt x variable_limit) (λ i. block_at l k variable_limit x i ∙ h.rest k x i (inl (omega arith)))
          (λ i. get_or-eq_default (block l k variable_limit) 0 {n = x} (omega (arith, block_length l k variable_limit h.whole deep (omega arith))))
          ∙ sym (get_or-eq_default (block l k (length w.declared)) 0 {n = x} (omega (arith, block_length l k (length w.declared) h.whole deep p.variables)))
