-- Blocks written and emptied. Assumes nothing.
use mathlib.Core.Path.{◌≡◌, sym, ap, ◌∙◌}
use mathlib.Core.Logic.{by_cases}
use mathlib.Core.List.{List, [], ◌++◌, append-nil}
use Prim.Native.Nat.{ℕ, ◌+◌, ◌-◌, ◌≤◌, ◌<◌}
use native.Mathlib.Decide.{ℕ_discrete, dec_lt}
use native.Mathlib.Omega.{arith}
use lib.ListN.{length, get_or, set, take, drop, replicate, length-set, length-drop, length-append, length-replicate, get_or-append, get_or-replicate, get_or-eq_default}
use lib.Seq.{get_or-take, get_or-set_same, get_or-set_other, get_or-append_right, length-take-le, take_all}
use borrow.Rule.Slice.PartMut.{put_mid, mid_of}
use Rattle.std.proofs.lemmas.List.{drop_all}
use Rattle.meaning.specs.Limits.{variable_limit, decision_limit}
use Rattle.blocks.specs.Blocks.{block_count, Whole, empty_block, list_after, emptied_after, ClearedAfter}
use Rattle.blocks.proofs.Copying.{zeros_at}

-- ---- one block written

module _ (l : List (List ℕ)) (k : ℕ) (left : List ℕ) where
  -- the block that is written
  pub block_written : Whole l → k ≤ decision_limit → get_or (set l k left) k [] ≡ left
  block_written whole few = get_or-set_same l k left [] (omega (arith, whole.deep))

  -- the others stay
  pub block_stays : (j : ℕ) → ¬ (j ≡ k) → get_or (set l k left) j [] ≡ get_or l j []
  block_stays j other = get_or-set_other l k j left [] other

  pub whole_set : Whole l → length left ≡ variable_limit → Whole (set l k left)
  whole_set whole long = record {
    deep = length-set l k left ∙ whole.deep;
    wide = λ j few. by_cases (ℕ_discrete j k) (λ q. rw q (ap length (block_written whole (omega (arith, few))) ∙ long)) (λ other. ap length (block_stays j other) ∙ whole.wide j few);
  }

-- ---- the later blocks emptied

-- as the code empties them
pub emptied : (l : List (List ℕ)) (k : ℕ) {m : List (List ℕ)} → k < decision_limit → length l ≡ block_count
    → m ≡ replicate (length (mid_of (k + 1) (block_count - (k + 1)) l)) empty_block → ClearedAfter l k (put_mid (k + 1) (block_count - (k + 1)) l m)
emptied l k {m} few deep e =
    let n = block_count - (k + 1) in
    let size : length (mid_of (k + 1) n l) ≡ length l - (k + 1) = length-take-le n (drop (k + 1) l) (omega (arith, length-drop (k + 1) l)) ∙ omega arith in
    let none : drop n (drop (k + 1) l) ≡ [] = drop_all n (drop (k + 1) l) (omega (arith, length-drop (k + 1) l)) in
    ap (λ (r : List (List ℕ)). take (k + 1) l ++ (m ++ r)) none ∙ ap (λ (r : List (List ℕ)). take (k + 1) l ++ r) (append-nil m ∙ e ∙ ap (λ (j : ℕ). replicate j empty_block) size)

-- where there are none, nothing is done
pub nothing_past : (l : List (List ℕ)) (k : ℕ) → decision_limit ≤ k → length l ≡ block_count → ClearedAfter l k l
nothing_past l k deep long =
    let left : length l - (k + 1) ≡ 0 = omega arith in
    sym (ap (λ (j : ℕ). take (k + 1) l ++ replicate j empty_block) left ∙ append-nil (take (k + 1) l) ∙ take_all (k + 1) l (omega arith))

module _ (l : List (List ℕ)) (k : ℕ) (few : k < length l) where
  front : length (take (k + 1) l) ≡ k + 1
  front = length-take-le (k + 1) l (omega arith)

  -- the first ones stay
  pub emptied_stays : (j : ℕ) → j ≤ k → get_or (emptied_after l k) j [] ≡ get_or l j []
  emptied_stays j low =
      get_or-append (take (k + 1) l) (replicate (length l - (k + 1)) empty_block) [] j (omega (arith, front)) ∙ get_or-take (k + 1) l j [] (omega arith)

  -- the others are empty
  pub emptied_past : (j : ℕ) → k < j → j < length l → get_or (emptied_after l k) j [] ≡ empty_block
  emptied_past j high inside =
      get_or-append_right (take (k + 1) l) (replicate (length l - (k + 1)) empty_block) j [] (omega (arith, front))
      ∙ get_or-replicate (length l - (k + 1)) (j - length (take (k + 1) l)) empty_block [] (omega (arith, front))

  pub whole_emptied : Whole l → Whole (emptied_after l k)
  whole_emptied whole = record {
    deep = length-append (take (k + 1) l) (replicate (length l - (k + 1)) empty_block) ∙ omega (arith, front, whole.deep, length-replicate {A = List ℕ} (length l - (k + 1)) empty_block);
    wide = λ j h. by_cases (dec_lt k j) (λ high. ap length (emptied_past j high (omega (arith, whole.deep))) ∙ length-replicate {A = ℕ} variable_limit 0) (λ low. ap length (emptied_stays j (omega arith)) ∙ whole.wide j h);
  }

  pub none_after : (j x : ℕ) → k < j → list_after (emptied_after l k) j x ≡ 0
  none_after j x high =
      by_cases (dec_lt j (length l)) (λ inside. ap (λ (b : List ℕ). get_or b x 0) (emptied_past j high inside) ∙ zeros_at variable_limit x)
      (λ out. ap (λ (b : List ℕ). get_or b x 0) (get_or-eq_default (emptied_after l k) [] {n = j} (omega (arith, front, length-append (take (k + 1) l) (replicate (length l - (k + 1)) empty_block), length-replicate {A = List ℕ} (length l - (k + 1)) empty_block))))
