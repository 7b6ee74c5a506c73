-- Blocks place by place, and what reading one gives. Assumes nothing.
use mathlib.Core.Path.{◌≡◌, sym, ap, ◌∙◌}
use mathlib.Core.Logic.{by_cases}
use mathlib.Core.List.{List, []}
use Prim.Native.Nat.{ℕ, ◌≤◌, ◌<◌}
use native.Mathlib.Decide.{dec_lt}
use native.Mathlib.Omega.{arith}
use lib.ListN.{length, get_or, get_or-eq_default}
use lib.Seq.{get_or-take, length-take-le, ext_get_or}
use Rattle.std.proofs.lemmas.List.{get_or_default}
use Rattle.meaning.specs.Limits.{variable_limit, decision_limit}
use Rattle.blocks.proofs.Copying.{zeros_at}
use Rattle.blocks.specs.Blocks.{block, empty_block, Whole, list_after, Copied}

pub block_at : (l : List (List ℕ)) (k n x : ℕ) → x < n → get_or (block l k n) x 0 ≡ list_after l k x
block_at l k n x h = get_or-take n (get_or l k []) x 0 h

pub block_length : (l : List (List ℕ)) (k n : ℕ) → Whole l → k ≤ decision_limit → n ≤ variable_limit → length (block l k n) ≡ n
block_length l k n whole h few = length-take-le n (get_or l k []) (omega (arith, whole.wide k h))

-- a copy, as the code makes it
pub copied : (l : List (List ℕ)) (k : ℕ) (r : List ℕ) → length r ≡ variable_limit → r ≡ get_or l k empty_block → Copied l k r
copied l k r long is = record { long = long; each = λ x. ap (λ (b : List ℕ). get_or b x 0) is ∙ same x }
  where
    same : (x : ℕ) → get_or (get_or l k empty_block) x 0 ≡ list_after l k x
    same x =
        by_cases (dec_lt k (length l)) (λ inside. ap (λ (b : List ℕ). get_or b x 0) (get_or_default l k empty_block [] inside))
        (λ out. ap (λ (b : List ℕ). get_or b x 0) (get_or-eq_default l empty_block {n = k} (omega arith)) ∙ zeros_at variable_limit x
        ∙ sym (ap (λ (b : List ℕ). get_or b x 0) (get_or-eq_default l [] {n = k} (omega arith))))

pub copied_is : {l : List (List ℕ)} {k : ℕ} {r : List ℕ} → Whole l → k ≤ decision_limit → Copied l k r → r ≡ block l k variable_limit
copied_is {l} {k} {r} whole few c =
    ext_get_or 0 r (block l k variable_limit) (c.long ∙ sym (block_length l k variable_limit whole few (omega arith)))
    (λ x i. c.each x ∙ sym (block_at l k variable_limit x (omega (arith, c.long))))
