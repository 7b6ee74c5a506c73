-- Support in a table: in an allowed table by a live tuple, in a forbidden one by counting.
-- Assumes nothing.
use mathlib.Core.Path.{◌≡◌}
use mathlib.Core.Logic.{◌↔◌}
use mathlib.Core.List.{List, Memᴰ}
use Prim.Native.Nat.{ℕ, ◌<◌}
use native.Mathlib.Omega.{arith}
use lib.Dec.{T}
use lib.ListN.{length, get_or, length-map}
use Rattle.meaning.specs.Limits.{value_limit}
use Rattle.meaning.specs.Rules.{allowed, forbidden}
use Rattle.meaning.specs.Lists.{Left, Supported}
use Rattle.meaning.specs.Proper.{Distinct}
use Rattle.meaning.proofs.Counting.{one}
use Rattle.meaning.proofs.Boxes.{in_box, other_sizes, hits, forbidden_law}
use Rattle.meaning.proofs.Listed.{below, listed, listed_distinct, live, live_is, listed_has, live_with, live_with_is, product_but, product_but_is, Words}
use Rattle.meaning.proofs.Assignments.{tuple_iff}

module _ (L s : List ℕ) (d : Distinct s) (j : ℕ) (inside : j < length s) (v : ℕ) (left : Left L (get_or s j 0) v) (ts : List (List ℕ)) where
  pub allowed_support : Supported L (allowed s ts) (get_or s j 0) v ↔ ((t : List ℕ) × T (live L s t) × (get_or t j 0 ≡ v) × Memᴰ t ts)
  allowed_support = (
    λ w. (tuple_iff L s d j inside v left (λ t. Memᴰ t ts)).0 (w.by, w.here, w.others, w.satisfied),
    λ t. let w = (tuple_iff L s d j inside v left (λ t. Memᴰ t ts)).1 t in record { by = w.0; here = w.1; others = w.2; satisfied = w.3 },
  )

  module _ (fit : Words L) (dt : Distinct ts) where
    same_tuples : ((t : List ℕ) × T (live L s t) × (get_or t j 0 ≡ v) × ¬ Memᴰ t ts) ↔ (live_with L s j v ts < product_but L s j)
    same_tuples = (
      λ w. same.0 (law.0 (w.0, rw (live_is L fit s w.0) w.1, w.2, w.3)),
      λ h. let w = law.1 (same.1 h) in (w.0, rw (live_is L fit s w.0) at w.1, w.2, w.3),
    )
      where
        law : ((t : List ℕ) × T (in_box (listed L s) t) × (get_or t j 0 ≡ v) × ¬ Memᴰ t ts) ↔ (hits (listed L s) j v ts < other_sizes (listed L s) j)
        law = forbidden_law (listed L s) j v ts (listed_distinct L s) dt
            (rw (length-map s (λ x. below value_limit (get_or L x 0))) inside) (listed_has L fit s j v inside left)

        same : (hits (listed L s) j v ts < other_sizes (listed L s) j) ↔ (live_with L s j v ts < product_but L s j)
        same =
            let p = live_with_is L fit s j v ts in
            let q = product_but_is L s j in
            (λ h. omega arith, λ h. omega arith)

    pub forbidden_support : Supported L (forbidden s ts) (get_or s j 0) v ↔ (live_with L s j v ts < product_but L s j)
    forbidden_support = (
      λ w. same_tuples.0 ((tuple_iff L s d j inside v left (λ t. ¬ Memᴰ t ts)).0 (w.by, w.here, w.others, w.satisfied)),
      λ h. let w = (tuple_iff L s d j inside v left (λ t. ¬ Memᴰ t ts)).1 (same_tuples.1 h) in record { by = w.0; here = w.1; others = w.2; satisfied = w.3 },
    )
