-- Filtering by a table: what a pass over its tuples finds are just the values with support. Assumes nothing.
use mathlib.Core.Path.{◌≡◌, refl, sym, ap, ◌∙◌}
use mathlib.Core.Logic.{◌↔◌, by_cases}
use mathlib.Core.Bool.{true, true≢false, ◌&&◌}
use mathlib.Core.List.{List, Memᴰ}
use Prim.Native.Nat.{ℕ, ◌<◌}
use native.Mathlib.Decide.{dec_lt}
use native.Mathlib.Omega.{arith}
use borrow.Author.Tests.{lt-ltb, le-ltb}
use lib.Dec.{T, eqb, ltb, eqb→eq}
use lib.ListN.{length, get_or}
use Rattle.std.specs.List.{list_all}
use Rattle.std.proofs.lemmas.List.Folds.{list_all_at}
use Rattle.meaning.specs.Values.{Has}
use Rattle.meaning.specs.Rules.{allowed, forbidden}
use Rattle.meaning.specs.Lists.{Left, Supported}
use Rattle.meaning.specs.Proper.{Distinct}
use Rattle.meaning.proofs.Tests.{and_left, and_right, and_both, eq-eqb}
use Rattle.meaning.proofs.Digits.{has_small}
use Rattle.meaning.proofs.Counting.{one, one_le, count_some, count_le}
use Rattle.meaning.proofs.Listed.{live, live_with, product_but, Words}
use Rattle.meaning.proofs.Tables.{allowed_support, forbidden_support}
use Rattle.filters.specs.Filter.{Filtering}
use Rattle.filters.specs.Sifting.{Sifted}
use Rattle.filters.specs.Tables.{Gathered, Marked, ProductsOf, Counted, Fewer, cell, places}
use Rattle.filters.proofs.Places.{live_with_places, product_but_places}
use Rattle.filters.proofs.Sifting.{all_sifted, sifted_filtering}

-- some live tuple has v at place j just if their number is above 0
live_some : (L s : List ℕ) (j v : ℕ) (ts : List (List ℕ))
    → ((t : List ℕ) × T (live L s t) × (get_or t j 0 ≡ v) × Memᴰ t ts) ↔ (0 < live_with L s j v ts)
live_some L s j v ts = (
  λ w. some.0 (w.0, w.3, and_both (live L s w.0) (eqb (get_or w.0 j 0) v) w.1 (eq-eqb w.2)),
  λ h.
      let w = some.1 h in
      let e = eqb (get_or w.0 j 0) v in
      (w.0, and_left (live L s w.0) e w.2, eqb→eq (get_or w.0 j 0) v (and_right (live L s w.0) e w.2), w.1),
)
  where
    some : ((t : List ℕ) × Memᴰ t ts × T (live L s t && eqb (get_or t j 0) v)) ↔ (0 < live_with L s j v ts)
    some = count_some (λ t. live L s t && eqb (get_or t j 0) v) ts

-- a test passes just if it counts as 1
counts_one : (a b : ℕ) → (one (ltb a b) ≡ 1) ↔ (a < b)
counts_one a b =
    by_cases (dec_lt a b) (λ h. (λ e. h, λ k. ap one (lt-ltb a b h))) (λ d. (λ e. absurd (let z = ap one (le-ltb a b (omega arith)) in omega arith), λ k. absurd (d k)))

-- fewer tuples than each of the products
pub all_above : (k : ℕ) (masks ways : List ℕ) → ProductsOf masks ways → list_all (λ way. ltb k way) ways ≡ true → (j : ℕ) → j < length masks
    → k < product_but masks (places (length masks)) j
all_above k masks ways products e j h =
    let at = products.each j h in
    by_cases (dec_lt k (get_or ways j 0)) (λ l. omega (arith, at, l))
    (λ d. absurd (true≢false (sym e ∙ list_all_at (λ way. ltb k way) ways j 0 (omega (arith, products.long, h)) (le-ltb k (get_or ways j 0) (omega arith)))))

module _ (L s masks : List ℕ) (gathered : Gathered L s (length s) masks) (once : Distinct s) (ts : List (List ℕ)) where
  -- ---- allowed

  pub allowed_filtering : (marked K : List ℕ) (c : ℕ) → Marked masks (length s) ts marked → Sifted s (length s) (λ j v. Has (get_or marked j 0) v) L K c
      → Filtering (allowed s ts) L K c
  allowed_filtering marked K c marks sifted =
      sifted_filtering (allowed s ts) (λ j v. Has (get_or marked j 0) v) L K c (length s) refl sifted λ j v h left.
      let by = allowed_support L s once j h v left ts in
      let some = live_some L s j v ts in
      let same = live_with_places L s masks (length s) refl gathered j v ts in
      let mark = marks j h v in
      (λ w. let k = some.0 (by.0 w) in omega arith, λ b. by.1 (some.1 (omega arith)))

  -- ---- forbidden

  module _ (words : Words L) (distinct : Distinct ts) where
    -- v has support just if fewer live tuples have it than there are ways to choose the others
    fewer_support : (j : ℕ) → j < length s → (v : ℕ) → Left L (get_or s j 0) v
        → Supported L (forbidden s ts) (get_or s j 0) v ↔ (live_with masks (places (length s)) j v ts < product_but masks (places (length s)) j)
    fewer_support j h v left =
        let by = forbidden_support L s once j h v left ts words distinct in
        let same = live_with_places L s masks (length s) refl gathered j v ts in
        let but = product_but_places L s masks (length s) refl gathered j in
        (λ w. let k = by.0 w in omega arith, λ k. by.1 (omega arith))

    in_mask : (j : ℕ) → j < length s → (v : ℕ) → Left L (get_or s j 0) v → Has (get_or masks j 0) v
    in_mask j h v left = rw (gathered j h) left

    pub forbidden_nothing : ((j : ℕ) → j < length s → length ts < product_but masks (places (length s)) j) → Filtering (forbidden s ts) L L 0
    forbidden_nothing few =
        sifted_filtering (forbidden s ts) (λ j v. Unit {0}) L L 0 (length s) refl (all_sifted s (length s) (λ j v. Unit {0}) L (λ j h v l. tt)) λ j v h left.
        let most = count_le (λ t. live masks (places (length s)) t && eqb (get_or t j 0) v) ts in
        (λ w. tt, λ b. (fewer_support j h v left).1 (omega (arith, few j h)))

    pub forbidden_filtering : (counts rest K : List ℕ) (c : ℕ) → Counted masks (length s) ts counts → Fewer masks (length s) counts rest
        → Sifted s (length s) (λ j v. Has (get_or rest j 0) v) L K c → Filtering (forbidden s ts) L K c
    forbidden_filtering counts rest K c counted fewer sifted =
        sifted_filtering (forbidden s ts) (λ j v. Has (get_or rest j 0) v) L K c (length s) refl sifted λ j v h left.
        let by = fewer_support j h v left in
        let here = in_mask j h v left in
        let count = counted j h v (has_small (get_or L (get_or s j 0) 0) v (words (get_or s j 0)) left) in
        let digit = fewer j h v in
        let ways = product_but masks (places (length s)) j in
        let test = counts_one (get_or counts (cell j v) 0) ways in
        let small = one_le (ltb (get_or counts (cell j v) 0) ways) in
        (λ w. let l = test.1 (let k = by.0 w in omega arith) in omega arith, λ k. by.1 (let l = test.0 (omega arith) in omega arith))
