-- The values of a set as a list, and the box of the values that lists leave to the variables of a scope.
-- Assumes nothing.
use mathlib.Core.Path.{◌≡◌, refl, ap, ap₂}
use mathlib.Core.Logic.{◌⊎◌, inl, inr, ⊎_elim}
use mathlib.Core.Bool.{Bool, true, false, cond, ◌&&◌}
use mathlib.Core.List.Memᴰ
use mathlib.Core.List.{List, [], ◌∷◌, map, Memᴰ}
use Prim.Native.Nat.{ℕ, zero, suc, ◌+◌, ◌*◌, ◌^◌, ◌<◌}
use native.Mathlib.Nat.{not-suc-le-zero, le_of_suc-le-suc}
use native.Mathlib.Omega.{arith}
use native.Mathlib.Decide.{ℕ_discrete}
use lib.Dec.{T, eqb, eqb→eq}
use lib.ListN.{length, get_or}
use Rattle.meaning.specs.Limits.{value_limit}
use Rattle.meaning.specs.Values.{bit, Has, Lacks, total, size}
use Rattle.meaning.specs.Lists.{Left}
use Rattle.meaning.specs.Proper.{Distinct}
use Rattle.meaning.proofs.Digits.{bit_cases, has_small}
use Rattle.meaning.proofs.Counting.{count, count_ext}
use Rattle.meaning.proofs.Tests.{eq-eqb}
use Rattle.meaning.proofs.Boxes.{among, among_mem, mem_among, in_box, box_size, other_sizes, hits, AllDistinct}

-- v is in m, as a test
abbrev pub has : ℕ → ℕ → Bool
has m v = eqb (bit m v) 1

-- the values below n that are in m
unfoldable pub below : ℕ → ℕ → List ℕ
below zero m = []
below (suc n) m = cond (has m n) (n ∷ below n m) (below n m)

below_in : (n m v : ℕ) → Memᴰ v (below n m) → (v < n) × Has m v
unfolding below
below_in zero m v h = absurd (Memᴰ.not-nil h)
below_in (suc n) m v h = step (has m n) (eqb→eq (bit m n) 1) (below_in n m v) h
  where
    later : (v < n) × Has m v → (v < suc n) × Has m v
    later w = (omega arith, w.1)

    step : (b : Bool) → (T b → Has m n) → (Memᴰ v (below n m) → (v < n) × Has m v)
        → Memᴰ v (cond b (n ∷ below n m) (below n m)) → (v < suc n) × Has m v
    step true e ih h = ⊎_elim (λ q. (omega arith, rw q (e tt))) (λ k. later (ih k)) (Memᴰ.cases_cons h)
    step false e ih h = later (ih h)

in_below : (n m v : ℕ) → v < n → Has m v → Memᴰ v (below n m)
unfolding below
in_below zero m v l h = absurd (omega arith)
in_below (suc n) m v l h = step (has m n) refl (ℕ_discrete v n) (in_below n m v)
  where
    step : (b : Bool) → has m n ≡ b → Dec (v ≡ n) → (v < n → Has m v → Memᴰ v (below n m)) → Memᴰ v (cond b (n ∷ below n m) (below n m))
    step true e (yes q) ih = Memᴰ.head q
    step false e (yes q) ih = absurd (rw e at (eq-eqb (rw q at h)))
    step true e (no d) ih = Memᴰ.tail (ih (omega arith) h)
    step false e (no d) ih = ih (omega arith) h

below_distinct : (n m : ℕ) → Distinct (below n m)
unfolding below
below_distinct zero m = tt
below_distinct (suc n) m = step (has m n) (below_distinct n m)
  where
    step : (b : Bool) → Distinct (below n m) → Distinct (cond b (n ∷ below n m) (below n m))
    step true ih = (λ h. omega (arith, (below_in n m n h).0), ih)
    step false ih = ih

below_length : (n m : ℕ) → length (below n m) ≡ total (bit m) n
unfolding below total
below_length zero m = refl
below_length (suc n) m = step (bit_cases m n) (below_length n m)
  where
    step : Lacks m n ⊎ Has m n → length (below n m) ≡ total (bit m) n → length (cond (has m n) (n ∷ below n m) (below n m)) ≡ total (bit m) n + bit m n
    step (inl e) ih = rw e (omega arith)
    step (inr e) ih = rw e (omega arith)

-- the values left to each variable of a scope
abbrev pub listed : List ℕ → List ℕ → List (List ℕ)
listed L s = map (λ x. below value_limit (get_or L x 0)) s

pub listed_distinct : (L s : List ℕ) → AllDistinct (listed L s)
listed_distinct L [] = tt
listed_distinct L (x ∷ s) = (below_distinct value_limit (get_or L x 0), listed_distinct L s)

-- ---- the same, as the code asks and counts

-- each value of the tuple is left to its variable
abbrev pub live : List ℕ → List ℕ → List ℕ → Bool
live L [] [] = true
live L [] (v ∷ t) = false
live L (x ∷ s) [] = false
live L (x ∷ s) (v ∷ t) = has (get_or L x 0) v && live L s t

-- how many tuples are live and have v at place j
abbrev pub live_with : List ℕ → List ℕ → ℕ → ℕ → List (List ℕ) → ℕ
live_with L s j v ts = count (λ t. live L s t && eqb (get_or t j 0) v) ts

-- the product of the sizes of all lists, and of all but the j-th
abbrev pub product : List ℕ → List ℕ → ℕ
product L [] = 1
product L (x ∷ s) = size (get_or L x 0) * product L s

abbrev pub product_but : List ℕ → List ℕ → ℕ → ℕ
product_but L [] j = 1
product_but L (x ∷ s) zero = product L s
product_but L (x ∷ s) (suc j) = size (get_or L x 0) * product_but L s j

-- tests that hold together are the same
pub test_same : (a b : Bool) → (T a → T b) → (T b → T a) → a ≡ b
test_same true true f g = refl
test_same true false f g = absurd (f tt)
test_same false true f g = absurd (g tt)
test_same false false f g = refl

-- lists of values below 64
abbrev pub Words : List ℕ → Type 0
Words L = (x : ℕ) → get_or L x 0 < 2 ^ value_limit

module _ (L : List ℕ) (fit : Words L) where
  among_has : (x v : ℕ) → among (below value_limit (get_or L x 0)) v ≡ has (get_or L x 0) v
  among_has x v =
      let m = get_or L x 0 in
      test_same (among (below value_limit m) v) (has m v)
      (λ t. eq-eqb (below_in value_limit m v (among_mem (below value_limit m) v t)).1)
      (λ t. let h = eqb→eq (bit m v) 1 t in mem_among (in_below value_limit m v (has_small m v (fit x) h) h))

  pub live_is : (s t : List ℕ) → in_box (listed L s) t ≡ live L s t
  live_is [] [] = refl
  live_is [] (v ∷ t) = refl
  live_is (x ∷ s) [] = refl
  live_is (x ∷ s) (v ∷ t) = ap₂ ◌&&◌ (among_has x v) (live_is s t)

  pub listed_has : (s : List ℕ) (j v : ℕ) → j < length s → Left L (get_or s j 0) v → T (among (get_or (listed L s) j []) v)
  listed_has [] j v h t = absurd (not-suc-le-zero h)
  listed_has (x ∷ s) zero v h t = rw (among_has x v) (eq-eqb t)
  listed_has (x ∷ s) (suc j) v h t = listed_has s j v (le_of_suc-le-suc h) t

  pub live_with_is : (s : List ℕ) (j v : ℕ) (ts : List (List ℕ)) → hits (listed L s) j v ts ≡ live_with L s j v ts
  live_with_is s j v ts =
      count_ext (λ t. in_box (listed L s) t && eqb (get_or t j 0) v) (λ t. live L s t && eqb (get_or t j 0) v) ts
      (λ t. ap (λ (b : Bool). b && eqb (get_or t j 0) v) (live_is s t))

pub product_is : (L s : List ℕ) → box_size (listed L s) ≡ product L s
product_is L [] = refl
product_is L (x ∷ s) = ap₂ ◌*◌ (below_length value_limit (get_or L x 0)) (product_is L s)

pub product_but_is : (L s : List ℕ) (j : ℕ) → other_sizes (listed L s) j ≡ product_but L s j
product_but_is L [] j = refl
product_but_is L (x ∷ s) zero = product_is L s
product_but_is L (x ∷ s) (suc j) = ap₂ ◌*◌ (below_length value_limit (get_or L x 0)) (product_but_is L s j)
