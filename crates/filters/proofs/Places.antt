-- The lists of a rule's variables side by side: masks, which are lists themselves for the variables 0 to n - 1. A tuple is as live,
-- and there are as many ways to choose values, among these as among those. Assumes nothing.
use mathlib.Core.Path.{◌≡◌, refl, sym, ap, ap₂, ◌∙◌}
use mathlib.Core.Logic.{by_cases}
use mathlib.Core.Bool.{Bool, true, false, ◌&&◌, and-false}
use mathlib.Core.List.{List, [], ◌∷◌, head-eq_of_cons-eq, tail-eq_of_cons-eq}
use Prim.Native.Nat.{ℕ, zero, suc, ◌*◌, ◌≤◌, ◌<◌}
use native.Mathlib.Decide.{dec_lt}
use native.Mathlib.Omega.{arith}
use lib.Dec.{eqb}
use borrow.Author.Tests.{eq-eqb, ne_eqb}
use lib.ListN.{length, get_or, take, length-append, length-map, get_or-append}
use lib.Seq.{ext_get_or, get_or_at, get_or-take, length-take-le}
use Rattle.meaning.specs.Values.{bit, size, Has, Lacks}
use Rattle.meaning.specs.Rules.{at, values_at}
use Rattle.meaning.proofs.Counting.{count_ext}
use Rattle.meaning.proofs.Listed.{has, live, live_with, product, product_but}
use Rattle.meaning.proofs.Assignments.{values_at_lem}
use Rattle.filters.specs.Tables.{Gathered, Products, ProductsOf, places}

-- ---- the places

pub places_long : (n : ℕ) → length (places n) ≡ n
unfolding places
places_long zero = refl
places_long (suc n) = omega (arith, length-append (places n) (n ∷ []), places_long n)

pub places_at : (n j : ℕ) → j < n → get_or (places n) j 0 ≡ j
unfolding places
places_at zero j h = absurd (omega arith)
places_at (suc n) j h =
    by_cases (dec_lt j n) (λ l. get_or-append (places n) (n ∷ []) 0 j (omega (arith, places_long n)) ∙ places_at n j l)
    (λ d. let e : n ≡ j = omega arith in get_or_at (places n) n [] 0 j (omega (arith, places_long n)) ∙ e)

-- ---- lists that are the same at each variable

live_same : (L M s u t : List ℕ) → values_at L s ≡ values_at M u → live L s t ≡ live M u t
live_same L M [] [] [] e = refl
live_same L M [] [] (v ∷ t) e = refl
live_same L M [] (y ∷ u) t e = absurd (omega (arith, ap length e))
live_same L M (x ∷ s) [] t e = absurd (omega (arith, ap length e))
live_same L M (x ∷ s) (y ∷ u) [] e = refl
live_same L M (x ∷ s) (y ∷ u) (v ∷ t) e =
    ap₂ ◌&&◌ (ap (λ (m : ℕ). has m v) (head-eq_of_cons-eq e)) (live_same L M s u t (tail-eq_of_cons-eq e))

product_same : (L M s u : List ℕ) → values_at L s ≡ values_at M u → product L s ≡ product M u
product_same L M [] [] e = refl
product_same L M [] (y ∷ u) e = absurd (omega (arith, ap length e))
product_same L M (x ∷ s) [] e = absurd (omega (arith, ap length e))
product_same L M (x ∷ s) (y ∷ u) e = ap₂ ◌*◌ (ap size (head-eq_of_cons-eq e)) (product_same L M s u (tail-eq_of_cons-eq e))

but_same : (L M s u : List ℕ) (j : ℕ) → values_at L s ≡ values_at M u → product_but L s j ≡ product_but M u j
but_same L M [] [] j e = refl
but_same L M [] (y ∷ u) j e = absurd (omega (arith, ap length e))
but_same L M (x ∷ s) [] j e = absurd (omega (arith, ap length e))
but_same L M (x ∷ s) (y ∷ u) zero e = product_same L M s u (tail-eq_of_cons-eq e)
but_same L M (x ∷ s) (y ∷ u) (suc j) e = ap₂ ◌*◌ (ap size (head-eq_of_cons-eq e)) (but_same L M s u j (tail-eq_of_cons-eq e))

module _ (L s masks : List ℕ) (n : ℕ) (long : length s ≡ n) (g : Gathered L s n masks) where
  side_by_side : values_at L s ≡ values_at masks (places n)
  side_by_side =
      ext_get_or 0 (values_at L s) (values_at masks (places n)) (omega (arith, length-map s (at L), length-map (places n) (at masks), places_long n)) λ j h.
      let l : j < n = omega (arith, length-map s (at L)) in
      values_at_lem s L j (omega arith) ∙ sym (g j l) ∙ sym (values_at_lem (places n) masks j (omega (arith, places_long n)) ∙ ap (at masks) (places_at n j l))

  pub live_with_places : (j v : ℕ) (ts : List (List ℕ)) → live_with L s j v ts ≡ live_with masks (places n) j v ts
  live_with_places j v ts =
      count_ext (λ t. live L s t && eqb (get_or t j 0) v) (λ t. live masks (places n) t && eqb (get_or t j 0) v) ts
      (λ t. ap (λ (b : Bool). b && eqb (get_or t j 0) v) (live_same L masks s (places n) t side_by_side))

  pub product_but_places : (j : ℕ) → product_but L s j ≡ product_but masks (places n) j
  product_but_places j = but_same L masks s (places n) j side_by_side

-- ---- a tuple that is live, and one that is not

live_yes : (L s t : List ℕ) → length s ≡ length t → ((j : ℕ) → j < length s → Has (get_or L (get_or s j 0) 0) (get_or t j 0)) → live L s t ≡ true
live_yes L [] [] e f = refl
live_yes L [] (v ∷ t) e f = absurd (omega arith)
live_yes L (x ∷ s) [] e f = absurd (omega arith)
live_yes L (x ∷ s) (v ∷ t) e f =
    rw (eq-eqb (bit (get_or L x 0) v) 1 (f 0 (omega arith))) (live_yes L s t (omega arith) (λ j h. f (suc j) (omega arith)))

live_no : (L s t : List ℕ) (j : ℕ) → j < length s → Lacks (get_or L (get_or s j 0) 0) (get_or t j 0) → live L s t ≡ false
live_no L [] t j h e = absurd (omega arith)
live_no L (x ∷ s) [] j h e = refl
live_no L (x ∷ s) (v ∷ t) zero h e = rw (ne_eqb (bit (get_or L x 0) v) 1 (λ q. omega arith)) refl
live_no L (x ∷ s) (v ∷ t) (suc j) h e = rw (live_no L s t j (omega arith) e) (and-false (has (get_or L x 0) v))

-- each of the first n values of a tuple is in its mask
abbrev pub In : List ℕ → List ℕ → ℕ → Type 0
In masks t n = (j : ℕ) → j < n → Has (get_or masks j 0) (get_or t j 0)

module _ (masks t : List ℕ) (n : ℕ) where
  pub tuple_live : length t ≡ n → In masks t n → live masks (places n) t ≡ true
  tuple_live long f =
      live_yes masks (places n) t (places_long n ∙ sym long) λ j h.
      let l : j < n = omega (arith, places_long n) in rw (places_at n j l) (f j l)

  pub tuple_dead : (j : ℕ) → j < n → Lacks (get_or masks j 0) (get_or t j 0) → live masks (places n) t ≡ false
  tuple_dead j h e = live_no masks (places n) t j (omega (arith, places_long n)) (rw (places_at n j h) e)

-- as many masks as there are variables
pub gathered_front : (L s masks : List ℕ) → Gathered L s (length s) masks → Gathered L s (length s) (take (length s) masks)
gathered_front L s masks g j h = get_or-take (length s) masks j 0 h ∙ g j h

-- as many products as there are masks
pub products_front : (masks ways : List ℕ) (n : ℕ) → length masks ≡ n → n ≤ length ways → Products masks (length masks) ways → ProductsOf masks (take n ways)
products_front masks ways n e h products =
    record {
      long = length-take-le n ways h ∙ sym e;
      each = λ j k. get_or-take n ways j 0 (omega (arith, e, k)) ∙ products j k;
    }
