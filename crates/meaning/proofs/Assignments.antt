-- An assignment with given values on a scope, and live tuples as assignments within the lists.
-- Assumes nothing.
use mathlib.Core.Path.{◌≡◌, refl, ap, sym, ◌∙◌}
use mathlib.Core.Logic.{⊎_elim, ◌↔◌, ◌≢◌, by_cases}
use mathlib.Core.List.Memᴰ
use mathlib.Core.List.{List, [], ◌∷◌, Memᴰ}
use Prim.Native.Nat.{ℕ, zero, suc, ◌<◌}
use native.Mathlib.Nat.{not-suc-le-zero, le_of_suc-le-suc}
use native.Mathlib.Omega.{arith}
use native.Mathlib.Decide.{ℕ_discrete}
use lib.Dec.{T, eqb, eqb→eq}
use lib.ListN.{length, get_or}
use Rattle.meaning.specs.Values.{bit}
use Rattle.meaning.specs.Rules.{at, values_at}
use Rattle.meaning.specs.Lists.{Left}
use Rattle.meaning.specs.Proper.{Distinct}
use Rattle.meaning.proofs.Tests.{and_left, and_right, and_both, eq-eqb}
use Rattle.meaning.proofs.Listed.{has, live}
use Rattle.meaning.proofs.Solutions.{values_same}

-- the assignment with v at x, longer where it must be
put : ℕ → ℕ → List ℕ → List ℕ
put zero v [] = v ∷ []
put zero v (w ∷ a) = v ∷ a
put (suc x) v [] = 0 ∷ put x v []
put (suc x) v (w ∷ a) = w ∷ put x v a

put_same : (x v : ℕ) (a : List ℕ) → at (put x v a) x ≡ v
unfolding put
put_same zero v [] = refl
put_same zero v (w ∷ a) = refl
put_same (suc x) v [] = put_same x v []
put_same (suc x) v (w ∷ a) = put_same x v a

put_other : (x v : ℕ) (a : List ℕ) (y : ℕ) → y ≢ x → at (put x v a) y ≡ at a y
unfolding put
put_other zero v [] zero h = absurd (h refl)
put_other zero v [] (suc y) h = refl
put_other zero v (w ∷ a) zero h = absurd (h refl)
put_other zero v (w ∷ a) (suc y) h = refl
put_other (suc x) v [] zero h = refl
put_other (suc x) v [] (suc y) h = put_other x v [] y (λ e. h (ap suc e))
put_other (suc x) v (w ∷ a) zero h = refl
put_other (suc x) v (w ∷ a) (suc y) h = put_other x v a y (λ e. h (ap suc e))

fill : List ℕ → List ℕ → List ℕ
fill [] t = []
fill (x ∷ s) [] = []
fill (x ∷ s) (v ∷ t) = put x v (fill s t)

fill_values : (s t : List ℕ) → Distinct s → length s ≡ length t → values_at (fill s t) s ≡ t
unfolding fill
fill_values [] [] d e = refl
fill_values [] (v ∷ t) d e = absurd (omega arith)
fill_values (x ∷ s) [] d e = absurd (omega arith)
fill_values (x ∷ s) (v ∷ t) d e =
    let p = put_same x v (fill s t) in
    let q = values_same s (put x v (fill s t)) (fill s t) (λ y m. put_other x v (fill s t) y (λ e. d.0 (Memᴰ.cast (sym e) m))) in
    let r = fill_values s t d.1 (omega arith) in
    cc

pub values_at_lem : (s a : List ℕ) (j : ℕ) → j < length s → get_or (values_at a s) j 0 ≡ at a (get_or s j 0)
values_at_lem [] a j h = absurd (not-suc-le-zero h)
values_at_lem (x ∷ s) a zero h = refl
values_at_lem (x ∷ s) a (suc j) h = values_at_lem s a j (le_of_suc-le-suc h)

pub values_live : (L s a : List ℕ) → ((y : ℕ) → Memᴰ y s → Left L y (at a y)) → T (live L s (values_at a s))
values_live L [] a h = tt
values_live L (x ∷ s) a h =
    and_both (has (get_or L x 0) (at a x)) (live L s (values_at a s)) (eq-eqb (h x (Memᴰ.head refl)))
    (values_live L s a (λ y m. h y (Memᴰ.tail m)))

live_values : (L s a : List ℕ) → T (live L s (values_at a s)) → (y : ℕ) → Memᴰ y s → Left L y (at a y)
live_values L [] a h y m = absurd (Memᴰ.not-nil m)
live_values L (x ∷ s) a h y m =
    ⊎_elim
    (λ e. rw e (eqb→eq (bit (get_or L x 0) (at a x)) 1 (and_left (has (get_or L x 0) (at a x)) (live L s (values_at a s)) h)))
    (live_values L s a (and_right (has (get_or L x 0) (at a x)) (live L s (values_at a s)) h) y)
    (Memᴰ.cases_cons m)

pub live_length : (L s t : List ℕ) → T (live L s t) → length s ≡ length t
live_length L [] [] h = refl
live_length L [] (v ∷ t) h = absurd h
live_length L (x ∷ s) [] h = absurd h
live_length L (x ∷ s) (v ∷ t) h = ap suc (live_length L s t (and_right (has (get_or L x 0) v) (live L s t) h))

-- values left exist for the other variables, with v at the j-th, just if a live tuple has v at place j: whatever is asked of the values
module _ (L s : List ℕ) (d : Distinct s) (j : ℕ) (inside : j < length s) (v : ℕ) (left : Left L (get_or s j 0) v) where
  pub tuple_iff : (P : List ℕ → Type 0)
      → ((a : List ℕ) × (at a (get_or s j 0) ≡ v) × ((y : ℕ) → Memᴰ y s → ¬ (y ≡ get_or s j 0) → Left L y (at a y)) × P (values_at a s))
      ↔ ((t : List ℕ) × T (live L s t) × (get_or t j 0 ≡ v) × P t)
  tuple_iff P = (there, back)
    where
      there : (a : List ℕ) × (at a (get_or s j 0) ≡ v) × ((y : ℕ) → Memᴰ y s → ¬ (y ≡ get_or s j 0) → Left L y (at a y)) × P (values_at a s)
          → (t : List ℕ) × T (live L s t) × (get_or t j 0 ≡ v) × P t
      there w =
          let a = w.0 in
          let all : (y : ℕ) → Memᴰ y s → Left L y (at a y) =
          λ y m. by_cases (ℕ_discrete y (get_or s j 0)) (λ e. rw (e, w.1) left) (w.2 y m) in
          (values_at a s, values_live L s a all, values_at_lem s a j inside ∙ w.1, w.3)

      back : (t : List ℕ) × T (live L s t) × (get_or t j 0 ≡ v) × P t
          → (a : List ℕ) × (at a (get_or s j 0) ≡ v) × ((y : ℕ) → Memᴰ y s → ¬ (y ≡ get_or s j 0) → Left L y (at a y)) × P (values_at a s)
      back w =
          let a = fill s w.0 in
          let e : values_at a s ≡ w.0 = fill_values s w.0 d (live_length L s w.0 w.1) in (
            a,
            sym (values_at_lem s a j inside) ∙ ap (λ (t : List ℕ). get_or t j 0) e ∙ w.2,
            λ y m n. live_values L s a (rw e w.1) y m,
            rw e w.3,
          )
