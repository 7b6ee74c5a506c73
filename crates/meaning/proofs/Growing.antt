-- Tests on a list that no element fails: at each place, and with one element more at its end. Assumes nothing.
use mathlib.Core.Path.{◌≡◌, refl, sym, ap₂, ◌∙◌}
use mathlib.Core.Logic.{by_cases}
use mathlib.Core.Bool.{Bool, false, ◌&&◌}
use mathlib.Core.List.{List, [], ◌∷◌, ◌++◌}
use Prim.Native.Nat.{ℕ, zero, suc}
use native.Mathlib.Decide.{ℕ_discrete}
use borrow.Author.Tests.{eq-eqb, ne_eqb}
use lib.Dec.{eqb}
use lib.ListN.{get_or}
use Rattle.meaning.specs.Calls.{some, same, repeats}
use Rattle.meaning.proofs.Tests.{or_no, near_both}

module _ {ℓ} {A : Type ℓ} (p : A → Bool) where
  pub some_append : (xs ys : List A) → some p xs ≡ false → some p ys ≡ false → some p (xs ++ ys) ≡ false
  unfolding some
  some_append [] ys e f = f
  some_append (x ∷ xs) ys e f = let h = or_no (p x) (some p xs) e in near_both h.0 (some_append xs ys h.1 f)

  pub some_more : (xs : List A) (x : A) → some p xs ≡ false → p x ≡ false → some p (xs ++ (x ∷ [])) ≡ false
  unfolding some
  some_more xs x e f = some_append xs (x ∷ []) e (near_both f refl)

  -- past the end too, where the default passes
  pub some_at : (xs : List A) (d : A) → some p xs ≡ false → p d ≡ false → (i : ℕ) → p (get_or xs i d) ≡ false
  unfolding some
  some_at [] d e f i = f
  some_at (x ∷ xs) d e f zero = (or_no (p x) (some p xs) e).0
  some_at (x ∷ xs) d e f (suc i) = some_at xs d (or_no (p x) (some p xs) e).1 f i

-- one that none of the others is, where the test sees a pair either way round
pub repeats_more {ℓ} : {A : Type ℓ} (eq : A → A → Bool) → ((x y : A) → eq x y ≡ eq y x) → (xs : List A) (x : A) → repeats eq xs ≡ false → some (eq x) xs ≡ false
    → repeats eq (xs ++ (x ∷ [])) ≡ false
unfolding some repeats
repeats_more eq turns [] x e f = refl
repeats_more eq turns (y ∷ ys) x e f =
    let h = or_no (some (eq y) ys) (repeats eq ys) e in
    let k = or_no (eq x y) (some (eq x) ys) f in
    near_both (some_more (eq y) ys x h.0 (turns y x ∙ k.0)) (repeats_more eq turns ys x h.1 k.1)

pub eqb_turns : (x y : ℕ) → eqb x y ≡ eqb y x
eqb_turns x y =
    by_cases (ℕ_discrete x y) (λ e. eq-eqb x y e ∙ sym (eq-eqb y x (sym e))) (λ n. ne_eqb x y n ∙ sym (ne_eqb y x (λ e. n (sym e))))

pub same_turns : (u w : List ℕ) → same u w ≡ same w u
unfolding same
same_turns [] [] = refl
same_turns [] (y ∷ w) = refl
same_turns (x ∷ u) [] = refl
same_turns (x ∷ u) (y ∷ w) = ap₂ ◌&&◌ (eqb_turns x y) (same_turns u w)
