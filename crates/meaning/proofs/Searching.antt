-- Searches along a list, a step at a time: what the rest of the list says is what the whole list says. Assumes nothing.
use mathlib.Core.Path.{◌≡◌, refl, sym, ap, ap₂, ◌∙◌, subst}
use mathlib.Core.Bool.{Bool, true, false, ◌||◌, or-true}
use mathlib.Core.List.{List, [], ◌∷◌}
use Prim.Native.Nat.{ℕ, zero, suc, ◌+◌, ◌-◌, ◌*◌, ◌≤◌, ◌<◌}
use native.Mathlib.Nat.{add-zero, suc-mul}
use native.Mathlib.Omega.{arith}
use lib.ListN.{length, get_or, drop, length-drop}
use lib.Seq.{drop-drop, get_or-drop}
use Rattle.meaning.specs.Calls.{some, repeats}

-- f holds of a list where the test holds of it, or f of what is left after s elements; of fewer elements it doesn't hold
pub record Search {ℓ} {A : Type ℓ} (f test : List A → Bool) (s : ℕ) : Type ℓ where
  pub none : (l : List A) → length l < s → f l ≡ false
  pub more : (l : List A) → s ≤ length l → f l ≡ (test l || f (drop s l))

module _ {ℓ} {A : Type ℓ} {f test : List A → Bool} {s : ℕ} (by : Search f test s) (xs : List A) (i : ℕ) {w : Bool} (rest : f (drop i xs) ≡ w) where
  here : s ≤ length xs - i → (b : Bool) → test (drop i xs) ≡ b → (b || f (drop s (drop i xs))) ≡ w
  here h b e =
      sym (ap (λ (b : Bool). b || f (drop s (drop i xs))) e) ∙ sym (by.more (drop i xs) (omega (arith, length-drop i xs))) ∙ rest

  pub found : s ≤ length xs - i → test (drop i xs) ≡ true → true ≡ w
  found h e = here h true e

  pub passed : s ≤ length xs - i → test (drop i xs) ≡ false → f (drop (i + s) xs) ≡ w
  passed h e = ap f (sym (drop-drop s i xs)) ∙ here h false e

  pub missed : length xs - i < s → false ≡ w
  missed h = sym (by.none (drop i xs) (omega (arith, length-drop i xs))) ∙ rest

-- where it holds of the rest after some steps, it holds of the list
pub earlier {ℓ} : {A : Type ℓ} {f test : List A → Bool} {s : ℕ} → Search f test s → (steps : ℕ) (l : List A) → steps * s ≤ length l → f (drop (steps * s) l) ≡ true → f l ≡ true
earlier {f} {s} by zero l h e = let none : 0 * s ≡ 0 = omega arith in subst (λ (k : ℕ). f (drop k l) ≡ true) none e
earlier {f} {test} {s} by (suc n) l h e =
    let one_more : suc n * s ≡ s + n * s = omega (arith, suc-mul n s) in
    let later = earlier by n (drop s l) (omega (arith, length-drop s l)) (ap f (drop-drop (n * s) s l ∙ ap (λ (k : ℕ). drop k l) (sym one_more)) ∙ e) in
    by.more l (omega arith) ∙ ap (λ (b : Bool). test l || b) later ∙ or-true (test l)

-- ---- element by element

-- f holds of a list where the test holds of its first element and the others, or f of the others
pub record Steps {ℓ} {A : Type ℓ} (f : List A → Bool) (test : A → List A → Bool) : Type ℓ where
  pub none : f [] ≡ false
  pub more : (x : A) (l : List A) → f (x ∷ l) ≡ (test x l || f l)

pub some_steps {ℓ} : {A : Type ℓ} (p : A → Bool) → Steps (some p) (λ x l. p x)
unfolding some
some_steps p = record { none = refl; more = λ x l. refl }

pub repeats_steps {ℓ} : {A : Type ℓ} (eq : A → A → Bool) → Steps (repeats eq) (λ x l. some (eq x) l)
unfolding repeats
repeats_steps eq = record { none = refl; more = λ x l. refl }

module _ {ℓ} {A : Type ℓ} {f : List A → Bool} {test : A → List A → Bool} (by : Steps f test) (xs : List A) (d : A) where
  by_ones : Search f (λ l. test (get_or l 0 d) (drop 1 l)) 1
  by_ones = record { none = empty; more = step }
    where
      empty : (l : List A) → length l < 1 → f l ≡ false
      empty [] h = by.none
      empty (x ∷ l) h = absurd (omega arith)

      step : (l : List A) → 1 ≤ length l → f l ≡ (test (get_or l 0 d) (drop 1 l) || f (drop 1 l))
      step [] h = absurd (omega arith)
      step (x ∷ l) h = by.more x l

  module _ (i : ℕ) {w : Bool} (rest : f (drop i xs) ≡ w) where
    test_at : test (get_or (drop i xs) 0 d) (drop 1 (drop i xs)) ≡ test (get_or xs i d) (drop (i + 1) xs)
    test_at = ap₂ test (get_or-drop i xs 0 d ∙ ap (λ (k : ℕ). get_or xs k d) (add-zero i)) (drop-drop 1 i xs)

    pub found_at : i < length xs → test (get_or xs i d) (drop (i + 1) xs) ≡ true → true ≡ w
    found_at h e = found by_ones xs i rest (omega arith) (test_at ∙ e)

    pub passed_at : i < length xs → test (get_or xs i d) (drop (i + 1) xs) ≡ false → f (drop (i + 1) xs) ≡ w
    passed_at h e = passed by_ones xs i rest (omega arith) (test_at ∙ e)

    pub missed_at : length xs ≤ i → false ≡ w
    missed_at h = missed by_ones xs i rest (omega arith)
