-- Tests over lists and over boxes of tuples. Assumes nothing.
use mathlib.Core.Path.{◌≡◌, refl, sym, subst}
use mathlib.Core.Logic.{⊎_elim}
use mathlib.Core.Bool.{Bool, true, false, not, ◌&&◌, ◌||◌}
use mathlib.Core.List.Memᴰ
use mathlib.Core.List.{List, [], ◌∷◌, Memᴰ}
use Prim.Native.Nat.{ℕ}
use lib.Dec.{T, eqb, eqb→eq}
use Rattle.meaning.specs.Calls.{some, same}
use Rattle.meaning.proofs.Tests.{and_left, and_right, and_both, or_left, or_right}
use Rattle.meaning.proofs.Proper.{same_own}
use Rattle.meaning.proofs.Boxes.{among, among_mem, mem_among, in_box}

abbrev pub implies : Bool → Bool → Bool
implies a b = not a || b

pub implies_so : (a b : Bool) → T (implies a b) → T a → T b
implies_so true b t s = t
implies_so false b t s = absurd s

pub so_implies : (a b : Bool) → (T a → T b) → T (implies a b)
so_implies true b f = f tt
so_implies false b f = tt

pub not_implies : (a b : Bool) → ¬ T (implies a b) → T a × (¬ T b)
not_implies true b f = (tt, f)
not_implies false b f = absurd (f tt)

-- ---- some and all of a list

pub some_in {ℓ} : {A : Type ℓ} (p : A → Bool) (xs : List A) → T (some p xs) → (x : A) × Memᴰ x xs × T (p x)
unfolding some
some_in p [] t = absurd t
some_in {A} p (x ∷ xs) t = step (p x) (λ s. s) (some_in p xs) t
  where
    step : (b : Bool) → (T b → T (p x)) → (T (some p xs) → (y : A) × Memᴰ y xs × T (p y)) → T (b || some p xs)
        → (y : A) × Memᴰ y (x ∷ xs) × T (p y)
    step true f ih t = (x, Memᴰ.head refl, f tt)
    step false f ih t = let w = ih t in (w.0, Memᴰ.tail w.1, w.2)

pub in_some {ℓ} : {A : Type ℓ} (p : A → Bool) (xs : List A) (x : A) → Memᴰ x xs → T (p x) → T (some p xs)
unfolding some
in_some p [] x m t = absurd (Memᴰ.not-nil m)
in_some p (y ∷ ys) x m t =
    ⊎_elim (λ e. or_left (p y) (some p ys) (subst (λ z. T (p z)) e t)) (λ k. or_right (p y) (some p ys) (in_some p ys x k t))
    (Memᴰ.cases_cons m)

unfoldable pub every {ℓ} : {A : Type ℓ} → (A → Bool) → List A → Bool
every p [] = true
every p (x ∷ xs) = p x && every p xs

pub every_at {ℓ} : {A : Type ℓ} (p : A → Bool) (xs : List A) → T (every p xs) → (x : A) → Memᴰ x xs → T (p x)
unfolding every
every_at p [] t x m = absurd (Memᴰ.not-nil m)
every_at p (y ∷ ys) t x m =
    ⊎_elim (λ e. subst (λ z. T (p z)) (sym e) (and_left (p y) (every p ys) t)) (every_at p ys (and_right (p y) (every p ys) t) x)
    (Memᴰ.cases_cons m)

pub all_every {ℓ} : {A : Type ℓ} (p : A → Bool) (xs : List A) → ((x : A) → Memᴰ x xs → T (p x)) → T (every p xs)
unfolding every
all_every p [] f = tt
all_every p (x ∷ xs) f = and_both (p x) (every p xs) (f x (Memᴰ.head refl)) (all_every p xs (λ y m. f y (Memᴰ.tail m)))

-- one of the list fails
pub not_every {ℓ} : {A : Type ℓ} (p : A → Bool) (xs : List A) → ¬ T (every p xs) → (x : A) × Memᴰ x xs × (¬ T (p x))
unfolding every
not_every p [] f = absurd (f tt)
not_every {A} p (x ∷ xs) f = step (p x) refl (not_every p xs)
  where
    step : (b : Bool) → p x ≡ b → (¬ T (every p xs) → (y : A) × Memᴰ y xs × (¬ T (p y))) → (y : A) × Memᴰ y (x ∷ xs) × (¬ T (p y))
    step true e ih = let w = ih (λ t. f (rw e t)) in (w.0, Memᴰ.tail w.1, w.2)
    step false e ih = (x, Memᴰ.head refl, λ t. rw e at t)

-- ---- lists that are the same

pub same_says : (u w : List ℕ) → T (same u w) → u ≡ w
unfolding same
same_says [] [] t = refl
same_says [] (y ∷ w) t = absurd t
same_says (x ∷ u) [] t = absurd t
same_says (x ∷ u) (y ∷ w) t =
    let p = eqb→eq x y (and_left (eqb x y) (same u w) t) in
    let q = same_says u w (and_right (eqb x y) (same u w) t) in
    cc

pub says_same : {u w : List ℕ} → u ≡ w → T (same u w)
says_same {u} {w} e = rw (e, same_own w) tt

-- ---- some tuple of a box

unfoldable pub some_in_box : List (List ℕ) → (List ℕ → Bool) → Bool
some_in_box [] p = p []
some_in_box (d ∷ ds) p = some (λ v. some_in_box ds (λ t. p (v ∷ t))) d

pub found : (ds : List (List ℕ)) (p : List ℕ → Bool) → T (some_in_box ds p) → (t : List ℕ) × T (in_box ds t) × T (p t)
unfolding some_in_box
found [] p h = ([], tt, h)
found (d ∷ ds) p h =
    let (v, m, k) = some_in (λ v. some_in_box ds (λ t. p (v ∷ t))) d h in
    let (t, b, q) = found ds (λ t. p (v ∷ t)) k in
    (v ∷ t, and_both (among d v) (in_box ds t) (mem_among m) b, q)

pub finds : (ds : List (List ℕ)) (p : List ℕ → Bool) (t : List ℕ) → T (in_box ds t) → T (p t) → T (some_in_box ds p)
unfolding some_in_box
finds [] p [] b q = q
finds [] p (v ∷ t) b q = absurd b
finds (d ∷ ds) p [] b q = absurd b
finds (d ∷ ds) p (v ∷ t) b q =
    in_some (λ v. some_in_box ds (λ t. p (v ∷ t))) d v (among_mem d v (and_left (among d v) (in_box ds t) b))
    (finds ds (λ t. p (v ∷ t)) t (and_right (among d v) (in_box ds t) b) q)
