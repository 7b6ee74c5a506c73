-- How many elements of a list pass a test.
-- Assumes nothing.
use mathlib.Core.Path.{◌≡◌, refl, ap}
use mathlib.Core.Logic.{◌↔◌}
use mathlib.Core.Bool.{Bool, true, false}
use mathlib.Core.List.{List, [], ◌∷◌, ◌++◌, Memᴰ}
use Prim.Native.Nat.{ℕ, suc, ◌+◌, ◌≤◌, ◌<◌}
use native.Mathlib.Numerals.{add-one}
use native.Mathlib.Omega.{arith}
use borrow.Author.Tests.{le-leb, lt-leb}
use lib.Dec.{T, leb, leb→le}
use lib.ListN.{length, get_or, take}
use lib.Seq.{take-suc}

-- 1 where the test passes
abbrev pub one : Bool → ℕ
one true = 1
one false = 0

abbrev pub count {ℓ} : {A : Type ℓ} → (A → Bool) → List A → ℕ
count p [] = 0
count p (x ∷ xs) = one (p x) + count p xs

-- how many elements of u are at least y
abbrev pub reach : ℕ → List ℕ → ℕ
reach y u = count (leb y) u

pub one_le : (b : Bool) → one b ≤ 1
one_le true = omega arith
one_le false = omega arith

pub one_yes : (b : Bool) → T b → one b ≡ 1
one_yes true h = refl
one_yes false h = absurd h

module _ {ℓ} {A : Type ℓ} (p : A → Bool) where
  pub count_append : (u w : List A) → count p (u ++ w) ≡ count p u + count p w
  count_append [] w = omega arith
  count_append (x ∷ u) w = omega (arith, count_append u w)

  pub count_le : (u : List A) → count p u ≤ length u
  count_le [] = omega arith
  count_le (x ∷ u) = omega (arith, count_le u, one_le (p x))

  -- one element more
  pub count_take : (u : List A) (i : ℕ) (d : A) → i < length u → count p (take (i + 1) u) ≡ count p (take i u) + one (p (get_or u i d))
  count_take u i d h = rw (add-one, take-suc u i d h, count_append) (omega arith)

  -- some element passes just if the count is above 0
  pub count_some : (u : List A) → ((x : A) × Memᴰ x u × T (p x)) ↔ (0 < count p u)
  count_some u = (λ w. there w.1 w.2, back u)
    where
      there : {x : A} {u : List A} → Memᴰ x u → T (p x) → 0 < count p u
      there (Memᴰ.head {x = y} e) t = omega (arith, one_yes (p y) (rw e at t))
      there (Memᴰ.tail m) t = omega (arith, there m t)

      back : (u : List A) → 0 < count p u → (x : A) × Memᴰ x u × T (p x)
      back [] h = absurd (omega arith)
      back (x ∷ u) h = step (p x) refl (back u) h
        where
          step : (b : Bool) → p x ≡ b → (0 < count p u → (z : A) × Memᴰ z u × T (p z)) → 0 < one b + count p u
              → (z : A) × Memᴰ z (x ∷ u) × T (p z)
          step true e ih h = (x, Memᴰ.head refl, rw e tt)
          step false e ih h = let (z, m, t) = ih (omega arith) in (z, Memᴰ.tail m, t)

pub count_ext {ℓ} : {A : Type ℓ} (p q : A → Bool) (u : List A) → ((x : A) → p x ≡ q x) → count p u ≡ count q u
count_ext p q [] h = refl
count_ext p q (x ∷ u) h = rw (h x, count_ext p q u h)

-- ---- at least y

pub reach_yes : (y : ℕ) (u : List ℕ) (i : ℕ) → i < length u → y ≤ get_or u i 0 → reach y (take (i + 1) u) ≡ reach y (take i u) + 1
reach_yes y u i h l = omega (arith, count_take (leb y) u i 0 h, ap one (le-leb y (get_or u i 0) l))

pub reach_no : (y : ℕ) (u : List ℕ) (i : ℕ) → i < length u → get_or u i 0 < y → reach y (take (i + 1) u) ≡ reach y (take i u)
reach_no y u i h l = omega (arith, count_take (leb y) u i 0 h, ap one (lt-leb y (get_or u i 0) l))

-- none reaches y where all stay below it
pub reach_none : (y : ℕ) (u : List ℕ) → ((i : ℕ) → get_or u i 0 < y) → reach y u ≡ 0
reach_none y [] h = refl
reach_none y (x ∷ u) h = step (leb y x) (leb→le y x) (reach_none y u (λ i. h (suc i)))
  where
    step : (b : Bool) → (T b → y ≤ x) → reach y u ≡ 0 → one b + reach y u ≡ 0
    step true f ih = let l = f tt in absurd (omega (arith, h 0))
    step false f ih = omega arith
