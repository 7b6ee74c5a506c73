-- What cannot fail to be so. Numbers and lists that surely are equal are equal, so what they depend on need not be computed: it is enough
-- that it surely exists. Assumes nothing.
use mathlib.Core.Path.{◌≡◌, ap, subst}
use mathlib.Core.Logic.{◌⊎◌, inl, inr, ⊎_elim}
use mathlib.Core.List.{List, [], ◌∷◌}
use Prim.Native.Nat.{ℕ, zero, suc, ◌≤◌, ◌<◌}
use native.Mathlib.Nat.{le_refl}
use native.Mathlib.Omega.{arith}
use lib.ListN.{length}
use Rattle.meaning.specs.Order.{◌≺◌}

abbrev pub Surely : Type 0 → Type 0
Surely A = ¬ (¬ A)

pub known : {A : Type 0} → A → Surely A
known a n = n a

pub then : {A B : Type 0} → Surely A → (A → Surely B) → Surely B
then s f n = s (λ a. f a n)

pub either : (A : Type 0) → Surely (A ⊎ ¬ A)
either A n = n (inr (λ a. n (inl a)))

-- what is decided and surely so, is so
pub settled : {A : Type 0} → Dec A → Surely A → A
settled (yes a) s = a
settled (no n) s = absurd (s n)

-- ---- the least number, and the first list, with a property

least_number : (k : ℕ) (P : ℕ → Type 0) (x : ℕ) → x ≤ k → P x → Surely ((y : ℕ) × P y × ((z : ℕ) → z < y → ¬ P z))
least_number zero P x h p = known (x, p, λ z l q. omega arith)
least_number (suc k) P x h p =
    then (either ((z : ℕ) × (z < x) × P z))
    (⊎_elim (λ (z, l, q). least_number k P z (omega arith) q) (λ n. known (x, p, λ z l q. n (z, l, q))))

abbrev pub FirstOf : ℕ → (List ℕ → Type 0) → Type 0
FirstOf n P = (b : List ℕ) × (length b ≡ n) × P b × ((c : List ℕ) → length c ≡ n → P c → ¬ (c ≺ b))

pub first_of : (n : ℕ) (P : List ℕ → Type 0) (a : List ℕ) → length a ≡ n → P a → Surely (FirstOf n P)
first_of zero P [] e p = known ([], e, p, none)
  where
    none : (c : List ℕ) → length c ≡ 0 → P c → ¬ (c ≺ [])
    none [] l q h = h
    none (x ∷ c) l q h = h
first_of zero P (x ∷ a) e p = absurd (omega arith)
first_of (suc n) P [] e p = absurd (omega arith)
first_of (suc n) P (x ∷ a) e p =
    then (least_number x Heads x (le_refl x) (a, omega arith, p)) λ (y, (t, l, q), least).
    then (first_of n (λ s. P (y ∷ s)) t l q) λ (b, long, r, first).
    known (y ∷ b, ap suc long, r, none y b least first)
  where
    Heads : ℕ → Type 0
    Heads y = (t : List ℕ) × (length t ≡ n) × P (y ∷ t)

    none : (y : ℕ) (b : List ℕ) → ((z : ℕ) → z < y → ¬ Heads z) → ((s : List ℕ) → length s ≡ n → P (y ∷ s) → ¬ (s ≺ b))
        → (c : List ℕ) → length c ≡ suc n → P c → ¬ (c ≺ (y ∷ b))
    none y b least first [] l q h = h
    none y b least first (z ∷ c) l q (inl h) = least z h (c, omega arith, q)
    none y b least first (z ∷ c) l q (inr (same, h)) = first c (omega arith) (subst (λ (u : ℕ). P (u ∷ c)) same q) h
