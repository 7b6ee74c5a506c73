-- A reading is a fault or something read, never both, and never two. Assumes nothing.
use mathlib.Core.Path.{◌≡◌, refl, ap}
use mathlib.Core.Bool.{Bool, true, false, true≢false}
use Prim.Native.Nat.{ℕ}
use Rattle.reading.specs.Reading.{Reading, fault, got, next}

abbrev pub fault_of : {A : Type 0} → Reading A → ℕ × ℕ
fault_of (fault number at) = (number, at)
fault_of (got x place) = (0, 0)

abbrev pub is_fault : {A : Type 0} → Reading A → Bool
is_fault (fault number at) = true
is_fault (got x place) = false

abbrev pub what_or : {A : Type 0} → A → Reading A → A
what_or other (fault number at) = other
what_or other (got x place) = x

abbrev pub place_or : {A : Type 0} → ℕ → Reading A → ℕ
place_or other (fault number at) = other
place_or other (got x place) = place

-- where the whole was read, its first part was, and the rest from there
pub split : {A B : Type 0} {y : B} {q : ℕ} (r : Reading A) (more : A → ℕ → Reading B) → next r more ≡ got y q → (x : A) × (p : ℕ) × (r ≡ got x p) × (more x p ≡ got y q)
split (fault n at) more e = absurd (true≢false (ap is_fault e))
split (got x p) more e = (x, p, refl, e)
