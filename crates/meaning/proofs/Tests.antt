-- Boolean tests, taken apart and put together. Assumes nothing.
use mathlib.Core.Path.{◌≡◌, refl, ap, ◌∙◌, subst}
use mathlib.Core.Bool.{Bool, true, false, ◌&&◌, ◌||◌, or-true, true≢false}
use Prim.Native.Nat.{ℕ}
use lib.Dec.{T, eqb, eqb_refl}

pub and_left : (a b : Bool) → T (a && b) → T a
and_left true b t = tt
and_left false b t = t

pub and_right : (a b : Bool) → T (a && b) → T b
and_right true b t = t
and_right false b t = absurd t

pub and_both : (a b : Bool) → T a → T b → T (a && b)
and_both true b s t = t
and_both false b s t = s

pub or_left : (a b : Bool) → T a → T (a || b)
or_left true b t = t
or_left false b t = absurd t

pub or_right : (a b : Bool) → T b → T (a || b)
or_right true b t = tt
or_right false b t = t

pub eq-eqb : {x y : ℕ} → x ≡ y → T (eqb x y)
eq-eqb {x} e = subst (λ (z : ℕ). T (eqb x z)) e (eqb_refl x)

-- where neither holds
pub or_no : (a b : Bool) → (a || b) ≡ false → (a ≡ false) × (b ≡ false)
or_no true b e = absurd (true≢false e)
or_no false b e = (refl, e)

-- one of two holds, or neither
pub far_first : {a : Bool} (b : Bool) → a ≡ true → (a || b) ≡ true
far_first b e = ap (λ (c : Bool). c || b) e

pub far_then : (a : Bool) {b : Bool} → b ≡ true → (a || b) ≡ true
far_then a e = ap (λ (c : Bool). a || c) e ∙ or-true a

pub near_both : {a b : Bool} → a ≡ false → b ≡ false → (a || b) ≡ false
near_both e f = rw (e, f)
