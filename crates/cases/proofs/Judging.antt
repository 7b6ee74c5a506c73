-- Rules, decisions and the order on profiles as tests, and what the tests say. Assumes nothing.
use mathlib.Core.Path.{◌≡◌, refl}
use mathlib.Core.Logic.{◌⊎◌, inl, inr, ◌↔◌}
use mathlib.Core.Bool.{Bool, true, false, not, ◌&&◌, ◌||◌}
use mathlib.Core.List.Memᴰ
use mathlib.Core.List.{List, [], ◌∷◌, Memᴰ}
use Prim.Native.Nat.{ℕ, ◌<◌}
use lib.Dec.{T, T_not, not_T, ltb, eqb, eqb→eq, ltb→lt, lt→ltb}
use lib.Signed.{le_z}
use Rattle.meaning.specs.Rules.{Rule, allowed, forbidden, linear, scope_of, sum, Satisfies, values_at}
use Rattle.meaning.specs.Order.{◌≺◌}
use Rattle.meaning.specs.Standing.{Decision, pinned, banned, Permits}
use Rattle.meaning.specs.Calls.{some, same}
use Rattle.meaning.proofs.Tests.{and_left, and_right, and_both, or_left, or_right, eq-eqb}
use Rattle.cases.proofs.Tests.{implies, implies_so, so_implies, some_in, in_some, same_says, says_same}

-- ---- rules

tuple_in : (t : List ℕ) (ts : List (List ℕ)) → T (some (same t) ts) ↔ Memᴰ t ts
tuple_in t ts = (
  λ h. let (u, m, e) = some_in (same t) ts h in Memᴰ.cast (same_says t u e) m,
  λ m. in_some (same t) ts t m (says_same {u = t} refl),
)

-- the rule is satisfied by the values t of its variables
unfoldable pub okay : Rule → List ℕ → Bool
okay (allowed s ts) t = some (same t) ts
okay (forbidden s ts) t = not (some (same t) ts)
okay (linear s cs b) t = le_z (sum cs t) b

pub okay_says : (r : Rule) (a : List ℕ) → T (okay r (values_at a (scope_of r))) ↔ Satisfies r a
unfolding okay
okay_says (allowed s ts) a = tuple_in (values_at a s) ts
okay_says (forbidden s ts) a =
    let e = tuple_in (values_at a s) ts in
    let b = some (same (values_at a s)) ts in
    (λ h m. T_not b h (e.1 m), λ h. not_T b (λ t. h (e.0 t)))
okay_says (linear s cs b) a = (λ t. record { le = t }, λ h. h.le)

-- ---- decisions

unfoldable pub permits : ℕ → ℕ → Decision → Bool
permits x v (pinned y u) = implies (eqb x y) (eqb v u)
permits x v (banned y u) = implies (eqb x y) (not (eqb v u))

pub permits_says : (x v : ℕ) (d : Decision) → T (permits x v d) ↔ Permits d x v
unfolding permits
permits_says x v (pinned y u) = (
  λ t e. eqb→eq v u (implies_so (eqb x y) (eqb v u) t (eq-eqb e)),
  λ f. so_implies (eqb x y) (eqb v u) (λ t. eq-eqb (f (eqb→eq x y t))),
)
permits_says x v (banned y u) = (
  λ t e q. T_not (eqb v u) (implies_so (eqb x y) (not (eqb v u)) t (eq-eqb e)) (eq-eqb q),
  λ f. so_implies (eqb x y) (not (eqb v u)) (λ t. not_T (eqb v u) (λ s. f (eqb→eq x y t) (eqb→eq v u s))),
)

-- ---- the order

unfoldable pub smaller : List ℕ → List ℕ → Bool
smaller [] w = false
smaller (x ∷ u) [] = false
smaller (x ∷ u) (y ∷ w) = ltb x y || (eqb x y && smaller u w)

pub smaller_says : (u w : List ℕ) → T (smaller u w) → u ≺ w
unfolding smaller
smaller_says [] w t = absurd t
smaller_says (x ∷ u) [] t = absurd t
smaller_says (x ∷ u) (y ∷ w) t = step (ltb x y) (ltb→lt x y) (smaller_says u w) t
  where
    step : (b : Bool) → (T b → x < y) → (T (smaller u w) → u ≺ w) → T (b || (eqb x y && smaller u w)) → (x < y) ⊎ ((x ≡ y) × (u ≺ w))
    step true f ih t = inl (f tt)
    step false f ih t = inr (eqb→eq x y (and_left (eqb x y) (smaller u w) t), ih (and_right (eqb x y) (smaller u w) t))

pub says_smaller : (u w : List ℕ) → u ≺ w → T (smaller u w)
unfolding smaller
says_smaller [] w h = absurd h
says_smaller (x ∷ u) [] h = absurd h
says_smaller (x ∷ u) (y ∷ w) (inl h) = or_left (ltb x y) (eqb x y && smaller u w) (lt→ltb x y h)
says_smaller (x ∷ u) (y ∷ w) (inr h) =
    or_right (ltb x y) (eqb x y && smaller u w) (and_both (eqb x y) (smaller u w) (eq-eqb h.0) (says_smaller u w h.1))
