-- What is kept in buffers of numbers: bounds, and zeros behind what is filled. Assumes nothing.
use mathlib.Core.Path.{ap, ◌∙◌, subst⁻¹}
use mathlib.Core.Logic.{by_cases}
use mathlib.Core.List.{List}
use Prim.Native.Nat.{ℕ, zero, suc, ◌<◌}
use native.Mathlib.Decide.{ℕ_discrete}
use lib.ListN.{length, get_or, set, replicate, take}
use lib.Seq.{get_or-set_same, get_or-set_other}
use Rattle.wcsp.specs.Steps.{Under}

pub under_zeros : (k m n : ℕ) → 0 < k → Under k (take m (replicate n 0))
under_zeros k zero n h i = h
under_zeros k (suc m) zero h i = h
under_zeros k (suc m) (suc n) h zero = h
under_zeros k (suc m) (suc n) h (suc i) = under_zeros k m n h i

pub under_set : {k : ℕ} (l : List ℕ) (j v : ℕ) → Under k l → v < k → j < length l → Under k (set l j v)
under_set {k} l j v u h inside i =
    by_cases (ℕ_discrete i j)
    (λ e. subst⁻¹ (λ (n : ℕ). n < k) (ap (λ (m : ℕ). get_or (set l j v) m 0) e ∙ get_or-set_same l j v 0 inside) h)
    (λ d. subst⁻¹ (λ (n : ℕ). n < k) (get_or-set_other l j i v 0 d) (u i))
