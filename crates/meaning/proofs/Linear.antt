-- Support in a linear rule: the value's term and the least sum of the others keep to the bound.
-- Assumes nothing.
use mathlib.Core.Path.{◌≡◌, refl, ap, sym, ◌∙◌}
use mathlib.Core.Logic.{◌↔◌}
use mathlib.Core.List.{List, [], ◌∷◌}
use Prim.Native.Nat.{ℕ, zero, suc, ◌<◌}
use native.Mathlib.Nat.{not-suc-le-zero, le_of_suc-le-suc}
use native.Mathlib.Omega.{arith}
use lib.Dec.{T, eqb→eq}
use lib.IntN.{ℤ, pos, ◌+ℤ◌, ◌*ℤ◌, +ℤ_assoc, +ℤ_comm}
use lib.Signed.{◌≤ℤ◌, ≤ℤ_refl}
use lib.ListN.{length, get_or, set}
use lib.Seq.{get_or-set_same}
use Rattle.meaning.specs.Values.{bit}
use Rattle.meaning.specs.Rules.{linear, sum}
use Rattle.meaning.specs.Lists.{Left, Supported}
use Rattle.meaning.specs.Proper.{Distinct}
use Rattle.meaning.proofs.Tests.{and_left, and_right, and_both, eq-eqb}
use Rattle.meaning.proofs.Whole.{≤ℤ_trans, +ℤ_mono}
use Rattle.meaning.proofs.Listed.{has, live}
use Rattle.meaning.proofs.Assignments.{tuple_iff, live_length}

-- ws has, for each term, a value left at which the term is least
abbrev pub Least : List ℕ → List ℕ → List ℤ → List ℕ → Type 0
Least L [] [] [] = Unit
Least L [] [] (w ∷ ws) = ⊥
Least L [] (c ∷ cs) ws = ⊥
Least L (x ∷ s) [] ws = ⊥
Least L (x ∷ s) (c ∷ cs) [] = ⊥
Least L (x ∷ s) (c ∷ cs) (w ∷ ws) =
    Left L x w × ((v : ℕ) → Left L x v → (c *ℤ pos w) ≤ℤ (c *ℤ pos v)) × Least L s cs ws

-- the sum of all terms but the j-th
unfoldable pub sum_but : ℕ → List ℤ → List ℕ → ℤ
sum_but j [] vs = pos 0
sum_but j (c ∷ cs) [] = pos 0
sum_but zero (c ∷ cs) (v ∷ vs) = sum cs vs
sum_but (suc j) (c ∷ cs) (v ∷ vs) = (c *ℤ pos v) +ℤ sum_but j cs vs

swap : (a b c : ℤ) → a +ℤ (b +ℤ c) ≡ b +ℤ (a +ℤ c)
swap a b c = sym (+ℤ_assoc a b c) ∙ ap (λ (z : ℤ). z +ℤ c) (+ℤ_comm a b) ∙ +ℤ_assoc b a c

pub sum_but_lem : (cs : List ℤ) (vs : List ℕ) (j : ℕ) → j < length cs → j < length vs
    → sum cs vs ≡ (get_or cs j (pos 0) *ℤ pos (get_or vs j 0)) +ℤ sum_but j cs vs
unfolding sum sum_but
sum_but_lem [] vs j h k = absurd (not-suc-le-zero h)
sum_but_lem (c ∷ cs) [] j h k = absurd (not-suc-le-zero k)
sum_but_lem (c ∷ cs) (v ∷ vs) zero h k = refl
sum_but_lem (c ∷ cs) (v ∷ vs) (suc j) h k =
    ap (λ (z : ℤ). (c *ℤ pos v) +ℤ z) (sum_but_lem cs vs j (le_of_suc-le-suc h) (le_of_suc-le-suc k))
    ∙ swap (c *ℤ pos v) (get_or cs j (pos 0) *ℤ pos (get_or vs j 0)) (sum_but j cs vs)

module _ (L : List ℕ) where
  least_le : (s : List ℕ) (cs : List ℤ) (ws t : List ℕ) → Least L s cs ws → T (live L s t) → sum cs ws ≤ℤ sum cs t
  unfolding sum
  least_le [] [] [] [] l h = ≤ℤ_refl (pos 0)
  least_le [] [] [] (v ∷ t) l h = absurd h
  least_le [] [] (w ∷ ws) t l h = absurd l
  least_le [] (c ∷ cs) ws t l h = absurd l
  least_le (x ∷ s) [] ws t l h = absurd l
  least_le (x ∷ s) (c ∷ cs) [] t l h = absurd l
  least_le (x ∷ s) (c ∷ cs) (w ∷ ws) [] l h = absurd h
  least_le (x ∷ s) (c ∷ cs) (w ∷ ws) (v ∷ t) l h =
      +ℤ_mono (c *ℤ pos w) (c *ℤ pos v) (sum cs ws) (sum cs t)
      (l.1 v (eqb→eq (bit (get_or L x 0) v) 1 (and_left (has (get_or L x 0) v) (live L s t) h)))
      (least_le s cs ws t l.2 (and_right (has (get_or L x 0) v) (live L s t) h))

  least_live : (s : List ℕ) (cs : List ℤ) (ws : List ℕ) → Least L s cs ws → T (live L s ws)
  least_live [] [] [] l = tt
  least_live [] [] (w ∷ ws) l = absurd l
  least_live [] (c ∷ cs) ws l = absurd l
  least_live (x ∷ s) [] ws l = absurd l
  least_live (x ∷ s) (c ∷ cs) [] l = absurd l
  least_live (x ∷ s) (c ∷ cs) (w ∷ ws) l =
      and_both (has (get_or L x 0) w) (live L s ws) (eq-eqb l.0) (least_live s cs ws l.2)

  -- the others' sum is least
  but_le : (s : List ℕ) (cs : List ℤ) (ws t : List ℕ) (j : ℕ) → Least L s cs ws → T (live L s t) → sum_but j cs ws ≤ℤ sum_but j cs t
  unfolding sum_but
  but_le [] [] [] [] j l h = ≤ℤ_refl (pos 0)
  but_le [] [] [] (v ∷ t) j l h = absurd h
  but_le [] [] (w ∷ ws) t j l h = absurd l
  but_le [] (c ∷ cs) ws t j l h = absurd l
  but_le (x ∷ s) [] ws t j l h = absurd l
  but_le (x ∷ s) (c ∷ cs) [] t j l h = absurd l
  but_le (x ∷ s) (c ∷ cs) (w ∷ ws) [] j l h = absurd h
  but_le (x ∷ s) (c ∷ cs) (w ∷ ws) (v ∷ t) zero l h =
      least_le s cs ws t l.2 (and_right (has (get_or L x 0) v) (live L s t) h)
  but_le (x ∷ s) (c ∷ cs) (w ∷ ws) (v ∷ t) (suc j) l h =
      +ℤ_mono (c *ℤ pos w) (c *ℤ pos v) (sum_but j cs ws) (sum_but j cs t)
      (l.1 v (eqb→eq (bit (get_or L x 0) v) 1 (and_left (has (get_or L x 0) v) (live L s t) h)))
      (but_le s cs ws t j l.2 (and_right (has (get_or L x 0) v) (live L s t) h))

set_live : (L s t : List ℕ) (j v : ℕ) → T (live L s t) → Left L (get_or s j 0) v → T (live L s (set t j v))
set_live L [] [] j v h k = tt
set_live L [] (w ∷ t) j v h k = absurd h
set_live L (x ∷ s) [] j v h k = absurd h
set_live L (x ∷ s) (w ∷ t) zero v h k =
    and_both (has (get_or L x 0) v) (live L s t) (eq-eqb k) (and_right (has (get_or L x 0) w) (live L s t) h)
set_live L (x ∷ s) (w ∷ t) (suc j) v h k =
    and_both (has (get_or L x 0) w) (live L s (set t j v)) (and_left (has (get_or L x 0) w) (live L s t) h)
    (set_live L s t j v (and_right (has (get_or L x 0) w) (live L s t) h) k)

sum_but_set : (cs : List ℤ) (vs : List ℕ) (j v : ℕ) → sum_but j cs (set vs j v) ≡ sum_but j cs vs
unfolding sum_but
sum_but_set [] vs j v = refl
sum_but_set (c ∷ cs) [] j v = refl
sum_but_set (c ∷ cs) (w ∷ vs) zero v = refl
sum_but_set (c ∷ cs) (w ∷ vs) (suc j) v = ap (λ (z : ℤ). (c *ℤ pos w) +ℤ z) (sum_but_set cs vs j v)

module _ (L s : List ℕ) (d : Distinct s) (j : ℕ) (inside : j < length s) (v : ℕ) (left : Left L (get_or s j 0) v) (cs : List ℤ) (b : ℤ)
    (long : length cs ≡ length s) (ws : List ℕ) (least : Least L s cs ws) where
  -- the sum of a tuple with v at place j
  sum_with : (t : List ℕ) → T (live L s t) → get_or t j 0 ≡ v → sum cs t ≡ (get_or cs j (pos 0) *ℤ pos v) +ℤ sum_but j cs t
  sum_with t h e =
      sum_but_lem cs t j (omega arith) (omega (arith, live_length L s t h)) ∙ ap (λ (n : ℕ). (get_or cs j (pos 0) *ℤ pos n) +ℤ sum_but j cs t) e

  pub linear_support : Supported L (linear s cs b) (get_or s j 0) v ↔ (((get_or cs j (pos 0) *ℤ pos v) +ℤ sum_but j cs ws) ≤ℤ b)
  linear_support = (there, back)
    where
      c : ℤ
      c = get_or cs j (pos 0) *ℤ pos v

      there : Supported L (linear s cs b) (get_or s j 0) v → (c +ℤ sum_but j cs ws) ≤ℤ b
      there w =
          let (t, h, e, k) = (tuple_iff L s d j inside v left (λ t. sum cs t ≤ℤ b)).0 (w.by, w.here, w.others, w.satisfied) in
          ≤ℤ_trans (c +ℤ sum_but j cs ws) (c +ℤ sum_but j cs t) b
          (+ℤ_mono c c (sum_but j cs ws) (sum_but j cs t) (≤ℤ_refl c) (but_le L s cs ws t j least h)) (rw (sum_with t h e) at k)

      back : (c +ℤ sum_but j cs ws) ≤ℤ b → Supported L (linear s cs b) (get_or s j 0) v
      back k =
          let h = least_live L s cs ws least in
          let g = set_live L s ws j v h left in
          let e = get_or-set_same ws j v 0 (omega (arith, live_length L s ws h)) in
          let w = (tuple_iff L s d j inside v left (λ t. sum cs t ≤ℤ b)).1
          (set ws j v, g, e, rw (sum_with (set ws j v) g e, sum_but_set cs ws j v) k) in
          record { by = w.0; here = w.1; others = w.2; satisfied = w.3 }
