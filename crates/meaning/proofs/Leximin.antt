-- The laws of the order on profiles: it is a strict order, total up to equal sorted vectors, and a Pareto improvement is better.
-- Assumes nothing.
use mathlib.Core.Path.{◌≡◌, refl, ap, sym, ◌∙◌}
use mathlib.Core.Logic.{◌⊎◌, inl, inr, ⊎_elim, ◌↔◌, ◌≢◌}
use mathlib.Core.List.{List, [], ◌∷◌}
use Prim.Native.Nat.{ℕ, zero, suc, ◌≤◌, ◌<◌}
use native.Mathlib.Nat.{not-suc-le-zero, le_of_suc-le-suc}
use native.Mathlib.Decide.{dec_lt}
use native.Mathlib.Omega.{arith}
use lib.ListN.{length, get_or}
use Rattle.meaning.specs.Order.{sorted, ◌≺◌, Better}
use Rattle.meaning.proofs.Sorting.{sorted_length, sum_of, sum_sorted}
use Rattle.meaning.proofs.Reach.{◌≼◌, sorted_≼}

-- ---- smaller at the first place where two vectors differ

pub ≺_trans : (u v w : List ℕ) → u ≺ v → v ≺ w → u ≺ w
≺_trans [] v w h k = h
≺_trans (x ∷ u) [] w h k = absurd h
≺_trans (x ∷ u) (y ∷ v) [] h k = absurd k
≺_trans (x ∷ u) (y ∷ v) (z ∷ w) (inl h) (inl k) = inl (omega arith)
≺_trans (x ∷ u) (y ∷ v) (z ∷ w) (inl h) (inr k) = inl (omega arith)
≺_trans (x ∷ u) (y ∷ v) (z ∷ w) (inr h) (inl k) = inl (omega arith)
≺_trans (x ∷ u) (y ∷ v) (z ∷ w) (inr h) (inr k) = inr (h.0 ∙ k.0, ≺_trans u v w h.1 k.1)

pub ≺_irrefl : (u : List ℕ) → ¬ (u ≺ u)
≺_irrefl [] h = h
≺_irrefl (x ∷ u) (inl h) = omega arith
≺_irrefl (x ∷ u) (inr h) = ≺_irrefl u h.1

pub ≺_asym : (u w : List ℕ) → u ≺ w → ¬ (w ≺ u)
≺_asym u w h k = ≺_irrefl u (≺_trans u w u h k)

-- smaller, equal or larger
pub ≺_tri : (u w : List ℕ) → length u ≡ length w → (u ≺ w) ⊎ ((u ≡ w) ⊎ (w ≺ u))
≺_tri [] [] e = inr (inl refl)
≺_tri [] (y ∷ w) e = absurd (omega arith)
≺_tri (x ∷ u) [] e = absurd (omega arith)
≺_tri (x ∷ u) (y ∷ w) e = step (dec_lt x y) (dec_lt y x) (≺_tri u w (omega arith))
  where
    below : x ≡ y → (u ≺ w) ⊎ ((u ≡ w) ⊎ (w ≺ u)) → ((x ∷ u) ≺ (y ∷ w)) ⊎ (((x ∷ u) ≡ (y ∷ w)) ⊎ ((y ∷ w) ≺ (x ∷ u)))
    below q (inl h) = inl (inr (q, h))
    below q (inr (inl h)) = inr (inl (cc))
    below q (inr (inr h)) = inr (inr (inr (sym q, h)))

    step : Dec (x < y) → Dec (y < x) → (u ≺ w) ⊎ ((u ≡ w) ⊎ (w ≺ u)) → ((x ∷ u) ≺ (y ∷ w)) ⊎ (((x ∷ u) ≡ (y ∷ w)) ⊎ ((y ∷ w) ≺ (x ∷ u)))
    step (yes h) d ih = inl (inl h)
    step (no h) (yes k) ih = inr (inr (inl k))
    step (no h) (no k) ih = below (omega arith) ih

-- smaller at place i, and the same before
abbrev pub SmallerAt : List ℕ → List ℕ → ℕ → Type 0
SmallerAt u w i = (i < length u) × (i < length w) × ((k : ℕ) → k < i → get_or u k 0 ≡ get_or w k 0) × (get_or u i 0 < get_or w i 0)

pub ≺_iff : (u w : List ℕ) → (u ≺ w) ↔ ((i : ℕ) × SmallerAt u w i)
≺_iff u w = (there u w, λ s. back u w s.0 s.1)
  where
    there : (u w : List ℕ) → u ≺ w → (i : ℕ) × SmallerAt u w i
    there [] w h = absurd h
    there (x ∷ u) [] h = absurd h
    there (x ∷ u) (y ∷ w) (inl h) = (0, (omega arith, omega arith, λ k l. absurd (omega arith), h))
    there (x ∷ u) (y ∷ w) (inr h) =
        let s = there u w h.1 in
        (suc s.0, (omega (arith, s.1.0), omega (arith, s.1.1), before h s.0 s.1.2, s.1.3))
      where
        before : (x ≡ y) × (u ≺ w) → (i : ℕ) → ((k : ℕ) → k < i → get_or u k 0 ≡ get_or w k 0)
            → (k : ℕ) → k < suc i → get_or (x ∷ u) k 0 ≡ get_or (y ∷ w) k 0
        before h i f zero l = h.0
        before h i f (suc k) l = f k (le_of_suc-le-suc l)

    back : (u w : List ℕ) (i : ℕ) → SmallerAt u w i → u ≺ w
    back [] w i s = absurd (not-suc-le-zero s.0)
    back (x ∷ u) [] i s = absurd (not-suc-le-zero s.1)
    back (x ∷ u) (y ∷ w) zero s = inl s.3
    back (x ∷ u) (y ∷ w) (suc i) s =
        inr (s.2 0 (omega arith), back u w i (le_of_suc-le-suc s.0, le_of_suc-le-suc s.1, λ k l. s.2 (suc k) (omega arith), s.3))

-- ---- better

-- two profiles of one length: one is better, or their sorted vectors are equal
pub better_tri : (u w : List ℕ) → length u ≡ length w → Better w u ⊎ ((sorted u ≡ sorted w) ⊎ Better u w)
better_tri u w e = ≺_tri (sorted u) (sorted w) (omega (arith, sorted_length u, sorted_length w))

pub better_trans : (u v w : List ℕ) → Better v u → Better w v → Better w u
better_trans u v w = ≺_trans (sorted u) (sorted v) (sorted w)

pub better_irrefl : (u : List ℕ) → ¬ Better u u
better_irrefl u = ≺_irrefl (sorted u)

pub better_asym : (u w : List ℕ) → Better w u → ¬ Better u w
better_asym u w = ≺_asym (sorted u) (sorted w)

-- equal sorted vectors are indifferent
pub tie_not_better : (u w : List ℕ) → sorted u ≡ sorted w → ¬ Better w u
tie_not_better u w e h = ≺_irrefl (sorted w) (rw e at h)

pub better_dec : (u w : List ℕ) → length u ≡ length w → Dec (Better w u)
better_dec u w e = step (better_tri u w e)
  where
    step : Better w u ⊎ ((sorted u ≡ sorted w) ⊎ Better u w) → Dec (Better w u)
    step (inl b) = yes b
    step (inr (inl t)) = no (tie_not_better u w t)
    step (inr (inr b)) = no (better_asym w u b)

-- ---- no Pareto improvement

-- place by place at most, and not less in all: the same
same_of_sum : (u w : List ℕ) → length u ≡ length w → u ≼ w → (sum_of u ≤ sum_of w) × (sum_of w ≤ sum_of u → u ≡ w)
same_of_sum [] [] e l = (omega arith, λ h. refl)
same_of_sum [] (y ∷ w) e l = absurd (omega arith)
same_of_sum (x ∷ u) [] e l = absurd (omega arith)
same_of_sum (x ∷ u) (y ∷ w) e l =
    let ih = same_of_sum u w (omega arith) (λ i. l (suc i)) in
    let h : x ≤ y = l 0 in (
      omega (arith, ih.0),
      λ k.
          let p : x ≡ y = omega (arith, ih.0) in
          let q : u ≡ w = ih.1 (omega arith) in
          cc,
    )

≼_not_≺ : (u w : List ℕ) → u ≼ w → ¬ (w ≺ u)
≼_not_≺ u [] l h = h
≼_not_≺ [] (y ∷ w) l h = h
≼_not_≺ (x ∷ u) (y ∷ w) l (inl h) = omega (arith, l 0)
≼_not_≺ (x ∷ u) (y ∷ w) l (inr h) = ≼_not_≺ u w (λ i. l (suc i)) h.1

-- place by place at most: smaller or the same
pub ≼_cases : (u w : List ℕ) → length u ≡ length w → u ≼ w → (u ≺ w) ⊎ (u ≡ w)
≼_cases u w e l = ⊎_elim inl (⊎_elim inr (λ h. absurd (≼_not_≺ u w l h))) (≺_tri u w e)

-- a profile that is at least another at every place, and not the same, is better
pub no_pareto : (u w : List ℕ) → length u ≡ length w → u ≼ w → u ≢ w → Better w u
no_pareto u w e l ne =
    ⊎_elim (λ h. h) (λ same. absurd (ne ((same_of_sum u w e l).1 (omega (arith, sum_sorted u, sum_sorted w, ap sum_of same)))))
    (≼_cases (sorted u) (sorted w) (omega (arith, sorted_length u, sorted_length w)) (sorted_≼ u w e l))
