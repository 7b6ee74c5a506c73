-- Algorithm 4 of document 000: the vector found place by place is the sorted vector of the best solutions.
-- Assumes nothing.
use mathlib.Core.Path.{◌≡◌, refl, sym, ◌∙◌, subst}
use mathlib.Core.Logic.{inl, inr, ⊎_elim, ◌↔◌, by_cases}
use mathlib.Core.List.{List, [], ◌∷◌, ◌++◌}
use Prim.Native.Nat.{ℕ, zero, suc, ◌-◌, ◌≤◌, ◌<◌}
use native.Mathlib.Omega.{arith}
use native.Mathlib.Decide.{dec_lt}
use lib.ListN.{length, get_or, take, length-append, length-map, get_or-append, get_or-eq_default}
use lib.Seq.{take-append-le, take_at, get_or_at, length-take-le}
use Rattle.meaning.specs.Rules.{at}
use Rattle.meaning.specs.Order.{sorted, ◌≺◌, Better}
use Rattle.meaning.specs.Standing.{Standing}
use Rattle.meaning.specs.Solutions.{Solution, Answer, profile}
use Rattle.meaning.proofs.Counting.{reach}
use Rattle.meaning.proofs.Sorting.{sorted_length}
use Rattle.meaning.proofs.Reach.{◌≼◌, place_iff}
use Rattle.meaning.proofs.Leximin.{≼_cases, better_tri}

-- The profile reaches the thresholds p: of its n objectives at least n − i reach p_i, counted from 0.
abbrev pub Reaches : List ℕ → List ℕ → Type 0
Reaches p u = (i : ℕ) → i < length p → length u - i ≤ reach (get_or p i 0) u

-- its sorted vector is at least p, place by place
pub reaches_iff : (p u : List ℕ) → length p ≤ length u → Reaches p u ↔ (p ≼ sorted u)
reaches_iff p u short = (
  λ r i. by_cases (dec_lt i (length p)) (λ h. (place_iff u i (get_or p i 0) (omega arith)).1 (r i h))
      (λ h. omega (arith, get_or-eq_default p 0 {n = i} (omega arith))),
  λ l i h. (place_iff u i (get_or p i 0) (omega arith)).0 (l i),
)

-- thresholds with one place more
abbrev pub then : List ℕ → ℕ → List ℕ
then p v = p ++ (v ∷ [])

-- where a vector is larger at the first place where they differ, it is at least the other up to there, with that place raised
raised : (y s : List ℕ) → y ≺ s → (i : ℕ) × (i < length y) × (then (take i y) (suc (get_or y i 0)) ≼ s)
raised [] s h = absurd h
raised (x ∷ y) [] h = absurd h
raised (x ∷ y) (z ∷ s) (inl h) = (0, omega arith, first)
  where
    first : (suc x ∷ []) ≼ (z ∷ s)
    first zero = h
    first (suc i) = omega arith
raised (x ∷ y) (z ∷ s) (inr h) = next (raised y s h.1)
  where
    next : (i : ℕ) × (i < length y) × (then (take i y) (suc (get_or y i 0)) ≼ s)
        → (i : ℕ) × (i < length (x ∷ y)) × (then (take i (x ∷ y)) (suc (get_or (x ∷ y) i 0)) ≼ (z ∷ s))
    next w = (suc w.0, omega (arith, w.1), both)
      where
        both : (x ∷ then (take w.0 y) (suc (get_or y w.0 0))) ≼ (z ∷ s)
        both zero = omega arith
        both (suc i) = w.2 i

module _ (w : Standing) where
  -- some solution's profile reaches p
  abbrev pub Reachable : List ℕ → Type 0
  Reachable p = (a : List ℕ) × Solution w a × Reaches p (profile w a)

  -- Algorithm 4's first k numbers: they are reached at once, and none can be larger with the earlier ones fixed
  pub record Greedy (k : ℕ) (y : List ℕ) : Type 0 where
    pub long : length y ≡ k
    pub reached : Reachable y
    pub largest : (i : ℕ) → i < k → ¬ Reachable (then (take i y) (suc (get_or y i 0)))

  pub greedy_start : (a : List ℕ) → Solution w a → Greedy 0 []
  greedy_start a s = record { long = refl; reached = (a, s, λ i h. absurd (omega arith)); largest = λ i h. absurd (omega arith) }

  -- a place more: v is reached there, and v + 1 is not
  pub greedy_step : (k : ℕ) (p : List ℕ) (v : ℕ) → Greedy k p → Reachable (then p v) → ¬ Reachable (then p (suc v)) → Greedy (suc k) (then p v)
  greedy_step k p v g r n = record {
    long = omega (arith, length-append p (v ∷ []), g.long);
    reached = r;
    largest = λ i l. by_cases (dec_lt i k) (old i) (λ m. new i (omega arith));
  }
    where
      old : (i : ℕ) → i < k → ¬ Reachable (then (take i (then p v)) (suc (get_or (then p v) i 0)))
      old i l =
          let m : i < length p = omega (arith, g.long) in
          rw (take-append-le i p (v ∷ []) (omega arith), get_or-append p (v ∷ []) 0 i m) (g.largest i l)

      new : (i : ℕ) → i ≡ k → ¬ Reachable (then (take i (then p v)) (suc (get_or (then p v) i 0)))
      new i q =
          let m : length p ≡ i = omega (arith, g.long) in
          rw (take_at p (v ∷ []) i m, get_or_at p v [] 0 i m) n

  objectives_count : (a : List ℕ) → length (profile w a) ≡ length w.objectives
  objectives_count a = length-map w.objectives (at a)

  module _ (y : List ℕ) (g : Greedy (length w.objectives) y) where
    none_above : (a : List ℕ) → Solution w a → ¬ (y ≺ sorted (profile w a))
    none_above a s h =
        let (i, l, r) = raised y (sorted (profile w a)) h in
        let p = then (take i y) (suc (get_or y i 0)) in
        let short : length p ≤ length (profile w a) =
        omega (arith, length-append (take i y) (suc (get_or y i 0) ∷ []), length-take-le i y (omega arith), objectives_count a, g.long) in
        g.largest i (omega (arith, g.long)) (a, s, (reaches_iff p (profile w a) short).1 r)

    pub greedy_sorted : (a : List ℕ) → Solution w a → Reaches y (profile w a) → sorted (profile w a) ≡ y
    greedy_sorted a s r =
        let e = objectives_count a in
        ⊎_elim (λ h. absurd (none_above a s h)) sym
        (≼_cases y (sorted (profile w a)) (omega (arith, sorted_length (profile w a), g.long)) ((reaches_iff y (profile w a) (omega (arith, g.long))).0 r))

    -- no solution is better than one whose profile reaches it
    pub greedy_best : (a : List ℕ) → Solution w a → Reaches y (profile w a) → (b : List ℕ) → Solution w b → ¬ Better (profile w b) (profile w a)
    greedy_best a s r b t h = none_above b t (subst (λ (q : List ℕ). q ≺ sorted (profile w b)) (greedy_sorted a s r) h)

    -- the best solutions are those with that sorted vector
    pub best_sorted : (a : List ℕ) → Solution w a → ((b : List ℕ) → Solution w b → ¬ Better (profile w b) (profile w a)) → sorted (profile w a) ≡ y
    best_sorted a s best =
        let (b, t, r) = g.reached in
        let e = greedy_sorted b t r in
        ⊎_elim (λ h. absurd (best b t h)) (⊎_elim (λ q. q ∙ e) (λ h. absurd (greedy_best b t r a s h)))
        (better_tri (profile w a) (profile w b) (objectives_count a ∙ sym (objectives_count b)))

-- The first solution that reaches q, by variable number, low values first.
pub record FirstReaching (w : Standing) (q a : List ℕ) : Type 0 where
  pub solution : Solution w a
  pub reaches : Reaches q (profile w a)
  pub first : (b : List ℕ) → Solution w b → Reaches q (profile w b) → ¬ (b ≺ a)

-- The solution that was found last is the answer: it is the first of a set that holds all best solutions, and one of them.
pub found_last : (w : Standing) (y q a : List ℕ) → Greedy w (length w.objectives) y → FirstReaching w q a → Reaches y (profile w a)
    → length q ≤ length w.objectives → q ≼ y → Answer w a
found_last w y q a g f r short low = record {
  solution = f.solution;
  best = greedy_best w y g a f.solution r;
  first = λ b s e. f.first b s ((reaches_iff q (profile w b) (omega (arith, objectives_count w b))).1 (low_b b e));
}
  where
    low_b : (b : List ℕ) → sorted (profile w b) ≡ sorted (profile w a) → q ≼ sorted (profile w b)
    low_b b e = subst (λ (z : List ℕ). q ≼ z) (sym (e ∙ greedy_sorted w y g a f.solution r)) low
