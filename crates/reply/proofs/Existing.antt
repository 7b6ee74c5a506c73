-- What stands has an answer or no solution: surely, without computing it. Assumes nothing.
use mathlib.Core.Path.{◌≡◌, refl, sym, ap, ◌∙◌}
use mathlib.Core.Logic.{◌⊎◌, inl, inr, ⊎_elim, by_cases}
use mathlib.Core.List.{List, [], ◌∷◌, map}
use Prim.Native.Nat.{ℕ, zero, suc, ◌-◌, ◌≤◌, ◌<◌}
use native.Mathlib.Decide.{dec_lt}
use native.Mathlib.Omega.{arith}
use lib.ListN.{length, get_or, length-map, get_or-eq_default}
use Rattle.meaning.specs.Values.{Has}
use Rattle.meaning.specs.Rules.{at}
use Rattle.meaning.specs.Order.{sorted, ◌≺◌}
use Rattle.meaning.specs.Standing.{Standing}
use Rattle.meaning.specs.Lists.{Left}
use Rattle.meaning.specs.Solutions.{Solution, Answer, Inconsistent, profile}
use Rattle.meaning.proofs.Digits.{lt_two_pow, bit_high}
use Rattle.meaning.proofs.Counting.{reach_none}
use Rattle.meaning.proofs.Sorting.{sorted_length, sum_of}
use Rattle.meaning.proofs.Reach.{place_iff}
use Rattle.reply.proofs.Surely.{Surely, known, then, either, first_of}

-- ---- a bound for all declared values

has_below : (m v : ℕ) → Has m v → v < m
has_below m v h = by_cases (dec_lt v m) (λ l. l) (λ n. absurd (omega (arith, bit_high m {m = m} v (lt_two_pow m) (omega arith))))

sum_bounds : (l : List ℕ) (x : ℕ) → get_or l x 0 ≤ sum_of l
sum_bounds [] x = omega arith
sum_bounds (m ∷ l) zero = omega arith
sum_bounds (m ∷ l) (suc x) = omega (arith, sum_bounds l x)

left_bound : (l : List ℕ) (x v : ℕ) → Left l x v → v < sum_of l
left_bound l x v h = omega (arith, has_below (get_or l x 0) v h, sum_bounds l x)

-- ---- larger is better: the best sorted vector is the first of what each lacks

lacking : ℕ → List ℕ → List ℕ
lacking top u = map (λ v. top - v) u

lacking_length : (top : ℕ) (u : List ℕ) → length (lacking top u) ≡ length u
unfolding lacking
lacking_length top u = length-map u (λ v. top - v)

lacking_turns : (top : ℕ) (u v : List ℕ) → ((i : ℕ) → get_or v i 0 ≤ top) → u ≺ v → lacking top v ≺ lacking top u
unfolding lacking
lacking_turns top [] v h l = absurd l
lacking_turns top (x ∷ u) [] h l = absurd l
lacking_turns top (x ∷ u) (y ∷ v) h (inl l) = inl (omega (arith, h 0))
lacking_turns top (x ∷ u) (y ∷ v) h (inr (e, l)) = inr (ap (λ (z : ℕ). top - z) (sym e), lacking_turns top u v (λ i. h (suc i)) l)

map_bound : (f : ℕ → ℕ) (top : ℕ) → ((x : ℕ) → f x ≤ top) → (l : List ℕ) (i : ℕ) → get_or (map f l) i 0 ≤ top
map_bound f top h [] i = omega arith
map_bound f top h (x ∷ l) zero = h x
map_bound f top h (x ∷ l) (suc i) = map_bound f top h l i

sorted_bound : (top : ℕ) (u : List ℕ) → ((i : ℕ) → get_or u i 0 ≤ top) → (i : ℕ) → get_or (sorted u) i 0 ≤ top
sorted_bound top u h i = by_cases (dec_lt top (get_or (sorted u) i 0)) (λ l. absurd (past l)) (λ n. omega arith)
  where
    past : top < get_or (sorted u) i 0 → ⊥
    past l = by_cases (dec_lt i (length u))
        (λ inside. omega (arith, (place_iff u i (suc top) inside).0 l, reach_none (suc top) u (λ j. omega (arith, h j))))
        (λ n. omega (arith, get_or-eq_default (sorted u) 0 {n = i} (omega (arith, sorted_length u))))

-- ---- an answer, or no solution

module _ (w : Standing) where
  top : ℕ
  top = sum_of w.declared

  value_bound : {a : List ℕ} → Solution w a → (x : ℕ) → at a x ≤ top
  unfolding top
  value_bound {a} s x = by_cases (dec_lt x (length a)) (λ l. omega (arith, left_bound w.declared x (at a x) (s.declared x l)))
      (λ n. omega (arith, get_or-eq_default a 0 {n = x} (omega arith)))

  lack : List ℕ → List ℕ
  lack a = lacking top (sorted (profile w a))

  lack_length : (a : List ℕ) → length (lack a) ≡ length w.objectives
  unfolding lack
  lack_length a = lacking_length top (sorted (profile w a)) ∙ sorted_length (profile w a) ∙ length-map w.objectives (at a)

  abbrev Lacked : List ℕ → Type 0
  Lacked y = (a : List ℕ) × Solution w a × (lack a ≡ y)

  abbrev Lacks : List ℕ → List ℕ → Type 0
  Lacks y a = Solution w a × (lack a ≡ y)

  answers : (y a : List ℕ) → Lacks y a → ((c : List ℕ) → length c ≡ length w.objectives → Lacked c → ¬ (c ≺ y))
      → ((b : List ℕ) → length b ≡ length w.declared → Lacks y b → ¬ (b ≺ a)) → Answer w a
  unfolding lack
  answers y a (s, e) best first = record {
    solution = s;
    best = λ b t h.
        let turned : lack b ≺ lack a = lacking_turns top _ _ (sorted_bound top (profile w b) (map_bound (at b) top (value_bound t) w.objectives)) h in
        best (lack b) (lack_length b) (b, t, refl) (rw e at turned);
    first = λ b t q. first b t.long (t, ap (lacking top) q ∙ e);
  }

  pub answer_exists : Surely (Inconsistent w ⊎ ((a : List ℕ) × Answer w a))
  answer_exists = then (either ((a : List ℕ) × Solution w a)) (⊎_elim found (λ n. known (inl (λ a s. n (a, s)))))
    where
      found : (a : List ℕ) × Solution w a → Surely (Inconsistent w ⊎ ((a : List ℕ) × Answer w a))
      found (a, s) =
          then (first_of (length w.objectives) Lacked (lack a) (lack_length a) (a, s, refl)) λ (y, many, (b, t, e), best).
          then (first_of (length w.declared) (Lacks y) b t.long (t, e)) λ (c, long, l, first).
          known (inr (c, answers y c l best first))
