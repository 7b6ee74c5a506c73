-- How many of the greatest values left reach a threshold, and what that says of every assignment. Assumes nothing.
use mathlib.Core.Path.{◌≡◌, refl, sym, ap, ◌∙◌}
use mathlib.Core.Logic.{by_cases}
use mathlib.Core.Bool.{Bool, true, false, not, cond}
use mathlib.Core.List.{List, [], ◌∷◌, map, Memᴰ}
use Prim.Native.Nat.{ℕ, zero, suc, ◌+◌, ◌≤◌, ◌<◌}
use native.Mathlib.Nat.{not-suc-le-zero, le_of_suc-le-suc}
use native.Mathlib.Decide.{dec_lt}
use native.Mathlib.Omega.{arith}
use lib.Dec.{T, leb, leb→le, nleb→lt}
use lib.ListN.{length, get_or, take, set, length-map, get_or-eq_default}
use lib.Seq.{get_or-take, get_or-set_same, get_or-set_other, ext_get_or}
use borrow.Author.Count.{below_more}
use borrow.Author.Tests.{le-leb}
use Rattle.std.specs.List.{count_by}
use Rattle.std.proofs.lemmas.List.Recursion.{is_count_by}
use Rattle.meaning.specs.Rules.{at, values_at}
use Rattle.meaning.specs.Lists.{Left}
use Rattle.meaning.proofs.Counting.{one, reach}
use Rattle.meaning.proofs.Reach.{◌≼◌, reach_mono}
use Rattle.values.specs.Sets.{Highest}
use Rattle.search.specs.Thresholds.{Tops, Fits}
use Rattle.filters.proofs.Sifting.{at_mem}

-- ---- counting

-- as a chain of iterators counts
pub reach_counts : (y : ℕ) (u : List ℕ) → reach y u ≡ count_by (leb y) u
reach_counts y u = is_count_by (reach y) (leb y) refl (λ x xs. step (leb y x) (reach y xs)) u
  where
    step : (b : Bool) (k : ℕ) → one b + k ≡ cond b (1 + k) k
    step true k = refl
    step false k = omega arith

pub reach_zero : (u : List ℕ) → reach 0 u ≡ length u
reach_zero [] = refl
reach_zero (x ∷ u) = omega (arith, ap one (le-leb 0 x (omega arith)), reach_zero u)

-- where u is below w and as many of u reach y, those that reach it in w do in u
pub reach_squeeze : (y : ℕ) (u w : List ℕ) → length u ≡ length w → u ≼ w → reach y w ≤ reach y u
    → (j : ℕ) → j < length w → y ≤ get_or w j 0 → y ≤ get_or u j 0
reach_squeeze y u [] e low r j h l = absurd (not-suc-le-zero h)
reach_squeeze y [] (b ∷ w) e low r j h l = absurd (omega arith)
reach_squeeze y (a ∷ u) (b ∷ w) e low r j h l =
    let tails = reach_mono y u w (omega arith) (λ i. low (suc i)) in
    step j h l (leb y a) (leb y b) (leb→le y a) (nleb→lt y b) (low 0) tails r
    (λ k. reach_squeeze y u w (omega arith) (λ i. low (suc i)) k)
  where
    step : (j : ℕ) → j < suc (length w) → y ≤ get_or (b ∷ w) j 0 → (p q : Bool) → (T p → y ≤ a) → (T (not q) → b < y) → a ≤ b → reach y u ≤ reach y w
        → one q + reach y w ≤ one p + reach y u → (reach y w ≤ reach y u → (i : ℕ) → i < length w → y ≤ get_or w i 0 → y ≤ get_or u i 0)
        → y ≤ get_or (a ∷ u) j 0
    step zero h l true q f g o t r ih = f tt
    step zero h l false true f g o t r ih = absurd (omega arith)
    step zero h l false false f g o t r ih = let k = g tt in absurd (omega arith)
    step (suc j) h l true true f g o t r ih = ih (omega arith) j (le_of_suc-le-suc h) l
    step (suc j) h l true false f g o t r ih = let k = f tt in let m = g tt in absurd (omega arith)
    step (suc j) h l false true f g o t r ih = absurd (omega arith)
    step (suc j) h l false false f g o t r ih = ih (omega arith) j (le_of_suc-le-suc h) l

-- ---- the greatest values, objective by objective

-- the first of them alone
pub tops_first : {objective L tops : List ℕ} {count : ℕ} → Tops objective count L tops → Tops objective count L (take count tops)
tops_first {tops} {count} so = record {
  here = λ j l. rw (get_or-take count tops j 0 l) (so.here j l);
  most = λ j v l. rw (get_or-take count tops j 0 l) (so.most j v l);
}

module _ {objective L : List ℕ} (j : ℕ) (tops : List ℕ) (v : ℕ) (inside : j < length tops) (so : Tops objective j L tops)
    (some : ¬ (get_or L (get_or objective j 0) 0 ≡ 0)) (high : Highest (get_or L (get_or objective j 0) 0) v) where
  pub high_small : v < 64
  high_small = high.some (omega arith)

  not_above : (w : ℕ) → Left L (get_or objective j 0) w → w ≤ v
  not_above w h = by_cases (dec_lt v w) (λ l. absurd (let z = high.none w l in omega arith)) (λ n. omega arith)

  new : List ℕ
  new = set tops j v

  at_j : get_or new j 0 ≡ v
  unfolding new
  at_j = get_or-set_same tops j v 0 inside

  before : (i : ℕ) → i < j → get_or new i 0 ≡ get_or tops i 0
  unfolding new
  before i l = get_or-set_other tops j i v 0 (λ e. omega arith)

  pub tops_more : Tops objective (j + 1) L (set tops j v)
  unfolding new
  tops_more = record {
    here = below_more (λ i. Left L (get_or objective i 0) (get_or new i 0)) j (λ i l. rw (before i l) (so.here i l)) (rw at_j (high.here high_small));
    most = λ i w l. below_more (λ k. Left L (get_or objective k 0) w → w ≤ get_or new k 0) j (λ k m. rw (before k m) (so.most k w m)) (rw at_j (not_above w)) i l;
  }

-- ---- what assignments reach

pub map_at : (f : ℕ → ℕ) (s : List ℕ) (i : ℕ) → i < length s → get_or (map f s) i 0 ≡ f (get_or s i 0)
map_at f [] i h = absurd (not-suc-le-zero h)
map_at f (x ∷ s) zero h = refl
map_at f (x ∷ s) (suc i) h = map_at f s i (le_of_suc-le-suc h)

pub named_at : (goals : List ℕ) (j : ℕ) → j < length goals → Memᴰ (get_or goals j 0) goals
named_at goals j l = at_mem goals j l

module _ {goals tops L : List ℕ} (even : length tops ≡ length goals) (so : Tops goals (length goals) L tops) (a : List ℕ) where
  pub values_length : length (values_at a goals) ≡ length goals
  values_length = length-map goals (at a)

  pub value_at : (j : ℕ) → j < length goals → get_or (values_at a goals) j 0 ≡ at a (get_or goals j 0)
  value_at j l = map_at (at a) goals j l

  module _ (fits : Fits goals L a) where
    pub below_tops : values_at a goals ≼ tops
    below_tops j = by_cases (dec_lt j (length goals)) inside beyond
      where
        inside : j < length goals → get_or (values_at a goals) j 0 ≤ get_or tops j 0
        inside l = rw (value_at j l) (so.most j (at a (get_or goals j 0)) l (fits (get_or goals j 0) (named_at goals j l)))

        beyond : ¬ (j < length goals) → get_or (values_at a goals) j 0 ≤ get_or tops j 0
        beyond n = omega (arith, get_or-eq_default (values_at a goals) 0 {n = j} (omega (arith, values_length)))

    -- no assignment reaches further than the greatest values left
    pub reach_below : (y : ℕ) → reach y (values_at a goals) ≤ reach y tops
    reach_below y = reach_mono y (values_at a goals) tops (values_length ∙ sym even) below_tops

    -- where none may be missed, each objective that can reach y does
    pub must_reach : (y : ℕ) → reach y tops ≤ reach y (values_at a goals) → (j : ℕ) → j < length goals → y ≤ get_or tops j 0 → y ≤ at a (get_or goals j 0)
    must_reach y r j l h = rw (value_at j l) at (reach_squeeze y (values_at a goals) tops (values_length ∙ sym even) below_tops r j (omega arith) h)

    -- greatest values are the tops
    pub tops_are : ((x v : ℕ) → Memᴰ x goals → Left L x v → v ≤ at a x) → values_at a goals ≡ tops
    tops_are greatest = ext_get_or 0 (values_at a goals) tops (values_length ∙ sym even) each
      where
        each : (j : ℕ) → j < length (values_at a goals) → get_or (values_at a goals) j 0 ≡ get_or tops j 0
        each j h =
            let l : j < length goals = omega (arith, values_length) in
            let up = greatest (get_or goals j 0) (get_or tops j 0) (named_at goals j l) (so.here j l) in
            omega (arith, below_tops j, value_at j l)
