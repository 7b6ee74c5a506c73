-- Raising the thresholds place by place, each by one for as long as a rota reaches it (Algorithm 4). Assumes nothing.
use mathlib.Core.Path.{◌≡◌, refl, sym, ap, ◌∙◌}
use mathlib.Core.Logic.{by_cases}
use Rattle.std.specs.Prelude.{None}
use mathlib.Core.List.{List, [], ◌∷◌, Memᴰ}
use Prim.Native.Nat.{ℕ, suc, ◌+◌, ◌-◌, ◌^◌, ◌≤◌, ◌<◌}
use native.Mathlib.Numerals.{add-one}
use native.Mathlib.Decide.{dec_lt, ℕ_discrete}
use native.Mathlib.Omega.{arith}
use borrow.Author.Tests.{le-leb}
use lib.ListN.{length, get_or, set, take, replicate, length-append, length-map, length-set, length-take, length-replicate, get_or-append, get_or-eq_default}
use lib.Seq.{length-take-le, get_or-take, get_or_at, get_or-set_same, get_or-set_other, set-set, take-set-le, take-suc-set, take-take}
use Rattle.meaning.specs.Limits.{objective_limit}
use Rattle.meaning.specs.Rules.{Rule, at, values_at}
use Rattle.meaning.specs.Order.{sorted}
use Rattle.meaning.proofs.Counting.{one, reach}
use Rattle.meaning.proofs.Reach.{place_iff}
use Rattle.meaning.proofs.Sorting.{sorted_bounded}
use Rattle.meaning.proofs.Assignments.{values_at_lem}
use Rattle.meaning.proofs.Digits.{has_small}
use Rattle.meaning.proofs.Solutions.{values_same}
use Rattle.meaning.proofs.Greedy.{Reaches, then}
use Rattle.search.specs.Search.{Meets, FirstOf, Found, Searched}
use Rattle.leximin.specs.Solving.{Best, Climbed}
use Rattle.blocks.proofs.Copying.{zeros_at}
use Rattle.filters.proofs.Cells.{mem_at}

-- ---- thresholds

-- every number reaches 0
reach_nought : (u : List ℕ) → reach 0 u ≡ length u
reach_nought [] = refl
reach_nought (x ∷ u) = omega (arith, reach_nought u, ap one (le-leb 0 x (omega arith)))

-- thresholds that are the same but for zeros behind them
reaches_alike : (p q u : List ℕ) → ((j : ℕ) → get_or p j 0 ≡ get_or q j 0) → Reaches p u → Reaches q u
reaches_alike p q u same r j h =
    by_cases (dec_lt j (length p)) (λ k. rw (same j) at (r j k)) λ k.
    rw (← same j, get_or-eq_default p 0 {n = j} (omega arith)) (omega (arith, reach_nought u))

-- the first thresholds alone
reaches_front : (m k : ℕ) (p u : List ℕ) → m ≤ k → k ≤ length p → Reaches (take k p) u → Reaches (take m p) u
reaches_front m k p u h l r j i =
    let a : j < m = omega (arith, length-take-le m p (omega arith)) in
    let e : get_or (take k p) j 0 ≡ get_or (take m p) j 0 = get_or-take k p j 0 (omega arith) ∙ sym (get_or-take m p j 0 a) in
    rw e at (r j (omega (arith, length-take-le k p l)))

-- one threshold more
reaches_then : (p u : List ℕ) (v : ℕ) → Reaches p u → length u - length p ≤ reach v u → Reaches (then p v) u
reaches_then p u v r h j i =
    by_cases (dec_lt j (length p)) (λ k. rw (get_or-append p (v ∷ []) 0 j k) (r j k)) λ k.
    let e : length p ≡ j = omega (arith, length-append p (v ∷ [])) in
    rw (get_or_at p v [] 0 j e) (omega arith)

-- the i-th threshold is set, and those behind it are 0
raised_at : (floors : List ℕ) (i v count : ℕ) → i < count → count ≤ length floors → ((j : ℕ) → i < j → get_or floors j 0 ≡ 0)
    → (j : ℕ) → get_or (take count (set floors i v)) j 0 ≡ get_or (then (take i floors) v) j 0
raised_at floors i v count h few zeros j =
    by_cases (dec_lt j i) low (λ a. by_cases (ℕ_discrete j i) (λ e. here (sym e)) (λ d. high (omega arith)))
  where
    long : length (take i floors) ≡ i
    long = length-take-le i floors (omega arith)

    low : j < i → get_or (take count (set floors i v)) j 0 ≡ get_or (then (take i floors) v) j 0
    low k =
        get_or-take count (set floors i v) j 0 (omega arith) ∙ get_or-set_other floors i j v 0 (λ e. omega arith)
        ∙ sym (get_or-append (take i floors) (v ∷ []) 0 j (omega (arith, long)) ∙ get_or-take i floors j 0 k)

    here : i ≡ j → get_or (take count (set floors i v)) j 0 ≡ get_or (then (take i floors) v) j 0
    here e =
        get_or-take count (set floors i v) j 0 (omega arith) ∙ ap (λ (k : ℕ). get_or (set floors i v) k 0) (sym e)
        ∙ get_or-set_same floors i v 0 (omega arith) ∙ sym (get_or_at (take i floors) v [] 0 j (long ∙ e))

    none : i < j → get_or (then (take i floors) v) j 0 ≡ 0
    none k = get_or-eq_default (then (take i floors) v) 0 {n = j} (omega (arith, length-append (take i floors) (v ∷ []), long))

    high : i < j → get_or (take count (set floors i v)) j 0 ≡ get_or (then (take i floors) v) j 0
    high k =
        by_cases (dec_lt j count)
        (λ l. get_or-take count (set floors i v) j 0 l ∙ get_or-set_other floors i j v 0 (λ e. omega arith) ∙ zeros j k ∙ sym (none k))
        (λ l. get_or-eq_default (take count (set floors i v)) 0 {n = j} (omega (arith, length-take count (set floors i v))) ∙ sym (none k))

-- ---- the climb

-- the i-th of the objectives' values, sorted upwards
abbrev pub level : List ℕ → List ℕ → ℕ → ℕ
level objectives a i = get_or (sorted (values_at a objectives)) i 0

module _ (rules : List Rule) (objectives : List ℕ) (n : ℕ) (L : List ℕ) where
  meets_alike : (p q a : List ℕ) → ((j : ℕ) → get_or p j 0 ≡ get_or q j 0) → Meets rules objectives p n L a → Meets rules objectives q n L a
  meets_alike p q a same m =
      record { long = m.long; inside = m.inside; right = m.right; reaches = reaches_alike p q (values_at a objectives) same m.reaches }

  -- the first i thresholds are as high as they can be, one after the other; all behind the i-th are 0; a was found last
  pub record Climbing (a floors : List ℕ) (i : ℕ) : Type 0 where
    pub inside : i ≤ length objectives
    pub wide : length floors ≡ objective_limit
    pub zeros : (j : ℕ) → i < j → get_or floors j 0 ≡ 0
    pub thresholds : List ℕ
    pub few : length thresholds ≤ length objectives
    pub first : FirstOf (Meets rules objectives thresholds n L) a
    pub reached : Reaches (take i floors) (values_at a objectives)
    pub largest : (j : ℕ) → j < i → (b : List ℕ) → ¬ Meets rules objectives (then (take j floors) (suc (get_or floors j 0))) n L b

  module _ (count : ℕ) (whole : length objectives ≡ count) (most : count ≤ objective_limit) where
    profile_count : (a : List ℕ) → length (values_at a objectives) ≡ count
    profile_count a = length-map objectives (at a) ∙ whole

    pub climb_start : (out : List ℕ) → Found rules objectives (take count (replicate 16 0)) n L out → Climbing (take n out) (replicate 16 0) 0
    climb_start out s = record {
      inside = omega arith;
      wide = length-replicate {A = ℕ} 16 0;
      zeros = λ j h. zeros_at 16 j;
      thresholds = take count (replicate 16 0);
      few = omega (arith, length-take count (replicate {A = ℕ} 16 0));
      first = s.first;
      reached = λ j h. absurd (omega arith);
      largest = λ j h. absurd (omega arith);
    }

    pub climb_none : Searched rules objectives (take count (replicate 16 0)) n L None → Climbed rules objectives n L None
    climb_none none a m = none a (meets_alike [] (take count (replicate 16 0)) a nought m)
      where
        nought : (j : ℕ) → get_or {A = ℕ} [] j 0 ≡ get_or (take count (replicate 16 0)) j 0
        nought j =
            by_cases (dec_lt j count) (λ k. sym (get_or-take count (replicate {A = ℕ} 16 0) j 0 k ∙ zeros_at 16 j))
            (λ k. sym (get_or-eq_default (take count (replicate {A = ℕ} 16 0)) 0 {n = j} (omega (arith, length-take count (replicate {A = ℕ} 16 0)))))

    module _ (a floors : List ℕ) (i : ℕ) (c : Climbing a floors i) where
      -- all places are done
      pub climb_end : count ≤ i → Best rules objectives n L a
      climb_end h =
          let long = length-take-le i floors (omega (arith, c.wide, c.inside)) in
          record {
            thresholds = c.thresholds;
            vector = take i floors;
            few = c.few;
            long = omega (arith, long, c.inside);
            first = c.first;
            reached = c.reached;
            largest = λ j k b. let l : j < i = omega arith in rw (take-take j i floors (omega arith), get_or-take i floors j 0 l) (c.largest j l b);
          }

      module _ (h : i < count) where
        module _ (u : ℕ) (out : List ℕ) (s : Found rules objectives (take count (set floors i u)) n L out) where
          -- a rota reaches the raised threshold: it stays raised
          pub climb_higher : Climbing (take n out) (set floors i u) i
          climb_higher =
              let wide = length-set floors i u ∙ c.wide in
              record {
                inside = c.inside;
                wide = wide;
                zeros = λ j k. get_or-set_other floors i j u 0 (λ e. omega arith) ∙ c.zeros j k;
                thresholds = take count (set floors i u);
                few = omega (arith, length-take count (set floors i u));
                first = s.first;
                reached = reaches_front i count (set floors i u) (values_at (take n out) objectives) (omega arith) (omega arith) s.first.holds.reaches;
                largest = λ j k b. rw (take-set-le j floors i u (omega arith), get_or-set_other floors i j u 0 (λ e. omega arith)) (c.largest j k b);
              }

          pub level_higher : u ≤ level objectives (take n out) i
          level_higher =
              let p = take count (set floors i u) in
              let long = length-take-le count (set floors i u) (omega (arith, length-set floors i u, c.wide)) in
              let e : get_or p i 0 ≡ u = get_or-take count (set floors i u) i 0 h ∙ get_or-set_same floors i u 0 (omega (arith, c.wide)) in
              let r = s.first.holds.reaches i (omega arith) in
              (place_iff (values_at (take n out) objectives) i u (omega (arith, profile_count (take n out)))).1 (rw e at r)

        module _ (u : ℕ) (none : Searched rules objectives (take count (set floors i u)) n L None) where
          -- none does: it goes back to what a reaches, and is done
          pub climb_on : (v : ℕ) → v ≡ level objectives a i → u ≡ v + 1 → Climbing a (set (set floors i u) i v) (i + 1)
          climb_on v ev eu = rw (set-set floors i u v) (record {
            inside = omega arith;
            wide = length-set floors i v ∙ c.wide;
            zeros = λ j k. get_or-set_other floors i j v 0 (λ e. omega arith) ∙ c.zeros j (omega arith);
            thresholds = c.thresholds;
            few = c.few;
            first = c.first;
            reached = reached;
            largest = λ j k. by_cases (dec_lt j i) (old j) (λ l. new j (omega arith));
          })
            where
              long : length (take i floors) ≡ i
              long = length-take-le i floors (omega (arith, c.wide))

              reached : Reaches (take (i + 1) (set floors i v)) (values_at a objectives)
              reached =
                  let enough = (place_iff (values_at a objectives) i v (omega (arith, profile_count a))).0 (omega arith) in
                  rw (add-one i, take-suc-set floors i v (omega (arith, c.wide)))
                  (reaches_then (take i floors) (values_at a objectives) v c.reached (omega (arith, long)))

              old : (j : ℕ) → j < i → (b : List ℕ) → ¬ Meets rules objectives (then (take j (set floors i v)) (suc (get_or (set floors i v) j 0))) n L b
              old j k b = rw (take-set-le j floors i v (omega arith), get_or-set_other floors i j v 0 (λ e. omega arith)) (c.largest j k b)

              above : (b : List ℕ) → ¬ Meets rules objectives (then (take i floors) u) n L b
              above b m =
                  none b (meets_alike (then (take i floors) u) (take count (set floors i u)) b
                  (λ k. sym (raised_at floors i u count h (omega (arith, c.wide)) c.zeros k)) m)

              new : (j : ℕ) → i ≡ j → (b : List ℕ) → ¬ Meets rules objectives (then (take j (set floors i v)) (suc (get_or (set floors i v) j 0))) n L b
              new j e b =
                  let up : u ≡ suc v = omega arith in
                  rw (← e, take-set-le i floors i v (omega arith), get_or-set_same floors i v 0 (omega (arith, c.wide)), ← up) (above b)

    -- the values left are small
    pub level_small : ((x : ℕ) → get_or L x 0 < 2 ^ 64) → ((y : ℕ) → Memᴰ y objectives → y < n) → (a q : List ℕ) → Meets rules objectives q n L a → (i : ℕ) → level objectives a i ≤ 63
    level_small words named a q m = sorted_bounded 63 (values_at a objectives) λ j.
        by_cases (dec_lt j count)
        (λ k.
        let x = get_or objectives j 0 in
        let l : x < n = named x (mem_at objectives j 0 (omega arith)) in
        omega (arith, values_at_lem objectives a j (omega arith), has_small (get_or L x 0) (at a x) (words x) (m.inside x l)))
        (λ k. omega (arith, get_or-eq_default (values_at a objectives) 0 {n = j} (omega (arith, profile_count a))))

  -- the objectives are among the first n variables
  pub level_of : (values : List ℕ) → ((y : ℕ) → Memᴰ y objectives → y < n) → values_at (take n values) objectives ≡ values_at values objectives
  level_of values named = values_same objectives (take n values) values (λ y m. get_or-take n values y 0 (named y m))
