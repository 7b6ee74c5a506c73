-- Narrowing lists by rules and thresholds in turn loses no assignment that meets all. Assumes nothing.
use mathlib.Core.Path.{◌≡◌, sym, ap, ◌∙◌}
use mathlib.Core.Logic.{⊎_elim, by_cases}
use Rattle.std.specs.Prelude.{Option, None, Some}
use mathlib.Core.List.{List, ◌++◌, map, Memᴰ}
use Prim.Native.Nat.{ℕ, ◌+◌, ◌-◌, ◌^◌, ◌≤◌, ◌<◌}
use native.Mathlib.Decide.{ℕ_discrete, dec_lt}
use native.Mathlib.Omega.{arith}
use lib.ListN.{length, get_or, drop, length-map, get_or-append}
use lib.Seq.{get_or-append-add, get_or-drop}
use Rattle.meaning.specs.Limits.{variable_limit}
use Rattle.meaning.specs.Values.{Has, Lacks}
use Rattle.meaning.specs.Rules.{Rule, scope_of, at, values_at}
use Rattle.meaning.specs.Lists.{Left, Closed}
use Rattle.meaning.proofs.Digits.{zero_bit, bit_cases, bit_pow_same, bit_pow_other}
use Rattle.meaning.proofs.Sets.{some_digit}
use Rattle.meaning.proofs.Largest.{◌⊑◌}
use Rattle.meaning.proofs.Listed.{Words}
use Rattle.meaning.proofs.Greedy.{Reaches}
use Rattle.filters.specs.declared.Head.{Head}
use Rattle.filters.specs.Layout.{rule_at, rules_at}
use Rattle.filters.specs.Filter.{Toward, weight}
use Rattle.search.specs.Spreading.{Due, Touched, AffectedBy, Quiet, Dry}
use Rattle.search.specs.Search.{Meets, Sieved, Net}
use Rattle.search.specs.Thresholds.{Aims, Open, Fits, Reached, Raised}
use Rattle.filters.proofs.Sweeping.{weight_le, words_below, changed_none, changed_some}
use Rattle.filters.proofs.Closing.{closed_kept, closed_by_all, closed_by_each}
use Rattle.search.proofs.Reaching.{map_at, named_at}

-- ---- an assignment as lists: its values alone, and past its variables the lists as they are

fixed : List ℕ → List ℕ → List ℕ
fixed a L = map (λ v. 2 ^ v) a ++ drop (length a) L

module _ (a L : List ℕ) where
  fixed_low : (x : ℕ) → x < length a → get_or (fixed a L) x 0 ≡ 2 ^ at a x
  unfolding fixed
  fixed_low x h =
      get_or-append (map (λ v. 2 ^ v) a) (drop (length a) L) 0 x (omega (arith, length-map a (λ v. 2 ^ v))) ∙ map_at (λ v. 2 ^ v) a x h

  fixed_high : (x : ℕ) → length a ≤ x → get_or (fixed a L) x 0 ≡ get_or L x 0
  unfolding fixed
  fixed_high x h =
      let e : x ≡ length (map (λ v. 2 ^ v) a) + (x - length a) = omega (arith, length-map a (λ v. 2 ^ v)) in
      let d : length a + (x - length a) ≡ x = omega arith in
      ap (λ (i : ℕ). get_or (map (λ v. 2 ^ v) a ++ drop (length a) L) i 0) e
      ∙ get_or-append-add (map (λ v. 2 ^ v) a) (drop (length a) L) (x - length a) 0
      ∙ get_or-drop (length a) L (x - length a) 0
      ∙ ap (λ (i : ℕ). get_or L i 0) d

  fixed_has : (x : ℕ) → x < length a → Left (fixed a L) x (at a x)
  fixed_has x h = rw (fixed_low x h) (bit_pow_same (at a x))

  fixed_only : (x v : ℕ) → x < length a → Left (fixed a L) x v → v ≡ at a x
  fixed_only x v l h =
      by_cases (ℕ_discrete v (at a x)) (λ e. e) λ d.
      let o : Has (2 ^ at a x) v = rw (fixed_low x l) at h in
      absurd (omega (arith, bit_pow_other (at a x) v d))

module _ {rules : List Rule} {objectives y : List ℕ} {n : ℕ} where
  -- the values may be looked for in other lists
  meets_in : {L K a : List ℕ} → Meets rules objectives y n L a → ((x : ℕ) → x < n → Left K x (at a x)) → Meets rules objectives y n K a
  meets_in m inside = record { long = m.long; inside = inside; right = m.right; reaches = m.reaches }

  module _ {L K a : List ℕ} (known : (r : Rule) → Memᴰ r rules → (x : ℕ) → Memᴰ x (scope_of r) → x < n) (t : Toward rules L K)
      (m : Meets rules objectives y n L a) where
    -- what is on the way to the largest lists keeps the assignment's values, and every value past its variables
    fixed_kept : fixed a L ⊑ K
    fixed_kept = t.most (fixed a L) low shut
      where
        low : fixed a L ⊑ L
        low x v h =
            by_cases (dec_lt x (length a)) (λ l. rw (fixed_only a L x v l h) (m.inside x (omega (arith, m.long))))
            (λ o. rw (fixed_high a L x (omega arith)) at h)

        shut : Closed rules (fixed a L)
        shut r i x j v h = record {
          by = a;
          here = sym (fixed_only a L x v (omega (arith, known r i x j, m.long)) h);
          others = λ z k d. fixed_has a L z (omega (arith, known r i z k, m.long));
          satisfied = m.right r i;
        }

    toward_meets : Meets rules objectives y n K a
    toward_meets = meets_in m (λ x l. fixed_kept x (at a x) (fixed_has a L x (omega (arith, m.long))))

    -- so no list becomes empty
    toward_some : (x : ℕ) → get_or K x 0 ≡ 0 → get_or L x 0 ≡ 0
    toward_some x z = by_cases (dec_lt x n) (λ l. absurd (gone (at a x) (toward_meets.inside x l))) beyond
      where
        gone : (v : ℕ) → ¬ Left K x v
        gone v h = let o : Has 0 v = rw z at h in omega (arith, zero_bit v)

        beyond : ¬ (x < n) → get_or L x 0 ≡ 0
        beyond o =
            by_cases (dec_lt 0 (get_or L x 0))
            (λ p. let (v, h) = some_digit (get_or L x 0) p in absurd (gone v (fixed_kept x v (rw (fixed_high a L x (omega (arith, m.long))) h))))
            (λ q. omega arith)

-- ---- narrowing from B

-- L is what is left, and the rules in rest are due
pub record Sieving (heads : List Head) (room : List ℕ) (objectives y : List ℕ) (n : ℕ) (B L : List ℕ) (rest : ℕ) : Type 0 where
  pub full : length L ≡ variable_limit
  pub words : Words B
  pub long : length L ≡ length B
  pub within : L ⊑ B
  pub keeps : (a : List ℕ) → Meets (rules_at heads room) objectives y n B a → Meets (rules_at heads room) objectives y n L a
  pub due : Due heads room L rest
  pub some : (x : ℕ) → x < n → ¬ (get_or L x 0 ≡ 0)

module _ {heads : List Head} {room touching goals : List ℕ} {n : ℕ} (net : Net heads room touching goals n) where
  module _ {y B L M : List ℕ} {rest : ℕ} (so : Sieving heads room goals y n B L rest) where
    -- a list has become empty
    pub sieved_dry : Dry (rules_at heads room) L M → Sieved (rules_at heads room) goals y n B None M
    sieved_dry s = record {
      long = s.toward.long ∙ so.long;
      within = λ x v h. so.within x v (s.toward.within x v h);
      keeps = λ a m. absurd (none a m);
      answer = none;
    }
      where
        none : (a : List ℕ) → ¬ Meets (rules_at heads room) goals y n B a
        none a m = let (x, z, d) = s.empty in d (toward_some net.known s.toward (so.keeps a m) x z)

    -- no rule is due any more
    spread_on : Quiet (rules_at heads room) L M → Sieving heads room goals y n B M 0
    spread_on s =
        let d = s.largest in
        let t : Toward (rules_at heads room) L M = record { long = d.long; within = d.within; most = d.most } in
        record {
          full = d.long ∙ so.full;
          words = so.words;
          long = d.long ∙ so.long;
          within = λ x v h. so.within x v (d.within x v h);
          keeps = λ a m. toward_meets net.known t (so.keeps a m);
          due = record {
            known = λ k h. absurd (omega (arith, zero_bit k));
            others = λ k l z. closed_by_each heads room M d.closed k l;
          };
          some = λ x l z. so.some x l (s.alive x z);
        }

  module _ {y B L M : List ℕ} {rest : ℕ} (from : Sieving heads room goals y n B L rest) (spread : Quiet (rules_at heads room) L M) where
    so : Sieving heads room goals y n B M 0
    so = spread_on from spread

    pub sieving_aims : Aims goals M
    sieving_aims = record {
      most = net.most;
      lists = so.full;
      known = λ j l. omega (arith, net.variables, net.named (get_or goals j 0) (named_at goals j l));
    }

    pub sieving_open : Open goals M
    sieving_open j l = so.some (get_or goals j 0) (net.named (get_or goals j 0) (named_at goals j l))

    module _ {r : Option ℕ} {K : List ℕ} (f : Raised goals y M r K) where
      raised_keeps : (a : List ℕ) → Meets (rules_at heads room) goals y n B a → Meets (rules_at heads room) goals y n K a
      raised_keeps a m =
          let g = so.keeps a m in
          meets_in g (λ x l. f.keeps a (λ z i. g.inside z (net.named z i)) g.reaches x (g.inside x l))

      raised_within : K ⊑ B
      raised_within x v h = so.within x v (f.within x v h)

      raised_some : (x : ℕ) → x < n → ¬ (get_or K x 0 ≡ 0)
      raised_some x l z = so.some x l (f.some x z)

      -- the thresholds are out of reach
      pub sieved_dead : ((a : List ℕ) → Fits goals M a → ¬ Reaches y (values_at a goals)) → Sieved (rules_at heads room) goals y n B None K
      sieved_dead none = record {
        long = f.long ∙ so.long;
        within = raised_within;
        keeps = raised_keeps;
        answer = λ a m. let g = so.keeps a m in none a (λ z i. g.inside z (net.named z i)) g.reaches;
      }

      module _ {c : ℕ} (in_reach : Reached goals y M K c) where
        -- the thresholds drop nothing
        pub sieved_live : c ≡ 0 → Sieved (rules_at heads room) goals y n B (Some tt) K
        sieved_live z =
            let same : K ≡ M = changed_none f.long (rw z at in_reach.changed) in
            record {
              long = f.long ∙ so.long;
              within = raised_within;
              keeps = raised_keeps;
              answer = record {
                closed = rw same (closed_by_all heads room M (λ k l. so.due.others k l (zero_bit k)));
                some = raised_some;
                top = λ a long inside greatest. in_reach.top a (λ x i. inside x (net.named x i)) (λ x v i. greatest x v (net.named x i));
              };
            }

        -- a list that changed is not empty
        pub raised_full : ¬ AffectedBy touching K c None
        raised_full (x, h, z) = in_reach.changed.other x h (z ∙ sym (f.some x z))

        -- the rules on the changed variables are due
        pub sieving_on : {after : ℕ} → Touched touching K c after → Sieving heads room goals y n B K after
        sieving_on {after} by = record {
          full = f.long ∙ so.full;
          words = so.words;
          long = f.long ∙ so.long;
          within = raised_within;
          keeps = raised_keeps;
          due = record {
            known = λ k h. let (x, g, i) = by.only k h in net.sets.only x k i;
            others = λ k l none. closed_kept M K (untouched k l none) (so.due.others k l (zero_bit k));
          };
          some = raised_some;
        }
          where
            untouched : (k : ℕ) → k < length heads → Lacks after k → (x : ℕ) → Memᴰ x (scope_of (rule_at heads room k)) → get_or K x 0 ≡ get_or M x 0
            untouched k l none x i =
                in_reach.changed.same x
                (⊎_elim (λ z. z) (λ h. absurd (let g = by.all x k h (net.sets.all k l x i) in omega arith)) (bit_cases c x))

        pub sieving_less : ¬ (c ≡ 0) → weight K < weight L
        sieving_less some =
            omega (
              arith,
              weight_le M L spread.largest.within,
              changed_some f.long so.full (words_below M B so.words so.within) f.within in_reach.changed (omega arith),
            )
