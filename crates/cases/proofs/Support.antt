-- Support, tested by going through the values left of a rule's other variables. Assumes nothing.
use mathlib.Core.Path.{◌≡◌, sym, ◌∙◌}
use mathlib.Core.Logic.{by_cases}
use mathlib.Core.Bool.{Bool}
use mathlib.Core.List.{List, [], ◌∷◌, Memᴰ}
use Prim.Native.Nat.{ℕ, zero, suc, ◌^◌, ◌<◌}
use native.Mathlib.Nat.{not-suc-le-zero, le_of_suc-le-suc}
use native.Mathlib.Omega.{arith}
use native.Mathlib.Decide.{ℕ_discrete}
use lib.Dec.{T, eqb→eq}
use lib.Pow.{pow-lt}
use lib.ListN.{length, get_or, set}
use lib.Seq.{get_or-set_same, get_or-set_other}
use Rattle.meaning.specs.Limits.{value_limit}
use Rattle.meaning.specs.Values.{bit, Has}
use Rattle.meaning.specs.Rules.{Rule, scope_of, values_at, at}
use Rattle.meaning.specs.Lists.{Left, Supported}
use Rattle.meaning.specs.Proper.{Distinct}
use Rattle.meaning.proofs.Tests.{and_left, and_right}
use Rattle.meaning.proofs.Digits.{bit_pow_same, bit_pow_other}
use Rattle.meaning.proofs.Listed.{has, listed, live, live_is, Words}
use Rattle.meaning.proofs.Assignments.{values_live, tuple_iff}
use Rattle.cases.proofs.Tests.{some_in_box, found, finds}
use Rattle.cases.proofs.Judging.{okay, okay_says}

-- each value of a live tuple is left to its variable
pub live_at : (L s t : List ℕ) → T (live L s t) → (j : ℕ) → j < length s → Left L (get_or s j 0) (get_or t j 0)
live_at L [] t h j l = absurd (not-suc-le-zero l)
live_at L (x ∷ s) [] h j l = absurd h
live_at L (x ∷ s) (v ∷ t) h zero l = eqb→eq (bit (get_or L x 0) v) 1 (and_left (has (get_or L x 0) v) (live L s t) h)
live_at L (x ∷ s) (v ∷ t) h (suc j) l = live_at L s t (and_right (has (get_or L x 0) v) (live L s t) h) j (le_of_suc-le-suc l)

place : {x : ℕ} {s : List ℕ} → Memᴰ x s → (j : ℕ) × (j < length s) × (get_or s j 0 ≡ x)
place (Memᴰ.head e) = (0, omega arith, sym e)
place (Memᴰ.tail m) = let w = place m in (suc w.0, omega (arith, w.1), w.2)

-- v has support at x: some tuple of values left satisfies the rule, with v alone left to x
unfoldable pub supports : List ℕ → Rule → ℕ → ℕ → Bool
supports L r x v = some_in_box (listed (set L x (2 ^ v)) (scope_of r)) (okay r)

module _ (L : List ℕ) (fit : Words L) (r : Rule) (x v : ℕ) (small : v < value_limit) (inside : x < length L) where
  only : List ℕ
  only = set L x (2 ^ v)

  only_here : Left only x v
  unfolding only
  only_here = rw (get_or-set_same L x (2 ^ v) 0 inside) (bit_pow_same v)

  only_says : (u : ℕ) → Left only x u → u ≡ v
  unfolding only
  only_says u h =
      by_cases (ℕ_discrete u v) (λ e. e) λ n.
      let k : Has (2 ^ v) u = rw (get_or-set_same L x (2 ^ v) 0 inside) at h in
      let z = bit_pow_other v u n in
      absurd (omega arith)

  only_words : Words only
  unfolding only
  only_words y =
      by_cases (ℕ_discrete y x) (λ e. rw (e, get_or-set_same L x (2 ^ v) 0 inside) (pow-lt small))
      (λ n. rw (get_or-set_other L x y (2 ^ v) 0 n) (fit y))

  pub supported_found : Supported L r x v → T (supports L r x v)
  unfolding supports only
  supported_found s =
      let a = s.by in
      let t = values_at a (scope_of r) in
      let l : T (live only (scope_of r) t) = values_live only (scope_of r) a λ y m.
      by_cases (ℕ_discrete y x) (λ e. rw (e, s.here) only_here) (λ n. rw (get_or-set_other L x y (2 ^ v) 0 n) (s.others y m n)) in
      finds (listed only (scope_of r)) (okay r) t (rw (live_is only only_words (scope_of r) t) l) ((okay_says r a).1 s.satisfied)

  pub found_supported : Distinct (scope_of r) → Memᴰ x (scope_of r) → T (supports L r x v) → Supported L r x v
  unfolding supports only
  found_supported d m h =
      let s = scope_of r in
      let (t, b, k) = found (listed only s) (okay r) h in
      let (j, l, e) = place m in
      let alive : T (live only s t) = rw (live_is only only_words s t) at b in
      let here : Left only (get_or s j 0) v = rw e only_here in
      let its : get_or t j 0 ≡ v = only_says (get_or t j 0) (rw e at (live_at only s t alive j l)) in
      let (a, there, others, fits) = (tuple_iff only s d j l v here (λ t. T (okay r t))).1 (t, alive, its, k) in
      record {
        by = a;
        here = rw e at there;
        others = λ y i n. rw (get_or-set_other L x y (2 ^ v) 0 n) at (others y i (λ q. n (q ∙ e)));
        satisfied = (okay_says r a).0 fits;
      }
