-- What the slack of a linear rule says of support: the values within it of their term's least have support, and no others.
-- Assumes nothing.
use mathlib.Core.Path.{◌≡◌, sym, ap, ◌∙◌}
use mathlib.Core.Logic.{◌↔◌}
use Rattle.std.specs.Prelude.{Option, Some, None}
use Rattle.std.specs.Option.{SomeIff}
use mathlib.Core.List.{List, map, Memᴰ}
use Prim.Native.Nat.{ℕ, ◌+◌, ◌-◌, ◌*◌, ◌≤◌, ◌<◌}
use native.Mathlib.Omega.{arith}
use lib.IntN.{ℤ, pos, ◌+ℤ◌, ◌*ℤ◌}
use lib.ListN.{length, get_or, drop, length-map, drop_of_length-le}
use lib.Signed.{◌≤ℤ◌}
use Rattle.meaning.specs.Limits.{coefficient_limit, bound_limit}
use Rattle.meaning.specs.Values.{bit, Has}
use Rattle.meaning.specs.Rules.{Rule, sum}
use Rattle.meaning.specs.Lists.{Left, Supported}
use Rattle.meaning.specs.Proper.{Distinct}
use Rattle.meaning.proofs.Digits.{zero_bit}
use Rattle.meaning.proofs.Whole.{up, dn, le_in, le_out, sum_parts}
use Rattle.meaning.proofs.Linear.{sum_but, sum_but_lem, linear_support}
use Rattle.meaning.proofs.Listed.{Words}
use Rattle.filters.specs.Layout.{unshift}
use Rattle.filters.specs.Filter.{Ready}
use Rattle.filters.specs.Linear.{linear_of, rise, fall, NearAt, Leaves}
use Rattle.filters.proofs.Sifting.{at_mem, mem_at}
use Rattle.filters.proofs.Terms.{unshift_parts, at_map, term_up, term_dn, least_at, least_has, least_term, leasts, leasts_at, leasts_length, leasts_sum, leasts_least, weighed}
use Rattle.filters.proofs.Summing.{Summed}

-- there are as many coefficients as variables
pub kept_long : (s ks L : List ℕ) (bound : ℕ) → Ready (linear_of s ks bound) L → length s ≡ length ks
kept_long s ks L bound ready = sym ready.proper.parts.long ∙ length-map ks (unshift coefficient_limit)

module _ (L s ks : List ℕ) (bound : ℕ) where
  abbrev rule : Rule
  rule = linear_of s ks bound

  -- nothing has support beside an empty list
  pub empty_leaves : (x : ℕ) → Memᴰ x s → get_or L x 0 ≡ 0 → Leaves rule ks L None
  empty_leaves x m e = record { none = λ q. none; some = λ n q. (cc) }
    where
      lacks : (v : ℕ) → ¬ Left L x v
      lacks v h = let z = ap (λ (n : ℕ). bit n v) e ∙ zero_bit v in omega arith

      none : (j v : ℕ) → j < length s → Left L (get_or s j 0) v → ¬ Supported L rule (get_or s j 0) v
      none j v l h w = lacks _ (w.others x m (λ q. lacks v (rw q h)))

  module _ (fit : Words L) (once : Distinct s) (long : length s ≡ length ks) (some : (x : ℕ) → Memᴰ x s → 0 < get_or L x 0)
      (j v : ℕ) (inside : j < length s) (left : Left L (get_or s j 0) v) where
    abbrev k : ℕ
    k = get_or ks j 0

    abbrev w : ℕ
    w = least_at (get_or ks j 0) (get_or L (get_or s j 0) 0)

    abbrev coefficients : List ℤ
    coefficients = map (unshift coefficient_limit) ks

    -- the sum of the other terms
    abbrev others : ℤ
    others = sum_but j coefficients (leasts L s ks)

    with_value : ℕ → ℤ
    with_value y = (unshift coefficient_limit k *ℤ pos y) +ℤ others

    with_parts : (y : ℕ) → up (with_value y) + (fall k * y + dn others) ≡ dn (with_value y) + (rise k * y + up others)
    unfolding with_value
    with_parts y = omega (arith, sum_parts (unshift coefficient_limit k *ℤ pos y) others, term_up k y, term_dn k y)

    least_sum : sum coefficients (leasts L s ks) ≡ with_value w
    unfolding with_value
    least_sum =
        sum_but_lem coefficients (leasts L s ks) j (omega (arith, length-map ks (unshift coefficient_limit))) (omega (arith, leasts_length L s ks long))
        ∙ rw (at_map ks j (omega arith), leasts_at L s ks j inside (omega arith))

    -- support, in naturals
    abbrev Bounded : Type 0
    Bounded = rise k * v + fall k * w + (bound_limit + weighed rise L s ks) ≤ bound + weighed fall L s ks + (rise k * w + fall k * v)

    bounded_iff : (with_value v ≤ℤ unshift bound_limit bound) ↔ Bounded
    bounded_iff =
        let a = with_parts v in
        let b = with_parts w in
        let c = leasts_sum L s ks in
        let d = ap up least_sum in
        let e = ap dn least_sum in
        let f = unshift_parts bound_limit bound in
        (λ h. omega (arith, le_out (with_value v) (unshift bound_limit bound) h), λ h. le_in (with_value v) (unshift bound_limit bound) (omega arith))

    support_iff : Supported L rule (get_or s j 0) v ↔ Bounded
    unfolding with_value
    support_iff =
        let law = linear_support L s once j inside v left coefficients (unshift bound_limit bound) (omega (arith, length-map ks (unshift coefficient_limit)))
        (leasts L s ks) (leasts_least L fit s ks long some) in
        let same = rw (at_map ks j (omega arith)) at law in
        (λ h. bounded_iff.0 (same.0 h), λ h. same.1 (bounded_iff.1 h))

    pub near_iff : (above below : ℕ) → above ≡ bound_limit + weighed rise L s ks → below ≡ bound + weighed fall L s ks → above ≤ below
        → Supported L rule (get_or s j 0) v ↔ NearAt L s ks (below - above) j v
    near_iff above below p q l = (
      λ h y g. omega (arith, support_iff.0 h, least y g),
      λ n. support_iff.1 (omega (arith, n w (least_has k m (fit (get_or s j 0)) one))),
    )
      where
        m : ℕ
        m = get_or L (get_or s j 0) 0

        one : 0 < m
        one = some (get_or s j 0) (at_mem s j inside)

        least : (y : ℕ) → Has m y → rise k * w + fall k * y ≤ rise k * y + fall k * w
        least = least_term k m (fit (get_or s j 0)) one

    pub past_none : (above below : ℕ) → above ≡ bound_limit + weighed rise L s ks → below ≡ bound + weighed fall L s ks → below < above
        → ¬ Supported L rule (get_or s j 0) v
    past_none above below p q l h =
        omega (arith, support_iff.0 h, least_term k (get_or L (get_or s j 0) 0) (fit (get_or s j 0)) (some (get_or s j 0) (at_mem s j inside)) v left)

-- once every term is summed
module _ (s ks : List ℕ) (bound : ℕ) (L : List ℕ) (ready : Ready (linear_of s ks bound) L) (fit : Words L)
    (i above below : ℕ) (so : Summed L s ks bound i above below) (end : length s ≤ i) where
  nothing_left : (f : ℕ → ℕ) → weighed f L (drop i s) (drop i ks) ≡ 0
  unfolding weighed
  nothing_left f = rw (drop_of_length-le s {i = i} end)

  all_rising : above ≡ bound_limit + weighed rise L s ks
  all_rising = omega (arith, so.rising, nothing_left rise)

  all_falling : below ≡ bound + weighed fall L s ks
  all_falling = omega (arith, so.falling, nothing_left fall)

  all_some : (x : ℕ) → Memᴰ x s → 0 < get_or L x 0
  all_some x m = let (j, l, e) = mem_at s x m in rw e (so.some j (omega arith))

  slack_leaves : above ≤ below → Leaves (linear_of s ks bound) ks L (Some (below - above))
  slack_leaves l = record {
    none = λ q. (cc);
    some = λ n q j v inside left.
        let e : below - above ≡ n = (cc) in
        rw e at (near_iff L s ks bound fit ready.proper.once (kept_long s ks L bound ready) all_some j v inside left above below all_rising all_falling l);
  }

  past_leaves : below < above → Leaves (linear_of s ks bound) ks L None
  past_leaves l = record {
    none = λ q j v inside left. past_none L s ks bound fit ready.proper.once (kept_long s ks L bound ready) all_some j v inside left above below all_rising all_falling l;
    some = λ n q. (cc);
  }

  pub summed_leaves : (slack : Option ℕ) → SomeIff slack (above ≤ below) (below - above) → Leaves (linear_of s ks bound) ks L slack
  summed_leaves None past = past_leaves (omega arith)
  summed_leaves (Some n) (l, e) = rw e (slack_leaves l)
