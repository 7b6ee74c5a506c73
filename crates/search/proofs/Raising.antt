-- The thresholds place by place: what has been tested and dropped so far, and what that comes to. Assumes nothing.
use mathlib.Core.Path.{◌≡◌, refl, sym, ap, ◌∙◌}
use mathlib.Core.Logic.{by_cases}
use Rattle.std.specs.Prelude.{None, Some}
use mathlib.Core.List.{List, Memᴰ}
use Prim.Native.Nat.{ℕ, ◌+◌, ◌-◌, ◌≤◌, ◌<◌}
use native.Mathlib.Nat.{not-suc-le-zero}
use native.Mathlib.Decide.{dec_lt}
use native.Mathlib.Omega.{arith}
use lib.Bits.{bit_or}
use lib.ListN.{length, get_or}
use borrow.Author.Count.{below_more}
use Rattle.meaning.specs.Values.{Has}
use Rattle.meaning.specs.Rules.{at, values_at}
use Rattle.meaning.specs.Lists.{Left}
use Rattle.meaning.proofs.Digits.{zero_bit}
use Rattle.meaning.proofs.Counting.{reach}
use Rattle.meaning.proofs.Greedy.{Reaches}
use Rattle.blocks.specs.Keeping.{Changed}
use Rattle.search.specs.Thresholds.{Aims, Tops, Lifted, Fits, Raised}
use Rattle.filters.proofs.Sifting.{same_changed}
use Rattle.search.proofs.Lifting.{changed_join}
use Rattle.search.proofs.Reaching.{reach_zero, values_length, reach_below, must_reach, tops_are}

-- the first i thresholds are within reach of the tops; K is what is left of L
pub record Raising (goals floors tops L K : List ℕ) (c i : ℕ) : Type 0 where
  pub long : length K ≡ length L
  pub within : (x v : ℕ) → Left K x v → Left L x v
  pub changed : Changed L K c
  pub some : (x : ℕ) → get_or K x 0 ≡ 0 → get_or L x 0 ≡ 0
  pub keeps : (a : List ℕ) → Fits goals L a → Reaches floors (values_at a goals) → (x : ℕ) → Left L x (at a x) → Left K x (at a x)
  pub even : length tops ≡ length goals
  pub topped : Tops goals (length goals) K tops
  pub enough : (k : ℕ) → k < i → length goals - k ≤ reach (get_or floors k 0) tops

pub raising_start : (goals floors tops L : List ℕ) → length tops ≡ length goals → Tops goals (length goals) L tops → Raising goals floors tops L L 0 0
raising_start goals floors tops L even t = record {
  even = even;
  long = refl;
  within = λ x v h. h;
  changed = same_changed L;
  some = λ x e. e;
  keeps = λ a f r x h. h;
  topped = t;
  enough = λ k l. absurd (not-suc-le-zero l);
}

-- ---- lifting lists

-- no top is lost
lifted_tops : {goals tops : List ℕ} {floor c : ℕ} {L K : List ℕ} → Tops goals (length goals) L tops → Lifted goals (length goals) tops floor L K c
    → Tops goals (length goals) K tops
lifted_tops {goals} {tops} {floor} {c} {L} {K} t f = record {
  here = λ j l. by_cases (dec_lt (get_or tops j 0) floor) (low j l) (λ n. f.high (get_or goals j 0) (get_or tops j 0) (omega arith) (t.here j l));
  most = λ j v l h. t.most j v l (f.within (get_or goals j 0) v h);
}
  where
    low : (j : ℕ) → j < length goals → get_or tops j 0 < floor → Left K (get_or goals j 0) (get_or tops j 0)
    low j l s =
        let same = f.others (get_or goals j 0) (λ i m g e. absurd (let u = t.most j (get_or tops i 0) l (rw e (t.here i m)) in omega arith)) in
        rw same (t.here j l)

lifted_some : {goals tops : List ℕ} {floor c : ℕ} {L K : List ℕ} → Tops goals (length goals) L tops → Lifted goals (length goals) tops floor L K c
    → (x : ℕ) → get_or K x 0 ≡ 0 → get_or L x 0 ≡ 0
lifted_some {goals} {tops} {floor} {c} {L} {K} t f x z =
    sym (f.others x (λ j l g e.
    let h : Left K x (get_or tops j 0) = rw e ((lifted_tops t f).here j l) in
    let o : Has 0 (get_or tops j 0) = rw z at h in
    absurd (omega (arith, zero_bit (get_or tops j 0))))) ∙ z

-- ---- one threshold

module _ {goals floors tops L K : List ℕ} {c i : ℕ} (aims : Aims goals L) (inside : i < length floors) (so : Raising goals floors tops L K c i) where
  -- what reaching the thresholds asks at this place
  asked : (a : List ℕ) → Reaches floors (values_at a goals) → length goals - i ≤ reach (get_or floors i 0) (values_at a goals)
  asked a r =
      let here = r i inside in
      omega (arith, values_length so.even so.topped a)

  fits_on : (a : List ℕ) → Fits goals L a → Reaches floors (values_at a goals) → Fits goals K a
  fits_on a f r x m = so.keeps a f r x (f x m)

  pub raising_dead : reach (get_or floors i 0) tops < length goals - i → Raised goals floors L None K
  raising_dead few = record {
    long = so.long;
    within = so.within;
    some = so.some;
    keeps = so.keeps;
    answer = λ a f r. omega (arith, asked a r, reach_below so.even so.topped a (fits_on a f r) (get_or floors i 0));
  }

  pub raising_on : length goals - i ≤ reach (get_or floors i 0) tops → Raising goals floors tops L K c (i + 1)
  raising_on more = record {
    long = so.long;
    within = so.within;
    changed = so.changed;
    some = so.some;
    keeps = so.keeps;
    even = so.even;
    topped = so.topped;
    enough = below_more (λ k. length goals - k ≤ reach (get_or floors k 0) tops) i so.enough more;
  }

  -- a threshold of 0 asks nothing
  pub raising_free : get_or floors i 0 ≡ 0 → Raising goals floors tops L K c (i + 1)
  raising_free z = raising_on (rw z (omega (arith, reach_zero tops, so.even)))

  module _ {d : ℕ} {M : List ℕ} (just : reach (get_or floors i 0) tops ≡ length goals - i)
      (f : Lifted goals (length goals) tops (get_or floors i 0) K M d) where
    lift_keeps : (a : List ℕ) → Fits goals L a → Reaches floors (values_at a goals) → (x : ℕ) → Left L x (at a x) → Left M x (at a x)
    lift_keeps a g r x h = by_cases (dec_lt (at a x) (get_or floors i 0)) low (λ n. f.high x (at a x) (omega arith) here)
      where
        here : Left K x (at a x)
        here = so.keeps a g r x h

        high : (j : ℕ) → j < length goals → get_or floors i 0 ≤ get_or tops j 0 → get_or floors i 0 ≤ at a (get_or goals j 0)
        high = must_reach so.even so.topped a (fits_on a g r) (get_or floors i 0) (omega (arith, asked a r))

        low : at a x < get_or floors i 0 → Left M x (at a x)
        low l = rw (f.others x (λ j m t e. absurd (let u = high j m t in omega (arith, ap (at a) e)))) here

    pub raising_lift : Raising goals floors tops L M (bit_or c d) (i + 1)
    raising_lift = record {
      long = f.long ∙ so.long;
      within = λ x v h. so.within x v (f.within x v h);
      changed = changed_join so.within f.within so.changed f.changed;
      some = λ x z. so.some x (lifted_some so.topped f x z);
      keeps = lift_keeps;
      even = so.even;
      topped = lifted_tops so.topped f;
      enough = below_more (λ k. length goals - k ≤ reach (get_or floors k 0) tops) i so.enough (omega arith);
    }

-- ---- all thresholds

pub raising_end : {goals floors tops L K : List ℕ} {c i : ℕ} → length floors ≤ i → Raising goals floors tops L K c i → Raised goals floors L (Some c) K
raising_end {goals} {floors} {tops} {L} {K} all so = record {
  long = so.long;
  within = so.within;
  some = so.some;
  keeps = so.keeps;
  answer = record { changed = so.changed; top = top };
}
  where
    top : (a : List ℕ) → Fits goals K a → ((x v : ℕ) → Memᴰ x goals → Left K x v → v ≤ at a x) → Reaches floors (values_at a goals)
    top a f g k l =
        let e = tops_are so.even so.topped a f g in
        rw e (omega (arith, so.enough k (omega arith), so.even))
