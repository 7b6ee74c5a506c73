-- Any two results that a public contract of this crate allows are the same. A u64 is below 2 ^ 64. Assumes nothing.
use mathlib.Core.Path.{◌≡◌, refl, sym, ap, ◌∙◌}
use mathlib.Core.Logic.{by_cases}
use mathlib.Core.Bool.{Bool, true, false}
use Prim.Native.Nat.{ℕ, ◌^◌, ◌<◌}
use native.Mathlib.Omega.{arith}
use native.Mathlib.Decide.{ℕ_discrete, dec_lt}
use lib.Count.{count_trailing_zeros}
use Rattle.meaning.specs.Limits.{value_limit}
use Rattle.meaning.specs.Values.{bit}
use Rattle.meaning.proofs.Digits.{ext, ext_all}
use Rattle.meaning.proofs.Sets.{has_nonzero}
use Rattle.values.specs.Sets.{Tells, TellsSingle, Alone, Removed, Added, Shared, Less, Lowest, Highest, Dropped, Counts, AtOrAbove, First}
use Rattle.values.proofs.Ends.{lowest_trailing}

-- ---- tests

-- two answers that each say whether P holds, where P excludes N
same_answer : {P N : Type 0} → (P → N → ⊥) → (a b : Bool) → (a ≡ true → P) → (a ≡ false → N) → (b ≡ true → P) → (b ≡ false → N)
    → a ≡ b
same_answer f true true p n q o = refl
same_answer f true false p n q o = absurd (f (p refl) (o refl))
same_answer f false true p n q o = absurd (f (q refl) (n refl))
same_answer f false false p n q o = refl

pub tells_unique : (m v : ℕ) (a b : Bool) → Tells m v a → Tells m v b → a ≡ b
tells_unique m v a b x y = same_answer (λ h l. omega arith) a b x.yes x.no y.yes y.no

pub single_unique : (m : ℕ) (a b : Bool) → TellsSingle m a → TellsSingle m b → a ≡ b
single_unique m a b x y = same_answer (λ h l. l h) a b x.yes x.no y.yes y.no

-- ---- numbers

pub count_unique : (m a b : ℕ) → Counts m a → Counts m b → a ≡ b
count_unique m a b x y = x ∙ sym y

-- neither of two numbers is below the other
same_place : (a b : ℕ) → ¬ (a < b) → ¬ (b < a) → a ≡ b
same_place a b f g = go (dec_lt a b) (dec_lt b a)
  where
    go : Dec (a < b) → Dec (b < a) → a ≡ b
    go (yes h) d = absurd (f h)
    go (no h) (yes k) = absurd (g k)
    go (no h) (no k) = omega arith

lowest_not_below : (m a b : ℕ) → Lowest m a → Lowest m b → ¬ (a < b)
lowest_not_below m a b x y l = let h = x.here (omega arith) in let z = y.none a l in omega arith

pub lowest_unique : (m a b : ℕ) → Lowest m a → Lowest m b → a ≡ b
lowest_unique m a b x y = same_place a b (lowest_not_below m a b x y) (lowest_not_below m b a y x)

highest_not_below : (m a b : ℕ) → Highest m a → Highest m b → ¬ (a < b)
highest_not_below m a b x y l =
    let k = y.some (has_nonzero m a (x.here (omega arith))) in
    let h = y.here k in
    let z = x.none b l in
    omega arith

pub highest_unique : (m a b : ℕ) → Highest m a → Highest m b → a ≡ b
highest_unique m a b x y = same_place a b (highest_not_below m a b x y) (highest_not_below m b a y x)

-- ---- sets

module _ (a b : ℕ) where
  -- equal at v and at every other
  same_but : (v : ℕ) → bit a v ≡ bit b v → ((w : ℕ) → ¬ (w ≡ v) → bit a w ≡ bit b w) → a ≡ b
  same_but v e f = ext_all a b (λ w. by_cases (ℕ_discrete w v) (λ q. ap (bit a) q ∙ e ∙ ap (bit b) (sym q)) (f w))

  pub alone_unique : (v : ℕ) → Alone v a → Alone v b → a ≡ b
  alone_unique v x y =
      by_cases (dec_lt v value_limit) (λ l. same_but v (x.here l ∙ sym (y.here l)) (λ w d. x.others w d ∙ sym (y.others w d)))
      (λ l. x.empty (omega arith) ∙ sym (y.empty (omega arith)))

  pub removed_unique : (m v : ℕ) → Removed m v a → Removed m v b → a ≡ b
  removed_unique m v x y = same_but v (x.gone ∙ sym y.gone) (λ w d. x.kept w d ∙ sym (y.kept w d))

  pub added_unique : (m v : ℕ) → Added m v a → Added m v b → a ≡ b
  added_unique m v x y =
      by_cases (dec_lt v value_limit) (λ l. same_but v (x.here l ∙ sym (y.here l)) (λ w d. x.kept w d ∙ sym (y.kept w d)))
      (λ l. x.same (omega arith) ∙ sym (y.same (omega arith)))

  pub shared_unique : (m n : ℕ) → Shared m n a → Shared m n b → a ≡ b
  shared_unique m n x y = ext_all a b (λ w. x.digit w ∙ sym (y.digit w))

  pub less_unique : (m n : ℕ) → Less m n a → Less m n b → a ≡ b
  less_unique m n x y = ext_all a b (λ w. x.digit w ∙ sym (y.digit w))

  -- m is a u64
  pub dropped_unique : (m : ℕ) → m < 2 ^ 64 → Dropped m a → Dropped m b → a ≡ b
  dropped_unique m h x y =
      let l = lowest_trailing m h in
      removed_unique m (count_trailing_zeros 64 m) (x.least (count_trailing_zeros 64 m) l) (y.least (count_trailing_zeros 64 m) l)

  pub above_unique : (m v : ℕ) → AtOrAbove m v a → AtOrAbove m v b → a ≡ b
  above_unique m v x y =
      ext_all a b (λ w. by_cases (dec_lt w v) (λ k. x.below w k ∙ sym (y.below w k)) (λ k. x.kept w (omega arith) ∙ sym (y.kept w (omega arith))))

  -- a and b are each a u64
  pub first_unique : a < 2 ^ 64 → b < 2 ^ 64 → (s : ℕ) → First s a → First s b → a ≡ b
  first_unique ha hb s x y =
      ext a b ha hb (λ w l. by_cases (dec_lt w s) (λ k. x.here w k l ∙ sym (y.here w k l)) (λ k. x.none w (omega arith) ∙ sym (y.none w (omega arith))))
