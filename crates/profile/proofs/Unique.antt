-- Any two results that a public contract of this crate allows are the same.
-- Assumes nothing.
use mathlib.Core.Path.{◌≡◌, refl, ap, sym, ◌∙◌}
use mathlib.Core.Logic.{by_cases}
use mathlib.Core.Bool.{Bool, true, false}
use mathlib.Core.List.{List}
use Prim.Native.Nat.{ℕ}
use denote.Ref.{Bor}
use denote.Slice.{shr_slice_vals}
use Rattle.meaning.specs.Order.{comparable}
use Rattle.meaning.proofs.Leximin.{better_dec}
use Rattle.profile.specs.declared.Sorted.{Sorted}
use Rattle.profile.specs.Upwards.{SortedUp}
use Rattle.profile.specs.Compared.{IsBetter, BetterOf}
use Rattle.profile.proofs.Lengths.{comparable_lengths}

pub sorted_up_unique : (p : List ℕ) (s t : Sorted) → SortedUp p s → SortedUp p t → s ≡ t
sorted_up_unique p s t h k =
    let count : s.count ≡ t.count = h.counted ∙ sym k.counted in
    let values : s.values ≡ t.values = h.upwards ∙ sym k.upwards in
    λ i. record { values = values i; count = count i }

pub is_better_unique : (u w : List ℕ) (r s : Bool) → IsBetter u w r → IsBetter u w s → r ≡ s
is_better_unique u w true true h k = refl
is_better_unique u w true false h k = let (c, b) = h.when_true refl in absurd (k.when_false refl c b)
is_better_unique u w false true h k = let (c, b) = k.when_true refl in absurd (h.when_false refl c b)
is_better_unique u w false false h k = refl

-- ---- the slice handed back

-- one slice of memory: it begins at the same place and has the same elements. Two references to it may differ in their ghost name,
-- which no code can see
pub record OneSlice (r s : Bor (List ℕ)) : Type 0 where
  pub begins : r.ref_ptr ≡ s.ref_ptr
  pub elements : r.now ≡ s.now

-- so the pointer and the count that a machine holds are the same
pub one_slice_vals : (r s : Bor (List ℕ)) → OneSlice r s → shr_slice_vals r ≡ shr_slice_vals s
one_slice_vals r s o = cc

module _ (first second r s : Bor (List ℕ)) (h : BetterOf first second r) (k : BetterOf first second s) where
  -- of two profiles that can be compared, the very reference
  pub better_of_one : comparable first.now second.now ≡ true → r ≡ s
  better_of_one c =
      by_cases (better_dec first.now second.now (comparable_lengths first.now second.now c).0)
      (λ b. h.second_better c b ∙ sym (k.second_better c b)) (λ n. h.first_otherwise c n ∙ sym (k.first_otherwise c n))

  pub better_of_unique : OneSlice r s
  better_of_unique = step (comparable first.now second.now) refl
    where
      step : (b : Bool) → comparable first.now second.now ≡ b → OneSlice r s
      step true c = let e = better_of_one c in record { begins = ap (λ x. x.ref_ptr) e; elements = ap (λ x. x.now) e }
      step false c =
          let p = h.not_compared c in
          let q = k.not_compared c in
          record { begins = p.begins ∙ sym q.begins; elements = p.empty ∙ sym q.empty }
