-- What comparing two profiles answers.
use Rattle.std.specs.Prelude.{◌≡◌, Bool, true, false, List, [], ℕ}
use Rattle.std.specs.Borrow.{Bor}
use Rattle.meaning.specs.Order.{◌≺◌, Better, comparable}

-- the answer to whether u is larger than w at the first place where they differ
pub record IsLarger (u w : List ℕ) (r : Bool) : Type 0 where
  pub when_true : r ≡ true → w ≺ u
  pub when_false : r ≡ false → ¬ (w ≺ u)

-- the answer to whether the profile u is better than w
pub record IsBetter (u w : List ℕ) (r : Bool) : Type 0 where
  pub when_true : r ≡ true → (comparable u w ≡ true) × Better u w
  pub when_false : r ≡ false → comparable u w ≡ true → ¬ Better u w

-- r is the empty part of the lent slice s: it begins where s does, and has no element
pub record EmptyPart (s r : Bor (List ℕ)) : Type 0 where
  pub begins : r.ref_ptr ≡ s.ref_ptr
  pub empty : r.now ≡ []

-- the slice handed back is one of the two lent ones, or the empty part of the first
pub record BetterOf (first second r : Bor (List ℕ)) : Type 0 where
  pub second_better : comparable first.now second.now ≡ true → Better second.now first.now → r ≡ second
  pub first_otherwise : comparable first.now second.now ≡ true → ¬ Better second.now first.now → r ≡ first
  pub not_compared : comparable first.now second.now ≡ false → EmptyPart first r
