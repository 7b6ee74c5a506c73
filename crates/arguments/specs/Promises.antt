-- What the tests of a call's arguments promise: each answer r says whether one of document 01's tests holds.
use Rattle.std.specs.Prelude.{◌≡◌, Bool, List, ℕ, leb, eqb, ℤ}
use Rattle.meaning.specs.Limits.{value_limit, coefficient_limit, bound_limit}
use Rattle.meaning.specs.Calls.{some, same, repeats, beyond}
use Rattle.tuples.specs.Rows.{tuples_in}

-- one of the variables isn't below the count
abbrev pub AnyUnknown : List ℕ → ℕ → Bool → Type 0
AnyUnknown variables count r = r ≡ some (leb count) variables

-- one of the values is 64 or more
abbrev pub AnyLarge : List ℕ → Bool → Type 0
AnyLarge values r = r ≡ some (leb value_limit) values

-- x is one of the variables
abbrev pub IsNamed : List ℕ → ℕ → Bool → Type 0
IsNamed variables x r = r ≡ some (eqb x) variables

-- a variable stands twice
abbrev pub AnyTwice : List ℕ → Bool → Type 0
AnyTwice variables r = r ≡ repeats eqb variables

-- a tuple stands twice, where so many cells make one
abbrev pub TupleTwice : List ℕ → ℕ → Bool → Type 0
TupleTwice cells arity r = r ≡ repeats same (tuples_in arity cells)

-- the bound is below −5,000,000 or above 5,000,000
abbrev pub BeyondBound : ℤ → Bool → Type 0
BeyondBound bound r = r ≡ beyond bound_limit bound

-- one of the coefficients is below −1,000 or above 1,000
abbrev pub AnyBeyond : List ℤ → Bool → Type 0
AnyBeyond coefficients r = r ≡ some (beyond coefficient_limit) coefficients
