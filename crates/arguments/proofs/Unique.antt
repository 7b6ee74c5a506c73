-- Any two results that a public contract of this crate allows are the same. Assumes nothing.
use mathlib.Core.Path.{◌≡◌, sym, ◌∙◌}
use mathlib.Core.Bool.{Bool}
use mathlib.Core.List.{List}
use Prim.Native.Nat.{ℕ}
use lib.IntN.{ℤ}
use Rattle.arguments.specs.Promises.{AnyUnknown, AnyLarge, IsNamed, AnyTwice, TupleTwice, BeyondBound, AnyBeyond}

module _ (r s : Bool) where
  pub any_unknown_unique : (variables : List ℕ) (count : ℕ) → AnyUnknown variables count r → AnyUnknown variables count s → r ≡ s
  any_unknown_unique variables count h k = h ∙ sym k

  pub any_large_unique : (values : List ℕ) → AnyLarge values r → AnyLarge values s → r ≡ s
  any_large_unique values h k = h ∙ sym k

  pub is_named_unique : (variables : List ℕ) (x : ℕ) → IsNamed variables x r → IsNamed variables x s → r ≡ s
  is_named_unique variables x h k = h ∙ sym k

  pub any_twice_unique : (variables : List ℕ) → AnyTwice variables r → AnyTwice variables s → r ≡ s
  any_twice_unique variables h k = h ∙ sym k

  pub tuple_twice_unique : (cells : List ℕ) (arity : ℕ) → TupleTwice cells arity r → TupleTwice cells arity s → r ≡ s
  tuple_twice_unique cells arity h k = h ∙ sym k

  pub beyond_bound_unique : (bound : ℤ) → BeyondBound bound r → BeyondBound bound s → r ≡ s
  beyond_bound_unique bound h k = h ∙ sym k

  pub any_beyond_unique : (coefficients : List ℤ) → AnyBeyond coefficients r → AnyBeyond coefficients s → r ≡ s
  any_beyond_unique coefficients h k = h ∙ sym k
