-- A search for a number that stands twice, element by element. Assumes nothing.
use mathlib.Core.Path.{◌≡◌, refl, sym, ap, ◌∙◌}
use mathlib.Core.Bool.{Bool, true, false}
use mathlib.Core.List.{List}
use Prim.Native.Nat.{ℕ, ◌+◌, ◌-◌, ◌≤◌, ◌<◌}
use lib.Dec.{eqb}
use lib.ListN.{length, get_or, take, drop}
use Rattle.meaning.specs.Calls.{some, repeats}
use Rattle.meaning.proofs.Searching.{repeats_steps, found_at, passed_at, missed_at}
use Rattle.tuples.proofs.Rows.{rest_is}

module _ (v : List ℕ) (i : ℕ) (inside : i < length v) where
  later_is : (b : Bool) → some (eqb (get_or v i 0)) (take (length v - (i + 1)) (drop (i + 1) v)) ≡ b → some (eqb (get_or v i 0)) (drop (i + 1) v) ≡ b
  later_is b e = sym (ap (some (eqb (get_or v i 0))) (rest_is v (i + 1))) ∙ e

  -- the number at a place stands again after it
  pub twice_here : some (eqb (get_or v i 0)) (take (length v - (i + 1)) (drop (i + 1) v)) ≡ true → repeats eqb (drop i v) ≡ true
  twice_here e = sym (found_at (repeats_steps eqb) v 0 i refl inside (later_is true e))

  -- it doesn't
  pub once_here : some (eqb (get_or v i 0)) (take (length v - (i + 1)) (drop (i + 1) v)) ≡ false → repeats eqb (drop (i + 1) v) ≡ repeats eqb (drop i v)
  once_here e = passed_at (repeats_steps eqb) v 0 i refl inside (later_is false e)

-- no number is left
pub none_left : (v : List ℕ) (i : ℕ) → length v ≤ i → repeats eqb (drop i v) ≡ false
none_left v i h = sym (missed_at (repeats_steps eqb) v 0 i refl h)
