-- What takes values away leaves a subset, so `size_le` bounds its size. Assumes nothing.
use Prim.Native.Nat.{ℕ, ◌^◌, ◌≤◌, ◌<◌}
use native.Mathlib.Omega.{arith}
use native.Mathlib.Decide.{ℕ_discrete, dec_lt}
use mathlib.Core.Path.{◌≡◌, ap}
use lib.Count.{count_trailing_zeros}
use Rattle.meaning.specs.Values.{bit}
use Rattle.meaning.proofs.Digits.{bit_lt}
use Rattle.meaning.proofs.Sizes.{Subset}
use Rattle.values.specs.Sets.{Removed, Shared, Less, Dropped, AtOrAbove}
use Rattle.values.proofs.Ends.{lowest_trailing}

by_digits : (r m : ℕ) → ((w : ℕ) → bit r w ≤ bit m w) → Subset r m
by_digits r m f w e = let l = f w in let b = bit_lt m w in omega arith

pub shared_left : (a b r : ℕ) → Shared a b r → Subset r a
shared_left a b r x = by_digits r a (λ w. let d = x.digit w in omega arith)

pub shared_right : (a b r : ℕ) → Shared a b r → Subset r b
shared_right a b r x = by_digits r b (λ w. let d = x.digit w in omega arith)

pub less_subset : (a b r : ℕ) → Less a b r → Subset r a
less_subset a b r x = by_digits r a (λ w. let d = x.digit w in omega arith)

pub removed_subset : (m v r : ℕ) → Removed m v r → Subset r m
removed_subset m v r x = by_digits r m (λ w. go w (ℕ_discrete w v))
  where
    go : (w : ℕ) → Dec (w ≡ v) → bit r w ≤ bit m w
    go w (yes q) = let g = x.gone in let y = ap (bit r) q in omega arith
    go w (no d) = let k = x.kept w d in omega arith

pub dropped_subset : (m r : ℕ) → m < 2 ^ 64 → Dropped m r → Subset r m
dropped_subset m r h x = removed_subset m (count_trailing_zeros 64 m) r (x.least (count_trailing_zeros 64 m) (lowest_trailing m h))

pub above_subset : (m v r : ℕ) → AtOrAbove m v r → Subset r m
above_subset m v r x = by_digits r m (λ w. go w (dec_lt w v))
  where
    go : (w : ℕ) → Dec (w < v) → bit r w ≤ bit m w
    go w (yes l) = let z = x.below w l in omega arith
    go w (no l) = let k = x.kept w (omega arith) in omega arith
