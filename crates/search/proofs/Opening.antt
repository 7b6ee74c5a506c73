-- The first list that has more than one value. Assumes nothing.
use mathlib.Core.Path.{◌≡◌, sym}
use mathlib.Core.Logic.{by_cases}
use mathlib.Core.Bool.{false}
use mathlib.Core.List.{List}
use Prim.Native.Nat.{ℕ, ◌^◌, ◌<◌, ◌≤◌}
use native.Mathlib.Decide.{ℕ_discrete, dec_lt}
use native.Mathlib.Omega.{arith}
use lib.ListN.{length, get_or, take, length-take, get_or-eq_default}
use lib.Seq.{get_or-take}
use Rattle.std.specs.Prelude.{Some, None, nat_lt}
use Rattle.std.proofs.lemmas.Bool.{ltb-true, ltb-false}
use Rattle.std.specs.List.{position_or_len}
use Rattle.std.proofs.lemmas.Grind.{common_steps}
use Rattle.std.proofs.lemmas.List.Sums.{fails_before_first}
use Rattle.std.proofs.lemmas.List.Quantifiers.{position-Some}
use Rattle.meaning.specs.Values.{Has, size}
use Rattle.meaning.specs.Lists.{Left}
use Rattle.meaning.proofs.Digits.{has_small}
use Rattle.meaning.proofs.Sets.{size_two}
use Rattle.meaning.proofs.Listed.{Words}
use Rattle.search.specs.Choosing.{Settled, Opens, FirstOpen}

-- a set of one value at most has no two
alone : (m : ℕ) → m < 2 ^ 64 → size m ≤ 1 → (v w : ℕ) → Has m v → Has m w → v ≡ w
alone m fits few v w h k =
    by_cases (ℕ_discrete w v) sym λ other.
    let two = size_two m v w (has_small m v fits h) (has_small m w fits k) h k other in
    absurd (omega arith)

pub words_take : (n : ℕ) (L : List ℕ) → Words L → Words (take n L)
words_take n L words x =
    by_cases (dec_lt x n) (λ l. rw (get_or-take n L x 0 l) (words x)) (λ h. rw (get_or-eq_default (take n L) 0 {n = x} (omega (arith, length-take n L))) (omega arith))

module _ (L : List ℕ) (words : Words L) where
  below : (y : ℕ) → nat_lt 1 (size (get_or L y 0)) ≡ false → (v w : ℕ) → Left L y v → Left L y w → v ≡ w
  below y e = alone (get_or L y 0) (words y) (ltb-false 1 (size (get_or L y 0)) e)

  pub opened : (x : ℕ) → FirstOpen L (Some x) → Opens L x
  opened x e =
      let (l, here, before) = position-Some (λ m. nat_lt 1 (size m)) L x 0 (sym e) in
      record { inside = l; settled = λ y h. below y (before y h); several = ltb-true 1 (size (get_or L x 0)) here }

  pub closed_up : FirstOpen L None → Settled L (length L)
  closed_up e y l =
      let all : length L ≤ position_or_len (λ m. nat_lt 1 (size m)) L = grind (arith, common_steps) in
      below y (fails_before_first (λ m. nat_lt 1 (size m)) L y 0 (omega arith))
