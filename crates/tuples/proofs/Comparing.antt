-- Tuples that compare as the same are the same, and a key worked out place by place. Assumes nothing.
use mathlib.Core.Path.{◌≡◌, refl, sym, ap, ap₂, ◌∙◌}
use mathlib.Core.List.{List, [], ◌∷◌}
use Prim.Native.Nat.{ℕ, ◌+◌, ◌*◌, ◌%◌, ◌≤◌, ◌<◌}
use native.Mathlib.Numerals.{add-one}
use lib.Dec.{T, eqb, eqb→eq}
use lib.ListN.{length, get_or, drop, drop_of_length-le}
use lib.Seq.{drop-cons}
use Rattle.meaning.specs.Calls.{same}
use Rattle.meaning.proofs.Tests.{and_left, and_right}
use Rattle.tuples.specs.Keys.{key_limit, key_from}

pub same_is : (u v : List ℕ) → T (same u v) → u ≡ v
unfolding same
same_is [] [] t = refl
same_is [] (y ∷ v) t = absurd t
same_is (x ∷ u) [] t = absurd t
same_is (x ∷ u) (y ∷ v) t =
    ap₂ ◌∷◌ (eqb→eq x y (and_left (eqb x y) (same u v) t)) (same_is u v (and_right (eqb x y) (same u v) t))

module _ (t : List ℕ) (key j : ℕ) {w : ℕ} (rest : key_from key (drop j t) ≡ w) where
  pub key_next : j < length t → key_from ((key * 67 + get_or t j 0) % key_limit) (drop (j + 1) t) ≡ w
  unfolding key_from
  key_next h = rw (add-one j) (sym (ap (key_from key) (drop-cons t j 0 h)) ∙ rest)

  pub key_last : length t ≤ j → key ≡ w
  unfolding key_from
  key_last h = sym (ap (key_from key) (drop_of_length-le t h)) ∙ rest
