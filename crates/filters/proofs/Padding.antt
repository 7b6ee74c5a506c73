-- Lists followed by the same element up to a length, zeros mostly: writing more behind the list. Assumes nothing.
use mathlib.Core.Path.{◌≡◌, sym, ap, ap₂, ◌∙◌}
use mathlib.Core.List.{List, [], ◌∷◌, ◌++◌, append_assoc}
use Prim.Native.Nat.{ℕ, zero, suc, ◌+◌, ◌-◌, ◌≤◌, ◌<◌}
use native.Mathlib.Omega.{arith}
use lib.ListN.{length, set, drop, replicate, length-append, length-replicate}
use lib.Seq.{paste, take-length, take_at, drop_at, drop-drop, set-append_seam}
use Rattle.filters.specs.Layout.{filled, padded}

module _ {A : Type 0} (d : A) where
  pub length_filled : (n : ℕ) (l : List A) → length l ≤ n → length (filled d n l) ≡ n
  length_filled n l h = omega (arith, length-append l (replicate (n - length l) d), length-replicate {A = A} (n - length l) d)

  pub filled_nil : (n : ℕ) → filled d n [] ≡ replicate n d
  filled_nil n = ap (λ (k : ℕ). replicate k d) {x = n - 0} {y = n} (omega arith)

  -- one more is there already
  pub filled_more : (n : ℕ) (l : List A) → length l < n → filled d n (l ++ (d ∷ [])) ≡ filled d n l
  filled_more n l h =
      let rest = n - length (l ++ (d ∷ [])) in
      let e : suc rest ≡ n - length l = omega (arith, length-append l (d ∷ [])) in
      append_assoc l (d ∷ []) (replicate rest d) ∙ ap (λ (k : ℕ). l ++ replicate k d) e

  -- the next place is filled
  pub filled_set : (n : ℕ) (l : List A) (x : A) → length l < n → set (filled d n l) (length l) x ≡ filled d n (l ++ (x ∷ []))
  filled_set n l x h =
      let rest = n - length (l ++ (x ∷ [])) in
      let e : n - length l ≡ suc rest = omega (arith, length-append l (x ∷ [])) in
      ap (λ (k : ℕ). set (l ++ replicate k d) (length l) x) e ∙ set-append_seam l d (replicate rest d) x ∙ sym (append_assoc l (x ∷ []) (replicate rest d))

-- ---- zeros

abbrev zeros : ℕ → List ℕ
zeros n = replicate n 0

pub length_padded : (n : ℕ) (l : List ℕ) → length l ≤ n → length (padded n l) ≡ n
length_padded = length_filled 0

drop_zeros : (i n : ℕ) → drop i (zeros n) ≡ zeros (n - i)
drop_zeros zero n = let e : n ≡ n - 0 = omega arith in ap zeros e
drop_zeros (suc i) zero = let e : 0 ≡ 0 - suc i = omega arith in ap zeros e
drop_zeros (suc i) (suc n) = let e : n - i ≡ suc n - suc i = omega arith in drop_zeros i n ∙ ap zeros e

module _ (n : ℕ) (l more : List ℕ) (at : ℕ) (long : length l ≡ at) where
  behind : drop (at + length more) (padded n l) ≡ zeros (n - length (l ++ more))
  behind =
      let e : n - length l - length more ≡ n - length (l ++ more) = omega (arith, length-append l more) in
      sym (drop-drop (length more) at (padded n l))
      ∙ ap (drop (length more)) (drop_at l (zeros (n - length l)) at long)
      ∙ drop_zeros (length more) (n - length l)
      ∙ ap zeros e

  pub paste_padded : paste (padded n l) at more (length more) ≡ padded n (l ++ more)
  paste_padded = ap₂ ◌++◌ (ap₂ ◌++◌ (take_at l (zeros (n - length l)) at long) (take-length more)) behind

pub padded_set : (n : ℕ) (l : List ℕ) (x : ℕ) → length l < n → set (padded n l) (length l) x ≡ padded n (l ++ (x ∷ []))
padded_set = filled_set 0

pub padded_nil : (n : ℕ) → padded n [] ≡ replicate n 0
padded_nil = filled_nil 0
