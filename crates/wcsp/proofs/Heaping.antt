-- Tuples that lie one after the other in cells: one more behind the others, and finding one among them. Assumes nothing.
use mathlib.Core.Path.{◌≡◌, refl, sym, ap, ap₂, ◌∙◌}
use mathlib.Core.Logic.{⊎_elim}
use mathlib.Core.List.Memᴰ
use mathlib.Core.List.{List, [], ◌∷◌, ◌++◌, append-nil, append_assoc}
use Prim.Native.Nat.{ℕ, suc, ◌+◌, ◌-◌, ◌*◌, ◌/◌, ◌%◌, ◌≤◌, ◌<◌}
use native.Mathlib.Nat.{suc-mul, mul_comm, mul-le-mul_left, mul-div_right, mul-mod_right}
use native.Mathlib.Numerals.{add-one}
use native.Mathlib.Omega.{arith}
use borrow.Rule.Slice.PartMut.{put_mid}
use lib.ListN.{length, take, drop, length-append, length-take, length-drop, take-append-drop}
use lib.Seq.{paste, take-add, drop_at, length-take-le}
use Rattle.std.proofs.lemmas.List.{drop-take}
use Rattle.std.proofs.lemmas.Slice.{put_mid-paste, take-put_mid, take-put_mid_below}
use Rattle.meaning.specs.Calls.{rows, tuples_of}
use Rattle.filters.specs.Layout.{joined}
use Rattle.filters.proofs.Rooms.{Even, length_joined, rows_joined}
use Rattle.filters.proofs.Cells.{part_long}
use Rattle.wcsp.specs.Steps.{Behind, Filled}

pub product_most : (a b v : ℕ) → a ≤ b → a * v ≤ b * v
product_most a b v h = omega (arith, mul-le-mul_left v h, mul_comm a v, mul_comm b v)

pub row_inside : (i n a : ℕ) → i < n → i * a + a ≤ n * a
row_inside i n a h = omega (arith, product_most (suc i) n a h, suc-mul i a)

-- one tuple is written into its part of the cells
abbrev pub written : ℕ → ℕ → List ℕ → List ℕ → List ℕ
written start a cells tuple = put_mid start (start + a - start) cells tuple

module _ (start a : ℕ) (cells tuple : List ℕ) (fits : start + a ≤ length cells) (long : length tuple ≡ a) where
  pasted : written start a cells tuple ≡ paste cells start tuple a
  pasted = put_mid-paste start (start + a - start) cells tuple tuple a refl (omega arith) (omega (arith, long))

  pub part_behind : Behind start cells (written start a cells tuple)
  part_behind = record {
    long = ap length pasted ∙ simp (length-append, length-take, length-drop) (omega arith);
    kept = take-put_mid_below start (start + a - start) cells tuple start (omega arith) (omega arith);
  }

  pub part_written : take a (drop start (written start a cells tuple)) ≡ tuple
  part_written =
      sym (drop-take start a (written start a cells tuple))
      ∙ ap (drop start) (take-put_mid start (start + a - start) cells tuple (start + a) (omega (arith, long)) (omega arith))
      ∙ drop_at (take start cells) tuple start (length-take-le start cells (omega arith))

joined_append : (ts us : List (List ℕ)) → joined (ts ++ us) ≡ joined ts ++ joined us
unfolding joined
joined_append [] us = refl
joined_append (t ∷ ts) us = ap (λ (l : List ℕ). t ++ l) (joined_append ts us) ∙ sym (append_assoc t (joined ts) (joined us))

pub joined_more : (ts : List (List ℕ)) (t : List ℕ) → joined (ts ++ (t ∷ [])) ≡ joined ts ++ t
unfolding joined
joined_more ts t = joined_append ts (t ∷ []) ∙ ap (λ (l : List ℕ). joined ts ++ l) (append-nil t)

pub even_more : {a : ℕ} (ts : List (List ℕ)) (t : List ℕ) → Even a ts → length t ≡ a → Even a (ts ++ (t ∷ []))
even_more ts t h e u m = ⊎_elim (h u) (λ k. ap length (Memᴰ.eq_of_singleton k) ∙ e) (Memᴰ.append_cases ts m)

-- whole tuples are the tuples of their cells
pub tuples_joined : (scope : List ℕ) (ts : List (List ℕ)) → 0 < length scope → Even (length scope) ts → (length (joined ts) % length scope ≡ 0) × (tuples_of scope (joined ts) ≡ ts)
tuples_joined scope ts some even =
    let a = length scope in
    let long = length_joined a ts even in
    let many : length (joined ts) / a ≡ length ts = ap (λ (n : ℕ). n / a) long ∙ mul-div_right (length ts) some in (
      ap (λ (n : ℕ). n % a) long ∙ mul-mod_right a (length ts),
      ap₂ (λ (n : ℕ) (c : List ℕ). rows n a c) many (sym (append-nil (joined ts))) ∙ rows_joined a ts [] even,
    )

pub filled_none : (a : ℕ) (cells : List ℕ) → Filled a 0 [] cells
unfolding joined
filled_none a cells = let e : 0 * a ≡ 0 = omega arith in record { many = refl; even = λ t m. absurd (Memᴰ.not-nil m); cells_are = ap (λ (n : ℕ). take n cells) e }

module _ (a count : ℕ) (ts : List (List ℕ)) (before after : List ℕ) (filled : Filled a count ts before) (behind : Behind (count * a) before after) (fits : count * a + a ≤ length before) where
  cells_before : take (count * a) after ≡ joined ts
  cells_before = behind.kept ∙ filled.cells_are

  -- one more tuple, written behind them
  pub filled_more : (t : List ℕ) → t ≡ take a (drop (count * a) after) → Filled a (count + 1) (ts ++ (t ∷ [])) after
  filled_more t e = record {
    many = length-append ts (t ∷ []) ∙ ap (λ (n : ℕ). n + 1) filled.many;
    even = even_more ts t filled.even (ap length e ∙ part_long after (count * a) a (omega (arith, behind.long)));
    cells_are =
        let q : (count + 1) * a ≡ count * a + a = ap (λ (n : ℕ). n * a) (add-one count) ∙ omega (arith, suc-mul count a) in
        ap (λ (n : ℕ). take n after) q ∙ take-add (count * a) a after ∙ ap₂ (λ (u w : List ℕ). u ++ w) cells_before (sym e)
        ∙ sym (joined_more ts t);
  }

  -- they are the rows of the cells
  pub rows_are : rows count a after ≡ ts
  rows_are =
      ap₂ (λ (n : ℕ) (c : List ℕ). rows n a c) (sym filled.many) (sym (take-append-drop (count * a) after) ∙ ap (λ (l : List ℕ). l ++ drop (count * a) after) cells_before)
      ∙ rows_joined a ts (drop (count * a) after) filled.even
