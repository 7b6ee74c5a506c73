-- Tuples that lie one after the other in a list of cells: searching for one, and for one that stands twice. Assumes nothing.
use mathlib.Core.Path.{◌≡◌, sym, ap, ◌∙◌}
use mathlib.Core.Bool.{false}
use mathlib.Core.List.{List, [], ◌∷◌}
use Prim.Native.Nat.{ℕ, suc, ◌+◌, ◌-◌, ◌/◌, ◌≤◌, ◌<◌}
use native.Mathlib.Nat.{div-eq_of_lt, div-eq-sub-div, div-zero}
use native.Mathlib.Numerals.{add-one}
use native.Mathlib.Omega.{arith}
use lib.ListN.{length, take, drop, length-drop}
use lib.Seq.{length-take-le, take_all}
use Rattle.meaning.specs.Calls.{some, same, repeats, rows}
use Rattle.meaning.proofs.Searching.{Search}
use Rattle.tuples.specs.Rows.{tuple_at, tuples_in}

pub tuple_long : (n : ℕ) (cells : List ℕ) (a : ℕ) → a + n ≤ length cells → length (tuple_at n cells a) ≡ n
tuple_long n cells a h = length-take-le n (drop a cells) (omega (arith, length-drop a cells))

-- a part of the cells, as the code takes it, is the tuple at its place
pub part_is : (n : ℕ) (cells : List ℕ) (a : ℕ) → take (a + n - a) (drop a cells) ≡ tuple_at n cells a
part_is n cells a = let e : a + n - a ≡ n = omega arith in ap (λ (k : ℕ). take k (drop a cells)) e

-- and all from a place on is what is left there
pub rest_is : (l : List ℕ) (k : ℕ) → take (length l - k) (drop k l) ≡ drop k l
rest_is l k = take_all (length l - k) (drop k l) (omega (arith, length-drop k l))

-- ---- the tuples that cells make

pub tuples_of_none : (cells : List ℕ) {a : ℕ} → a ≡ 0 → tuples_in a cells ≡ []
unfolding rows
tuples_of_none cells e = ap (λ (a : ℕ). tuples_in a cells) e ∙ ap (λ (n : ℕ). rows n 0 cells) (div-zero (length cells))

pub none_listed : (u cells : List ℕ) {a : ℕ} → a ≡ 0 → false ≡ some (same u) (tuples_in a cells)
unfolding some
none_listed u cells e = sym (ap (some (same u)) (tuples_of_none cells e))

module _ (a : ℕ) (some_cells : 0 < a) where
  pub tuples_none : (l : List ℕ) → length l < a → tuples_in a l ≡ []
  unfolding rows
  tuples_none l h = ap (λ (n : ℕ). rows n a l) (div-eq_of_lt h)

  pub tuples_more : (l : List ℕ) → a ≤ length l → tuples_in a l ≡ take a l ∷ tuples_in a (drop a l)
  unfolding rows
  tuples_more l h =
      let e : length l / a ≡ suc (length (drop a l) / a) =
      div-eq-sub-div some_cells h ∙ add-one ((length l - a) / a) ∙ ap (λ (n : ℕ). suc (n / a)) (sym (length-drop a l)) in
      ap (λ (n : ℕ). rows n a l) e

  pub twice_search : Search (λ l. repeats same (tuples_in a l)) (λ l. some (same (take a l)) (tuples_in a (drop a l))) a
  unfolding repeats
  twice_search = record { none = λ l h. ap (repeats same) (tuples_none l h); more = λ l h. ap (repeats same) (tuples_more l h) }
