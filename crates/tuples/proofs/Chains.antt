-- What the library says of comparing slices, of a search along a list and of cutting one into pieces, in document 01's words. Assumes nothing.
use mathlib.Core.Path.{◌≡◌, refl, sym, ap, ap₂, ◌∙◌}
use mathlib.Core.Bool.{Bool, ◌&&◌, ◌||◌}
use mathlib.Core.List.{List, [], ◌∷◌, ◌++◌}
use Prim.Native.Nat.{ℕ, ◌<◌}
use lib.Dec.{eqb}
use lib.ListN.{length, take, drop, length-append}
use lib.Pointwise.{pointwise}
use lib.Seq.{take_at, take-length, drop-append_seam}
use native.Mathlib.Omega.{arith}
use denote.Ref.{Bor}
use Rattle.std.specs.List.{list_any}
use Rattle.std.specs.Slice.Iter.{chunks_exact_steps, chunks_exact_rest, chunks_exact_size}
use Rattle.std.proofs.lemmas.Iterator.{YieldsList}
use Rattle.std.proofs.lemmas.Iterator.Splits.{YieldsList-from_shown_while}
use Rattle.tuples.specs.Rows.{tuples_in}
use Rattle.tuples.proofs.Rows.{tuples_none, tuples_more}
use Rattle.meaning.specs.Calls.{some, same}

pub same_pointwise : (u v : List ℕ) → same u v ≡ pointwise eqb u v
unfolding same
same_pointwise [] [] = refl
same_pointwise [] (y ∷ v) = refl
same_pointwise (x ∷ u) [] = refl
same_pointwise (x ∷ u) (y ∷ v) = ap (λ (b : Bool). eqb x y && b) (same_pointwise u v)

-- the part of a list that is as long as the list
pub whole : (l : List ℕ) → take (length l) l ≡ l
whole = take-length

pub some_any : {A : Type 0} (p : A → Bool) (xs : List A) → some p xs ≡ list_any p xs
unfolding some
some_any p [] = refl
some_any p (x ∷ xs) = ap (λ (b : Bool). p x || b) (some_any p xs)

-- one of the tuples, and those after it
tuples_first : (a : ℕ) (t rest : List ℕ) → 0 < a → length t ≡ a → tuples_in a (t ++ rest) ≡ t ∷ tuples_in a rest
tuples_first a t rest p e =
    tuples_more a p (t ++ rest) (omega (arith, length-append t rest))
    ∙ ap₂ (λ (u r : List ℕ). u ∷ tuples_in a r) (take_at t rest a e) (ap (λ (n : ℕ). drop n (t ++ rest)) (sym e) ∙ drop-append_seam t rest)

-- the pieces of as many cells as a tuple has are the tuples that the cells make
pub chunks_are : (a : ℕ) (cells : List ℕ) {s : _} → 0 < a → chunks_exact_size s ≡ a → chunks_exact_rest s ≡ cells
    → YieldsList (chunks_exact_steps {A = ℕ}) (λ (y : Bor (List ℕ)). y.now) s (tuples_in a cells)
chunks_are a cells {s} p e f =
    rw (← e, ← f)
    (YieldsList-from_shown_while (chunks_exact_steps {A = ℕ}) (λ y. y.now) (λ s. tuples_in (chunks_exact_size s) (chunks_exact_rest s)) (λ s. 0 < chunks_exact_size s)
    (λ s t h k. ap length (tuples_none (chunks_exact_size s) h (chunks_exact_rest s) k.1.0)) (λ s x t h k. (
      omega (arith, k.0),
      ap (tuples_in (chunks_exact_size s)) k.1.0 ∙ tuples_first (chunks_exact_size s) x.now (chunks_exact_rest t) h k.1.1
          ∙ ap (λ (n : ℕ). x.now ∷ tuples_in n (chunks_exact_rest t)) (sym k.0),
    )) s (omega arith))
