-- The numbers of a scope and of tuples, one by one, and the tuples that cells make. Assumes nothing.
use mathlib.Core.Path.{◌≡◌, refl, sym, ap, ap₂, ◌∙◌}
use mathlib.Core.List.Memᴰ
use mathlib.Core.List.{List, [], ◌∷◌, ◌++◌, Memᴰ}
use Prim.Native.Nat.{ℕ, zero, suc, ◌+◌, ◌-◌, ◌*◌, ◌/◌, ◌≤◌, ◌<◌}
use native.Mathlib.Nat.{suc-mul, mul-div_cancel, div-eq_of_lt, div-eq-sub-div, not-suc-le-zero, le_of_suc-le-suc}
use native.Mathlib.Numerals.{add-one}
use native.Mathlib.Omega.{arith}
use denote.Ref.{Bor}
use lib.ListN.{length, get_or, take, drop, length-append, length-take, length-drop}
use lib.Seq.{take_at, take-take, drop-append_seam, length-take-le}
use Rattle.std.specs.Slice.Iter.{chunks_exact_steps, chunks_exact_rest, chunks_exact_size}
use Rattle.std.proofs.lemmas.Iterator.{YieldsList}
use Rattle.std.proofs.lemmas.Iterator.Splits.{YieldsList-from_shown_while}
use Rattle.std.proofs.lemmas.List.{drop-take}
use Rattle.meaning.specs.Limits.{value_limit}
use Rattle.meaning.specs.Calls.{rows}
use Rattle.meaning.specs.Proper.{ProperTuples}
use Rattle.filters.specs.Tables.{Below, pieces, Tuples}

-- ---- lists

pub mem_at {ℓ} : {A : Type ℓ} (l : List A) (i : ℕ) (d : A) → i < length l → Memᴰ (get_or l i d) l
mem_at [] i d h = absurd (not-suc-le-zero h)
mem_at (x ∷ l) zero d h = Memᴰ.head refl
mem_at (x ∷ l) (suc i) d h = Memᴰ.tail (mem_at l i d (le_of_suc-le-suc h))

pub all_below : {limit : ℕ} (s : List ℕ) → ((x : ℕ) → Memᴰ x s → x < limit) → Below limit s
all_below s f j h = f (get_or s j 0) (mem_at s j 0 h)

pub proper_tuples : {arity : ℕ} {ts : List (List ℕ)} → 0 < arity → ProperTuples arity ts → Tuples arity ts
proper_tuples some p = record { some = some; few = p.few; long = p.long; small = λ t m. all_below t (p.values t m) }

pub part_long : (room : List ℕ) (at n : ℕ) → at + n ≤ length room → length (take n (drop at room)) ≡ n
part_long room at n h = omega (arith, length-take n (drop at room), length-drop at room)

-- ---- the tuples that cells make

module _ (a : ℕ) (some : 0 < a) where
  pieces_none : (l : List ℕ) → length l < a → pieces a l ≡ []
  unfolding rows
  pieces_none l h = ap (λ (n : ℕ). rows n a l) (div-eq_of_lt h)

  pieces_more : (l : List ℕ) → a ≤ length l → pieces a l ≡ take a l ∷ pieces a (drop a l)
  unfolding rows
  pieces_more l h =
      let e : length l / a ≡ suc (length (drop a l) / a) =
      div-eq-sub-div some h ∙ add-one ((length l - a) / a) ∙ ap (λ (n : ℕ). suc (n / a)) (sym (length-drop a l)) in
      ap (λ (n : ℕ). rows n a l) e

  -- one of the tuples, and those after it
  pieces_first : (t rest : List ℕ) → length t ≡ a → pieces a (t ++ rest) ≡ t ∷ pieces a rest
  pieces_first t rest e =
      pieces_more (t ++ rest) (omega (arith, length-append t rest))
      ∙ ap₂ (λ (u r : List ℕ). u ∷ pieces a r) (take_at t rest a e) (ap (λ (n : ℕ). drop n (t ++ rest)) (sym e) ∙ drop-append_seam t rest)

-- the chunks of as many cells as a tuple has are those tuples
pub chunks_are : (a : ℕ) (cells : List ℕ) {s : _} → 0 < a → chunks_exact_size s ≡ a → chunks_exact_rest s ≡ cells
    → YieldsList (chunks_exact_steps {A = ℕ}) (λ (y : Bor (List ℕ)). y.now) s (pieces a cells)
chunks_are a cells {s} p e f =
    rw (← e, ← f)
    (YieldsList-from_shown_while (chunks_exact_steps {A = ℕ}) (λ y. y.now) (λ s. pieces (chunks_exact_size s) (chunks_exact_rest s)) (λ s. 0 < chunks_exact_size s)
    (λ s t h k. ap length (pieces_none (chunks_exact_size s) h (chunks_exact_rest s) k.1.0)) (λ s x t h k. (
      omega (arith, k.0),
      ap (pieces (chunks_exact_size s)) k.1.0 ∙ pieces_first (chunks_exact_size s) h x.now (chunks_exact_rest t) k.1.1
          ∙ ap (λ (n : ℕ). x.now ∷ pieces n (chunks_exact_rest t)) (sym k.0),
    )) s (omega arith))

-- the tuple whose turn it is
module _ {ts : List (List ℕ)} {arity : ℕ} (ready : Tuples arity ts) {t : List ℕ} {k : ℕ} (turn : (k < length ts) × (t ≡ get_or ts k t)) where
  listed : Memᴰ t ts
  listed = Memᴰ.cast turn.1 (mem_at ts k t turn.0)

  pub turn_long : length t ≡ arity
  turn_long = ready.long t listed

  pub turn_small : Below value_limit t
  turn_small = ready.small t listed

-- the cells of just so many tuples make the tuples that they begin
rows_front : (t a : ℕ) (cells : List ℕ) → rows t a (take (t * a) cells) ≡ rows t a cells
unfolding rows
rows_front zero a cells = refl
rows_front (suc t) a cells =
    let e : suc t * a ≡ a + t * a = omega (arith, suc-mul t a) in
    ap (λ (n : ℕ). take a (take n cells) ∷ rows t a (drop a (take n cells))) e
    ∙ ap₂ ◌∷◌ (take-take a (a + t * a) cells (omega arith)) (ap (rows t a) (drop-take a (t * a) cells) ∙ rows_front t a (drop a cells))

pub pieces_front : (t a : ℕ) (cells : List ℕ) → 0 < a → t * a ≤ length cells → pieces a (take (t * a) cells) ≡ rows t a cells
pieces_front t a cells some fits =
    ap (λ (n : ℕ). rows (n / a) a (take (t * a) cells)) (length-take-le (t * a) cells fits)
    ∙ ap (λ (n : ℕ). rows n a (take (t * a) cells)) (mul-div_cancel t some)
    ∙ rows_front t a cells
