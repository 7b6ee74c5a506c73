-- A search for a tuple that stands twice, from the last tuple to the first with a mark at each key passed. Assumes nothing.
use mathlib.Core.Path.{◌≡◌, sym, ap, ◌∙◌, subst}
use mathlib.Core.Bool.{Bool, true, false, ◌||◌}
use mathlib.Core.List.Memᴰ
use mathlib.Core.List.{List, [], ◌∷◌}
use Prim.Native.Nat.{ℕ, zero, suc, ◌+◌, ◌-◌, ◌*◌, ◌/◌, ◌≤◌, ◌<◌}
use native.Mathlib.Nat.{mod-lt, div-add-mod', suc-mul}
use native.Mathlib.Omega.{arith}
use lib.ListN.{length, get_or, set, drop, length-set, length-drop}
use lib.Seq.{drop-drop}
use Rattle.meaning.specs.Calls.{some, same, repeats}
use Rattle.tuples.specs.Keys.{key_limit, key_from, Marked}
use Rattle.tuples.proofs.Marks.{unmarked, marked_too}
use Rattle.tuples.specs.Rows.{tuple_at, tuples_in}
use Rattle.tuples.proofs.Rows.{tuples_none, tuples_more, tuples_of_none, twice_search}
use Rattle.meaning.proofs.Searching.{earlier}
use Rattle.arguments.specs.Checks.{listed_again}

-- what holds once the tuples from the n-th on are passed: none of them stands twice, and their keys are marked
pub record Passed (a : ℕ) (cells : List ℕ) (n : ℕ) (marked : List Bool) : Type 0 where
  pub inside : n * a ≤ length cells
  pub once : repeats same (tuples_in a (drop (n * a) cells)) ≡ false
  pub long : length marked ≡ key_limit
  pub marks : Marked marked (tuples_in a (drop (n * a) cells))

-- a tuple lies before the place where n of them end
before : (n a : ℕ) → 0 < n → (n - 1) * a + a ≡ n * a
before zero a h = absurd (omega arith)
before (suc n) a h = let one_less : suc n - 1 ≡ n = omega arith in ap (λ (k : ℕ). k * a + a) one_less ∙ sym (suc-mul n a)

module _ (a : ℕ) (some_cells : 0 < a) (cells : List ℕ) where
  pub passed_none : (marked : List Bool) → length marked ≡ key_limit → Passed a cells (length cells / a) marked
  unfolding repeats
  passed_none marked l =
      let end = length cells / a * a in
      let none : tuples_in a (drop end cells) ≡ [] =
      tuples_none a some_cells (drop end cells) (omega (arith, length-drop end cells, mod-lt (length cells) some_cells, div-add-mod' (length cells) a)) in
      record {
        inside = omega (arith, div-add-mod' (length cells) a);
        once = ap (repeats same) none;
        long = l;
        marks = λ u m. absurd (Memᴰ.not-nil (rw none at m));
      }

  module _ (n : ℕ) (marked : List Bool) (p : Passed a cells n marked) (left : 0 < n) where
    -- where the tuple before them stands, the tuple, and those after it
    place : ℕ
    place = (n - 1) * a

    tuple : List ℕ
    tuple = tuple_at a cells place

    others : List (List ℕ)
    others = tuples_in a (drop (n * a) cells)

    tuples_are : tuples_in a (drop place cells) ≡ tuple ∷ others
    unfolding place tuple others
    tuples_are =
        let back = before n a left in
        tuples_more a some_cells (drop place cells) (omega (arith, length-drop place cells, p.inside))
        ∙ ap (λ (l : List ℕ). tuple ∷ tuples_in a l) (drop-drop a place cells ∙ ap (λ (k : ℕ). drop k cells) back)

    again_is : listed_again a cells place ≡ some (same tuple) others
    unfolding place tuple others
    again_is = ap (λ (k : ℕ). some (same tuple) (tuples_in a (drop k cells))) (before n a left)

    repeats_are : repeats same (tuples_in a (drop place cells)) ≡ (listed_again a cells place || repeats same others)
    unfolding repeats
    repeats_are = ap (repeats same) tuples_are ∙ ap (λ (b : Bool). b || repeats same others) (sym again_is)

    -- a tuple whose key isn't marked doesn't stand again
    pub unmarked_once : (key : ℕ) → key ≡ key_from 0 (tuple_at a cells ((n - 1) * a)) → get_or marked key false ≡ false → listed_again a cells ((n - 1) * a) ≡ false
    unfolding place tuple others
    unmarked_once key e f = again_is ∙ unmarked marked others tuple p.marks (ap (λ (k : ℕ). get_or marked k false) (sym e) ∙ f)

    pub passed_one : (key : ℕ) → key ≡ key_from 0 (tuple_at a cells ((n - 1) * a)) → key < key_limit → listed_again a cells ((n - 1) * a) ≡ false → Passed a cells (n - 1) (set marked key true)
    unfolding place tuple others
    passed_one key e small f = record {
      inside = omega (arith, p.inside, before n a left);
      once = repeats_are ∙ ap (λ (b : Bool). b || repeats same others) f ∙ p.once;
      long = length-set marked key true ∙ p.long;
      marks = subst (λ (l : List (List ℕ)). Marked (set marked key true) l) (sym tuples_are)
          (subst (λ (k : ℕ). Marked (set marked k true) (tuple ∷ others)) (sym e) (marked_too marked others tuple (omega (arith, p.long)) p.marks));
    }

    pub found_twice : listed_again a cells ((n - 1) * a) ≡ true → true ≡ repeats same (tuples_in a cells)
    unfolding place
    found_twice f =
        sym (earlier (twice_search a some_cells) (n - 1) cells (omega (arith, p.inside, before n a left)) (repeats_are ∙ ap (λ (b : Bool). b || repeats same others) f))

pub no_tuples : (cells : List ℕ) (a : ℕ) → a ≡ 0 → repeats same (tuples_in a cells) ≡ false
unfolding repeats
no_tuples cells a e = ap (repeats same) (tuples_of_none cells e)
