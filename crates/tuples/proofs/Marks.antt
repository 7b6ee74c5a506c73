-- Marks at the keys of tuples: a tuple whose key has no mark is none of them. Assumes nothing.
use mathlib.Core.Path.{◌≡◌, refl, sym, ap, ◌∙◌, subst}
use mathlib.Core.Logic.{⊎_elim, by_cases}
use mathlib.Core.Bool.{Bool, true, false, true≢false}
use mathlib.Core.List.Memᴰ
use mathlib.Core.List.{List, [], ◌∷◌, Memᴰ}
use Prim.Native.Nat.{ℕ, ◌<◌}
use native.Mathlib.Decide.{ℕ_discrete}
use lib.Dec.{T}
use lib.ListN.{length, get_or, set}
use lib.Seq.{get_or-set_same, get_or-set_other}
use Rattle.meaning.specs.Calls.{some, same}
use Rattle.tuples.specs.Keys.{key_from, Marked}
use Rattle.tuples.proofs.Comparing.{same_is}

some_none : (p : List ℕ → Bool) (xs : List (List ℕ)) → ((x : List ℕ) → Memᴰ x xs → p x ≡ false) → some p xs ≡ false
unfolding some
some_none p [] h = refl
some_none p (x ∷ xs) h = rw (h x (Memᴰ.head refl), some_none p xs (λ y m. h y (Memᴰ.tail m)))

pub unmarked : (marked : List Bool) (ts : List (List ℕ)) (u : List ℕ) → Marked marked ts → get_or marked (key_from 0 u) false ≡ false → some (same u) ts ≡ false
unmarked marked ts u m e = some_none (same u) ts (λ v i. differs v i (same u v) refl)
  where
    differs : (v : List ℕ) → Memᴰ v ts → (b : Bool) → same u v ≡ b → b ≡ false
    differs v i false q = refl
    differs v i true q = absurd (true≢false (sym (m v i) ∙ ap (λ (t : List ℕ). get_or marked (key_from 0 t) false) (sym (same_is u v (subst T (sym q) tt))) ∙ e))

pub marked_too : (marked : List Bool) (ts : List (List ℕ)) (u : List ℕ) → key_from 0 u < length marked → Marked marked ts → Marked (set marked (key_from 0 u) true) (u ∷ ts)
marked_too marked ts u small m v i =
    by_cases (ℕ_discrete (key_from 0 v) (key_from 0 u))
    (λ q. ap (λ (k : ℕ). get_or (set marked (key_from 0 u) true) k false) q ∙ get_or-set_same marked (key_from 0 u) true false small)
    (λ d. get_or-set_other marked (key_from 0 u) (key_from 0 v) true false d ∙ ⊎_elim (λ q. absurd (d (ap (key_from 0) q))) (m v) (Memᴰ.cases_cons i))
