-- Any two results that a public contract of this crate allows are the same. Assumes nothing.
use mathlib.Core.Path.{◌≡◌, sym, ◌∙◌}
use mathlib.Core.Bool.{Bool}
use mathlib.Core.List.{List}
use Prim.Native.Nat.{ℕ}
use Rattle.tuples.specs.Keys.{KeyOf}
use Rattle.tuples.specs.Rows.{AreSame, IsListed}

pub are_same_unique : (t u : List ℕ) (r s : Bool) → AreSame t u r → AreSame t u s → r ≡ s
are_same_unique t u r s h k = h ∙ sym k

pub is_listed_unique : (tuple cells : List ℕ) (r s : Bool) → IsListed tuple cells r → IsListed tuple cells s → r ≡ s
is_listed_unique tuple cells r s h k = h ∙ sym k

pub key_of_unique : (tuple : List ℕ) (r s : ℕ) → KeyOf tuple r → KeyOf tuple s → r ≡ s
key_of_unique tuple r s h k = h.0 ∙ sym k.0
