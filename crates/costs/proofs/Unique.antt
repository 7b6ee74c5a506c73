-- Any two results that a public contract of this crate allows are the same. Assumes nothing.
use mathlib.Core.Path.{◌≡◌, refl, sym, ap, ◌∙◌}
use mathlib.Core.Bool.{Bool}
use Prim.Native.Nat.{ℕ}
use Rattle.meaning.specs.Calls as Calls
use Rattle.state.specs.declared.Sort.{Sort}
use Rattle.state.specs.declared.Sort.TheVariants.{Allow, Forbid}
use Rattle.state.specs.Promises.{sort_said}
use Rattle.costs.specs.Costs.{SaysSame, SaysSort}

pub says_same_unique : (default cost : ℕ) (r s : Bool) → SaysSame default cost r → SaysSame default cost s → r ≡ s
says_same_unique default cost r s h k = h ∙ sym k

-- the sort that says it
said : Calls.Sort → Sort
said Calls.allow = Allow
said Calls.forbid = Forbid

said_back : (s : Sort) → said (sort_said s) ≡ s
unfolding said
said_back Allow = refl
said_back Forbid = refl

pub sort_by_unique : (default : ℕ) (r s : Sort) → SaysSort default r → SaysSort default s → r ≡ s
sort_by_unique default r s h k = sym (said_back r) ∙ ap said (h ∙ sym k) ∙ said_back s
