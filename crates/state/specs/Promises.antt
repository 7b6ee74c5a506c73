-- What a call promises: document 01's number for its answer, and the state that holds what stands after it, refused or accepted.
use Rattle.std.specs.Prelude.{◌≡◌, List, ℕ, ℤ, Result, Ok, Err}
use Rattle.meaning.specs.Standing.{Standing}
use Rattle.meaning.specs.Lists.{Largest}
use Rattle.meaning.specs.Calls as Calls
use Rattle.meaning.specs.Calls.{Call, add_table, add_linear, refusal, after}
use Rattle.meaning.specs.Histories.{Leaves}
use Rattle.state.specs.declared.State.{State}
use Rattle.state.specs.declared.Sort.{Sort}
use Rattle.state.specs.declared.Sort.TheVariants.{Allow, Forbid}
use Rattle.refusals.specs.declared.Refusal.{Refusal}
use Rattle.refusals.specs.Numbers.{number_of}
use Rattle.filters.specs.declared.Head.{Head}
use Rattle.filters.specs.declared.Kind.{Kind}
use Rattle.state.specs.declared.AfterCall.{AfterCall}
use Rattle.state.specs.Holds.{Holds, heads_held}
use Rattle.state.specs.Additions.{kind_said}

abbrev pub sort_said : Sort → Calls.Sort
sort_said Allow = Calls.allow
sort_said Forbid = Calls.forbid

-- The call c on the state s answers with the number and leaves the state t, whatever stands in s.
abbrev pub Answers : State → Call → ℕ → State → Type 0
Answers s c number t =
    (h : List Call) (w : Standing) (L : List ℕ) → Leaves h w → Holds s w → Largest w L → (number ≡ refusal w L c) × Holds t (after w L c)

-- adding a table of allowed or forbidden tuples, whose values are the cells, gives the answer and leaves the state t
abbrev pub AddsTable : State → Sort → List ℕ → List ℕ → Result Unit Refusal → State → Type 0
AddsTable s sort scope cells answer t = Answers s (add_table (sort_said sort) scope cells) (number_of answer) t

-- adding a linear constraint gives the answer and leaves the state t
abbrev pub AddsLinear : State → List ℕ → List ℤ → ℤ → Result Unit Refusal → State → Type 0
AddsLinear s scope coefficients bound answer t = Answers s (add_linear scope coefficients bound) (number_of answer) t

-- ---- what the calls share

-- the call is accepted, and leaves the state s
abbrev pub IsAccepted : State → AfterCall → Type 0
IsAccepted s r = (r.answer ≡ Ok tt) × (r.state ≡ s)

-- it is refused, and the state s stays
abbrev pub IsRefused : Refusal → State → AfterCall → Type 0
IsRefused refusal s r = (r.answer ≡ Err refusal) × (r.state ≡ s)

-- the heads of the rules that stand, and the room
abbrev pub LendsRules : State → List Head → List ℕ → Type 0
LendsRules s heads room = (heads ≡ heads_held s) × (room ≡ s.room)

-- the kind of a table of such a sort
abbrev pub IsKindOf : Sort → Kind → Type 0
IsKindOf sort kind = kind ≡ kind_said sort
