-- Any two results that the public contract of this crate allows are the same, and answers with the same number are. Assumes nothing.
use mathlib.Core.Path.{◌≡◌, refl, sym, ap, ◌∙◌}
use mathlib.Core.List.{List, [], ◌∷◌}
use Prim.Native.Nat.{ℕ, ◌-◌}
use native.Mathlib.Omega.{arith}
use lib.ListN.{get_or}
use Rattle.meaning.specs.Refusals.{number}
use Rattle.meaning.proofs.Proper.{number_above}
use Rattle.refusals.specs.declared.Refusal.{Refusal}
use Rattle.refusals.specs.declared.Refusal.TheVariants.{NoSuchVariable, VariableTwice, WrongLength, OutOfRange, TupleTwice, Full, Malformed, NotLeft, TooManyDecisions, TooDeep, ShortBuffer, NoObjective, Decided}
use Rattle.std.specs.Prelude.{Result, Ok, Err}
use Rattle.refusals.specs.Numbers.{table_of, IsNumberOf, number_of}

pub number_of_unique : (refusal : Refusal) (r s : ℕ) → IsNumberOf refusal r → IsNumberOf refusal s → r ≡ s
number_of_unique refusal r s h k = h ∙ sym k

-- ---- answers, by their numbers

-- the refusals in the order of their numbers, from 1
refusals : List Refusal
refusals =
    NoSuchVariable ∷ VariableTwice ∷ WrongLength ∷ OutOfRange ∷ TupleTwice ∷ Full ∷ Malformed ∷ NotLeft ∷ TooManyDecisions ∷ TooDeep ∷ ShortBuffer ∷ NoObjective ∷ Decided ∷ []

named : ℕ → Refusal
named n = get_or refusals (n - 1) NoSuchVariable

named_number : (r : Refusal) → named (number (table_of r)) ≡ r
unfolding named refusals
named_number NoSuchVariable = refl
named_number VariableTwice = refl
named_number WrongLength = refl
named_number OutOfRange = refl
named_number TupleTwice = refl
named_number Full = refl
named_number Malformed = refl
named_number NotLeft = refl
named_number TooManyDecisions = refl
named_number TooDeep = refl
named_number ShortBuffer = refl
named_number NoObjective = refl
named_number Decided = refl

pub same_refusal : (r q : Refusal) → number (table_of r) ≡ number (table_of q) → r ≡ q
same_refusal r q e = sym (named_number r) ∙ ap named e ∙ named_number q

pub not_accepted : {A : Type 0} (r : Refusal) → number (table_of r) ≡ 0 → A
not_accepted r e = let p = number_above (table_of r) in absurd (omega arith)

-- where accepted calls have nothing to say
pub answer_unique : (a b : Result Unit Refusal) → number_of a ≡ number_of b → a ≡ b
answer_unique (Ok a) (Ok b) e = refl
answer_unique (Ok a) (Err q) e = not_accepted q (sym e)
answer_unique (Err r) (Ok b) e = not_accepted r e
answer_unique (Err r) (Err q) e = ap Err (same_refusal r q e)
