-- What a step of a reader's code says of the reading that it stands for.
use Rattle.std.specs.Prelude.{◌≡◌, Bool, List, ℕ, Result, Ok, Err, ⊤}
use Rattle.meaning.specs.Refusals as Numbers
use Rattle.meaning.specs.Refusals.{first}
use Rattle.refusals.specs.declared.Refusal.{Refusal}
use Rattle.refusals.specs.Numbers.{table_of}
use Rattle.reading.specs.declared.Fault.{Fault}
use Rattle.reading.specs.declared.Read.{Read}
use Rattle.reading.specs.Reading.{Reading, fault, got}

-- document 01's number
abbrev pub number_of : Refusal → ℕ
number_of r = Numbers.number (table_of r)

-- the step is the reading's fault; or it goes on where the reading does, and what was read is so kept
abbrev pub Told : {A T : Type 0} → Reading A → (A → T → Type 0) → Result (Read T) Fault → Type 0
Told reading Kept (Err f) = reading ≡ fault (number_of f.refusal) f.at
Told {A} reading Kept (Ok r) = (x : A) × (reading ≡ got x r.after) × Kept x r.what

pub record Comes {A T : Type 0} (reading : Reading A) (Kept : A → T → Type 0) (step : Result (Read T) Fault) : Type 0 where
  pub told : Told reading Kept step

abbrev pub ComesTo : Reading ℕ → Result (Read ℕ) Fault → Type 0
ComesTo reading step = Comes reading (λ x v. x ≡ v) step

-- what a judge may say is what the first test that refuses says
abbrev pub Says : List (Bool × Numbers.Refusal) → Result ⊤ Refusal → Type 0
Says tests (Ok _) = first tests ≡ 0
Says tests (Err r) = first tests ≡ number_of r

abbrev pub Judges : (Result ⊤ Refusal → Type 0) → List (Bool × Numbers.Refusal) → Type 0
Judges Answers tests = (r : Result ⊤ Refusal) → Answers r → Says tests r
