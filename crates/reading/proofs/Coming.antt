-- Steps of the reader's code, one after the other: a fault ends the reading, and otherwise it goes on at the place after. Assumes nothing.
use mathlib.Core.Path.{◌≡◌, ap, ◌∙◌, subst⁻¹}
use Prim.Native.Nat.{ℕ}
use Rattle.std.specs.Prelude.{Result, Ok, Err}
use Rattle.reading.specs.declared.Fault.{Fault}
use Rattle.reading.specs.declared.Read.{Read}
use Rattle.reading.specs.Reading.{Reading, got, next}
use Rattle.reading.specs.Steps.{Comes, ComesTo}

abbrev pub Step : Type 0 → Type 0
Step T = Result (Read T) Fault

-- the reading is the same as another
pub comes_by : {A T : Type 0} {Kept : A → T → Type 0} {a b : Reading A} {step : Step T} → a ≡ b → Comes b Kept step → Comes a Kept step
comes_by {A} {T} {Kept} {a} {b} {step} e h = subst⁻¹ (λ (r : Reading A). Comes r Kept step) e h

module _ {A T : Type 0} {reading : Reading A} {Kept : A → T → Type 0} where
  -- a fault is the step, whatever was to come
  pub stops : {B U : Type 0} {Kept' : B → U → Type 0} {f : Fault} (more : A → ℕ → Reading B) → Comes reading Kept (Err f) → Comes (next reading more) Kept' (Err f)
  stops more came = record { told = ap (λ (x : Reading A). next x more) came.told }

  -- what was read, and where the reading goes on
  pub goes_on : {B : Type 0} {r : Read T} (more : A → ℕ → Reading B) → Comes reading Kept (Ok r) → (x : A) × (next reading more ≡ more x r.after) × Kept x r.what
  goes_on more came = let (x, q, k) = came.told in (x, ap (λ (y : Reading A). next y more) q, k)

  -- after the last thing there is nothing more to read
  pub last_one : {B U : Type 0} {Kept' : B → U → Type 0} {r : Read T} → Comes reading Kept (Ok r) → (make : A → B) (u : U) → ((x : A) → Kept x r.what → Kept' (make x) u)
      → Comes (next reading (λ x place. got (make x) place)) Kept' (Ok (record { what = u; after = r.after }))
  last_one came make u kept = let (x, q, k) = goes_on (λ x place. got (make x) place) came in record { told = (make x, q, kept x k) }

-- the same for a number
pub number_is : {reading : Reading ℕ} {r : Read ℕ} → ComesTo reading (Ok r) → reading ≡ got r.what r.after
number_is {reading} {r} came = let (x, q, k) = came.told in q ∙ ap (λ (y : ℕ). got y r.after) k

pub number_on : {B : Type 0} {reading : Reading ℕ} {r : Read ℕ} (more : ℕ → ℕ → Reading B) → ComesTo reading (Ok r) → next reading more ≡ more r.what r.after
number_on more came = ap (λ (y : Reading ℕ). next y more) (number_is came)
