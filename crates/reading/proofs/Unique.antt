-- Any two results that a public contract of this crate allows are the same. Assumes nothing.
use mathlib.Core.Path.{◌≡◌, sym, ap, ◌∙◌}
use mathlib.Core.Bool.{true≢false}
use mathlib.Core.List.{List}
use Prim.Native.Nat.{ℕ, ◌^◌, ◌<◌}
use Rattle.refusals.specs.declared.Refusal.{Refusal}
use Rattle.refusals.proofs.Unique.{same_refusal}
use Rattle.std.specs.Prelude.{Result, Ok, Err, ⊤}
use Rattle.reading.specs.Reading.{Reading, Tests}
use Rattle.reading.specs.Steps.{ComesTo, Judges}
use Rattle.reading.specs.declared.Fault.{Fault}
use Rattle.text.specs.declared.Number.{Number}
use Rattle.text.specs.declared.Malformed.{Malformed}
use Rattle.text.specs.Tokens.{number_at}
use Rattle.reading.specs.Promises.{IsFaultOf, answered, JudgedBy, ComesToNumberJudged, ComesToAnyNumber, ComesToNumberWithin, ComesToNumberBelow, ComesToName, ComesToEnd}
use Rattle.reading.proofs.Readings.{fault_of, is_fault, what_or, place_or}
use Rattle.reading.proofs.Coming.{Step}
use Rattle.reading.proofs.Judging.{judged_comes}

-- the steps of one reading
step_unique : (reading : Reading ℕ) (s t : Step ℕ) → ComesTo reading s → ComesTo reading t → s ≡ t
step_unique reading (Err f) (Err g) a b =
    let e = ap fault_of (sym a.told ∙ b.told) in
    let r = same_refusal f.refusal g.refusal (ap (λ (p : ℕ × ℕ). p.0) e) in
    let at = ap (λ (p : ℕ × ℕ). p.1) e in
    λ i. Err (record { refusal = r i; at = at i })
step_unique reading (Err f) (Ok s) a b = absurd (true≢false (ap is_fault (sym a.told ∙ b.told.1)))
step_unique reading (Ok r) (Err g) a b = absurd (true≢false (ap is_fault (sym b.told ∙ a.told.1)))
step_unique reading (Ok r) (Ok s) a b =
    let e = sym a.told.1 ∙ b.told.1 in
    let what = sym a.told.2 ∙ ap (what_or 0) e ∙ b.told.2 in
    let after = ap (place_or 0) e in
    λ i. Ok (record { what = what i; after = after i })

pub fault_unique : (m : Malformed) (f g : Fault) → IsFaultOf m f → IsFaultOf m g → f ≡ g
fault_unique m f g a b = a ∙ sym b

module _ (text : List ℕ) (at : ℕ) (r s : Step ℕ) where
  -- whatever the judge is, as long as what it says follows some tests
  pub number_judged_unique : (Says : ℕ → Result ⊤ Refusal → Type 0) (tests : Tests) → ((v : ℕ) → v < 2 ^ 32 → Judges (Says v) (tests v))
      → ComesToNumberJudged text at Says r → ComesToNumberJudged text at Says s → r ≡ s
  number_judged_unique Says tests j a b = step_unique _ r s (judged_comes text at a tests j) (judged_comes text at b tests j)

  -- also one that follows no tests, as long as it says one thing of each number
  pub judged_once_unique : (Says : ℕ → Result ⊤ Refusal → Type 0) → ((v : ℕ) (a b : Result ⊤ Refusal) → Says v a → Says v b → a ≡ b)
      → ComesToNumberJudged text at Says r → ComesToNumberJudged text at Says s → r ≡ s
  judged_once_unique Says once a b = by_token (number_at text at) a b
    where
      by_token : (token : Result Number Malformed) → JudgedBy Says token r → JudgedBy Says token s → r ≡ s
      by_token (Err m) a b = a ∙ sym b
      by_token (Ok n) (l, said, a) (m, also, b) = a ∙ ap (answered n) (once n.value l m said also) ∙ sym b

  pub any_number_unique : ComesToAnyNumber text at r → ComesToAnyNumber text at s → r ≡ s
  any_number_unique = step_unique _ r s

  pub number_within_unique : (low : ℕ) (below : Refusal) (high : ℕ) (above : Refusal) → ComesToNumberWithin text at low below high above r
      → ComesToNumberWithin text at low below high above s → r ≡ s
  number_within_unique low below high above = step_unique _ r s

  pub number_below_unique : (limit : ℕ) (above : Refusal) → ComesToNumberBelow text at limit above r → ComesToNumberBelow text at limit above s → r ≡ s
  number_below_unique limit above = step_unique _ r s

  pub skip_name_unique : ComesToName text at r → ComesToName text at s → r ≡ s
  skip_name_unique = step_unique _ r s

  pub read_end_unique : ComesToEnd text at r → ComesToEnd text at s → r ≡ s
  read_end_unique = step_unique _ r s
