-- One number: what its token says, and what the tests say of it. Assumes nothing.
use mathlib.Core.Path.{◌≡◌, refl, sym, ap, ◌∙◌, subst, subst⁻¹}
use mathlib.Core.Bool.{Bool, true, false, cond, true≢false}
use mathlib.Core.List.{List}
use Prim.Native.Nat.{ℕ, ◌^◌, ◌≤◌, ◌<◌}
use native.Mathlib.Omega.{arith}
use borrow.Author.Tests.{eq-eqb, ne_eqb, eqb-true, ltb-false}
use lib.Dec.{eqb}
use Rattle.std.specs.Prelude.{Result, Ok, Err, ⊤}
use Rattle.meaning.specs.Refusals.{Refusal, first}
use Rattle.meaning.proofs.Proper.{number_above, Passed, passed}
use Rattle.text.specs.declared.Number.{Number}
use Rattle.text.specs.declared.Malformed.{Malformed}
use Rattle.text.specs.Tokens.{number_at}
use Rattle.text.proofs.Bounds.{number_small}
use Rattle.refusals.specs.declared.Refusal as Refusals
use Rattle.refusals.specs.declared.Refusal.TheVariants as Wrong
use Rattle.refusals.specs.Numbers.{table_of}
use Rattle.reading.specs.Reading.{Reading, fault, got, Tests, judged, number_judged, number, range}
use Rattle.reading.specs.Steps.{number_of, ComesTo, Says, Judges}
use Rattle.reading.specs.Promises.{answered, JudgedBy, ComesToNumberJudged}
use Rattle.reading.specs.declared.Fault.{Fault}
use Rattle.reading.specs.declared.Read.{Read}
use Rattle.reading.proofs.Readings.{is_fault, what_or}

-- ---- what the tests say of what was read

pub judged_refused : {A : Type 0} (ts : List (Bool × Refusal)) (at : ℕ) (reading : Reading A) (r : Refusals.Refusal) → first ts ≡ number_of r → judged ts at reading ≡ fault (number_of r) at
judged_refused ts at reading r f =
    ap (λ (n : ℕ). cond (eqb n 0) reading (fault n at)) f
    ∙ ap (λ (b : Bool). cond b reading (fault (number_of r) at)) (ne_eqb (number_of r) 0 (λ z. let h = number_above (table_of r) in omega arith))

pub judged_passed : {A : Type 0} (ts : List (Bool × Refusal)) (at : ℕ) (reading : Reading A) → first ts ≡ 0 → judged ts at reading ≡ reading
judged_passed ts at reading f = ap (λ (b : Bool). cond b reading (fault (first ts) at)) (eq-eqb (first ts) 0 f)

-- ---- the same as steps of the code

module _ (text : List ℕ) (tests : Tests) (at : ℕ) where
  pub malformed_step : {m : Malformed} → Err m ≡ number_at text at → ComesTo (number text tests at) (Err (record { refusal = Wrong.Malformed; at = m.start }))
  unfolding number
  malformed_step e = record { told = ap (number_judged tests) (sym e) }

  module _ {n : Number} (said : Ok n ≡ number_at text at) where
    pub refused_step : (r : Refusals.Refusal) → first (tests n.value) ≡ number_of r → ComesTo (number text tests at) (Err (record { refusal = r; at = n.start }))
    unfolding number
    refused_step r f = record { told = ap (number_judged tests) (sym said) ∙ judged_refused (tests n.value) n.start (got n.value n.after) r f }

    pub passed_step : first (tests n.value) ≡ 0 → ComesTo (number text tests at) (Ok (record { what = n.value; after = n.after }))
    unfolding number
    passed_step f = record { told = (n.value, ap (number_judged tests) (sym said) ∙ judged_passed (tests n.value) n.start (got n.value n.after) f, refl) }

-- ---- what a judge says is what some tests say, so the step is that of the reading by these tests

module _ (text : List ℕ) (at : ℕ) {Answers : ℕ → Result ⊤ Refusals.Refusal → Type 0} {r : Result (Read ℕ) Fault} where
  pub judged_comes : ComesToNumberJudged text at Answers r → (tests : Tests) → ((v : ℕ) → v < 2 ^ 32 → Judges (Answers v) (tests v)) → ComesTo (number text tests at) r
  judged_comes came tests judges = by_token (number_at text at) refl came
    where
      by_answer : (n : Number) → Ok n ≡ number_at text at → (said : Result ⊤ Refusals.Refusal) → Says (tests n.value) said → ComesTo (number text tests at) (answered n said)
      by_answer n e (Ok _) s = passed_step text tests at e s
      by_answer n e (Err refusal) s = refused_step text tests at e refusal s

      by_token : (token : Result Number Malformed) → token ≡ number_at text at → JudgedBy Answers token r → ComesTo (number text tests at) r
      by_token (Err m) e same = subst⁻¹ (λ (step : Result (Read ℕ) Fault). ComesTo (number text tests at) step) same (malformed_step text tests at e)
      by_token (Ok n) e (said, answers, same) =
          let small = number_small text at n (sym e) in
          subst⁻¹ (λ (step : Result (Read ℕ) Fault). ComesTo (number text tests at) step) same (by_answer n e said (judges n.value (omega (arith, small)) said answers))

-- ---- what was read has passed its tests

pub judged_got : {A : Type 0} (ts : List (Bool × Refusal)) (at : ℕ) (reading : Reading A) {x : A} {place : ℕ} → judged ts at reading ≡ got x place → Passed ts × (reading ≡ got x place)
judged_got ts at reading {x} {place} e = by_test (eqb (first ts) 0) (eqb-true (first ts) 0) e
  where
    by_test : (b : Bool) → (b ≡ true → first ts ≡ 0) → cond b reading (fault (first ts) at) ≡ got x place → Passed ts × (reading ≡ got x place)
    by_test true h e = (passed ts (h refl), e)
    by_test false h e = absurd (true≢false (ap is_fault e))

pub tests_passed : (text : List ℕ) (tests : Tests) (at : ℕ) {v place : ℕ} → number text tests at ≡ got v place → Passed (tests v)
unfolding number
tests_passed text tests at {v} {place} e = by_token (number_at text at) e
  where
    by_token : (r : Result Number Malformed) → number_judged tests r ≡ got v place → Passed (tests v)
    by_token (Err m) e = absurd (true≢false (ap is_fault e))
    by_token (Ok n) e =
        let (p, q) = judged_got (tests n.value) n.start (got n.value n.after) e in
        subst (λ (u : ℕ). Passed (tests u)) (ap (what_or n.value) q) p

pub in_range : (text : List ℕ) (low high : ℕ) (b a : Refusal) (at : ℕ) {v place : ℕ} → number text (range low b high a) at ≡ got v place → (low ≤ v) × (v ≤ high)
in_range text low high b a at {v} e =
    let p = tests_passed text (range low b high a) at e in
    (ltb-false v low p.0, ltb-false high v p.1.0)
