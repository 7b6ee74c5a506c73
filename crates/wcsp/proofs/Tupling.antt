-- One tuple with its cost: read behind the others, judged against them. Assumes nothing.
use mathlib.Core.Path.{◌≡◌, sym, ap, ap₂, ◌∙◌, subst⁻¹}
use mathlib.Core.Bool.{Bool, true, false, ◌||◌, cond}
use mathlib.Core.List.{List, [], ◌∷◌}
use Prim.Native.Nat.{ℕ, ◌+◌, ◌*◌, ◌≤◌}
use lib.ListN.{length, get_or, take, drop}
use lib.Seq.{length-take-le}
use lib.Dec.{leb}
use Rattle.std.specs.Prelude.{Ok, Err, ⊤}
use Rattle.meaning.specs.Refusals.{out_of_range, first}
use Rattle.meaning.specs.Calls.{some, same, rows}
use Rattle.text.specs.Words.{token_start}
use Rattle.refusals.specs.declared.Refusal.TheVariants as Wrong
use Rattle.reading.specs.declared.Read.{Read}
use Rattle.reading.specs.Reading.{fault, got, any_number, number, several}
use Rattle.costs.specs.Costs.{same_said}
use Rattle.wcsp.specs.Files.{value_tests, tuple_tests}
use Rattle.reading.specs.Steps.{Comes, ComesTo}
use Rattle.wcsp.specs.Steps.{Behind, Filled, NextTuple}
use Rattle.reading.proofs.Coming.{Step, comes_by, goes_on, number_on}
use Rattle.reading.proofs.Judging.{judged_refused, judged_passed}
use Rattle.wcsp.proofs.Heaping.{rows_are}

module _ (text sizes scope : List ℕ) (default at count : ℕ) (before after values : List ℕ) (behind : Behind (count * length scope) before after)
    (written : take (length scope) (drop (count * length scope) after) ≡ values) where
  abbrev Kept : List ℕ → ⊤ → Type 0
  Kept t v = t ≡ take (length scope) (drop (count * length scope) after)

  module _ {r : Read ⊤} (read : Comes (several text (value_tests sizes scope) (length scope) at) (λ t v. t ≡ values) (Ok r)) where
    came : Comes (several text (value_tests sizes scope) (length scope) at) Kept (Ok r)
    came = subst⁻¹ (λ (l : List ℕ). Comes (several text (value_tests sizes scope) (length scope) at) (λ t v. t ≡ l) (Ok r)) written read

    module _ {cost : Read ℕ} (cost_came : ComesTo (number text any_number r.after) (Ok cost)) (fits : count * length scope + length scope ≤ length before) where
      -- the tests, as the code finds them
      tests_are : (ts : List (List ℕ)) (t : List ℕ) {b : Bool} → Filled (length scope) count ts before → Kept t r.what
          → (same_said default cost.what || some (same (take (length scope) (drop (count * length scope) after))) (rows count (length scope) after)) ≡ b
          → (same_said default cost.what || some (same t) ts) ≡ b
      tests_are ts t f k e =
          ap₂ (λ (u : List ℕ) (us : List (List ℕ)). same_said default cost.what || some (same u) us) k (sym (rows_are (length scope) count ts before after f behind fits)) ∙ e

      pub twice : (start : ℕ) → start ≡ token_start text at
          → (same_said default cost.what || some (same (take (length scope) (drop (count * length scope) after))) (rows count (length scope) after)) ≡ true
          → NextTuple text sizes scope default at count before after (Err (record { refusal = Wrong.TupleTwice; at = start }))
      unfolding first
      twice start s e = record {
        behind = behind;
        comes = λ ts f.
            let (t, q, k) = goes_on _ came in
            comes_by (q ∙ number_on _ cost_came)
            (record { told = judged_refused (tuple_tests default cost.what ts t) (token_start text at) (got t cost.after) Wrong.TupleTwice (ap (λ (b : Bool). cond b 5 0) (tests_are ts t f k e)) ∙ ap (fault 5) (sym s) });
      }

      pub fresh : (same_said default cost.what || some (same (take (length scope) (drop (count * length scope) after))) (rows count (length scope) after)) ≡ false
          → (v : ⊤) → NextTuple text sizes scope default at count before after (Ok (record { what = v; after = cost.after }))
      unfolding first
      fresh e v = record {
        behind = behind;
        comes = λ ts f.
            let (t, q, k) = goes_on _ came in
            comes_by (q ∙ number_on _ cost_came)
            (record { told = (t, judged_passed (tuple_tests default cost.what ts t) (token_start text at) (got t cost.after) (ap (λ (b : Bool). cond b 5 0) (tests_are ts t f k e)), k) });
      }

-- each value of a tuple is tested against its variable's size
pub value_came : (text sizes scope tuple : List ℕ) (j place : ℕ) {step : Step ℕ} → j ≤ length tuple
    → ComesTo (number text (λ v. (leb (get_or sizes (get_or scope j 0) 0) v, out_of_range) ∷ []) place) step
    → ComesTo (number text (value_tests sizes scope (take j tuple)) place) step
value_came text sizes scope tuple j place {step} h came =
    let so_many : length (take j tuple) ≡ j = length-take-le j tuple h in
    subst⁻¹ (λ (k : ℕ). ComesTo (number text (λ v. (leb (get_or sizes (get_or scope k 0) 0) v, out_of_range) ∷ []) place) step) so_many came
