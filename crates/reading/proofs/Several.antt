-- Things read one after the other: how far the reading has come, step by step. Assumes nothing.
use mathlib.Core.Path.{◌≡◌, refl, sym, ap, ◌∙◌, subst⁻¹}
use mathlib.Core.List.{List, [], ◌∷◌, ◌++◌}
use Prim.Native.Nat.{ℕ, suc, ◌+◌, ◌-◌, ◌≤◌, ◌<◌}
use native.Mathlib.Numerals.{add-one}
use native.Mathlib.Omega.{arith}
use lib.ListN.{length, set, take}
use lib.Seq.{take-suc-set}
use Rattle.std.specs.Prelude.{Ok, Err}
use Rattle.reading.specs.declared.Fault.{Fault}
use Rattle.reading.specs.declared.Read.{Read}
use Rattle.reading.specs.Reading.{Reading, got, next, times, Tests, number}
use Rattle.reading.specs.Steps.{Comes, ComesTo}
use Rattle.reading.proofs.Coming.{comes_by, stops, goes_on}

module _ {A : Type 0} (one : List A → ℕ → Reading A) where
  times_none : (k : ℕ) (before : List A) (at : ℕ) → k ≡ 0 → times one k before at ≡ got before at
  unfolding times
  times_none k before at e = ap (λ (n : ℕ). times one n before at) e

  times_more : (k : ℕ) (before : List A) (at : ℕ) → times one (suc k) before at ≡ next (one before at) (λ x after. times one k (before ++ (x ∷ [])) after)
  unfolding times
  times_more k before at = refl

  -- j of n things are read, and the reading stands at a place: the rest from there is what the whole comes to
  pub record SoFar (n at j place : ℕ) (read : List A) : Type 0 where
    pub few : j ≤ n
    pub goes : times one n [] at ≡ times one (n - j) read place

  pub none_yet : (n at : ℕ) → SoFar n at 0 at []
  none_yet n at = let e : n ≡ n - 0 = omega arith in record { few = omega arith; goes = ap (λ (k : ℕ). times one k [] at) e }

  module _ {n at j place : ℕ} {read : List A} (h : SoFar n at j place read) where
    unfolded : j < n → times one n [] at ≡ next (one read place) (λ x after. times one (n - (j + 1)) (read ++ (x ∷ [])) after)
    unfolded l =
        let e : n - j ≡ suc (n - (j + 1)) = omega arith in
        h.goes ∙ ap (λ (k : ℕ). times one k read place) e ∙ times_more (n - (j + 1)) read place

    -- the whole is read
    pub all_read : {T : Type 0} {Kept : List A → T → Type 0} (v : T) → n ≤ j → Kept read v → Comes (times one n [] at) Kept (Ok (record { what = v; after = place }))
    all_read v l k = record { told = (read, h.goes ∙ times_none (n - j) read place (omega arith), k) }

    module _ (l : j < n) {T : Type 0} {Kept : A → T → Type 0} where
      -- the next one has the fault
      pub fault_there : {U : Type 0} {Kept' : List A → U → Type 0} {f : Fault} → Comes (one read place) Kept (Err f) → Comes (times one n [] at) Kept' (Err f)
      fault_there came = comes_by (unfolded l) (stops _ came)

      -- the next one is read
      pub one_more : {r : Read T} → Comes (one read place) Kept (Ok r) → (x : A) × Kept x r.what × SoFar n at (j + 1) r.after (read ++ (x ∷ []))
      one_more came =
          let (x, q, k) = goes_on (λ x after. times one (n - (j + 1)) (read ++ (x ∷ [])) after) came in
          (x, k, record { few = omega arith; goes = unfolded l ∙ q })

-- ---- numbers into a buffer

module _ (text : List ℕ) (tests : List ℕ → Tests) where
  -- the numbers of a list are read one by one
  abbrev pub NumbersSoFar : ℕ → ℕ → ℕ → ℕ → List ℕ → Type 0
  NumbersSoFar n at j place read = SoFar (λ before p. number text (tests before) p) n at j place read

  module _ {n at j place : ℕ} {read : List ℕ} (h : NumbersSoFar n at j place read) (l : j < n) where
    pub next_number : {r : Read ℕ} (now : List ℕ) → ComesTo (number text (tests read) place) (Ok r) → now ≡ read ++ (r.what ∷ []) → NumbersSoFar n at (j + 1) r.after now
    next_number {r} now came q =
        let (x, k, more) = one_more (λ before p. number text (tests before) p) h l came in
        subst⁻¹ (λ (l : List ℕ). NumbersSoFar n at (j + 1) r.after l) (q ∙ ap (λ (y : ℕ). read ++ (y ∷ [])) (sym k)) more

-- the next number is put behind the first j of a buffer
pub put_next : (l : List ℕ) (j v : ℕ) → j < length l → take (j + 1) (set l j v) ≡ take j l ++ (v ∷ [])
put_next l j v h = ap (λ (n : ℕ). take n (set l j v)) (add-one j) ∙ take-suc-set l j v h
