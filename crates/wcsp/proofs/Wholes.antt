-- A file as a whole. Assumes nothing.
use mathlib.Core.Path.{◌≡◌, refl, sym, ap, ◌∙◌, subst, subst⁻¹}
use mathlib.Core.Bool.{true≢false}
use mathlib.Core.List.{List, []}
use Prim.Native.Nat.{ℕ, ◌≤◌}
use native.Mathlib.Omega.{arith}
use lib.ListN.{length, take}
use lib.Seq.{length-take-le}
use Rattle.std.specs.Prelude.{Ok, ⊤}
use Rattle.meaning.specs.Limits.{variable_limit, value_limit}
use Rattle.state.specs.declared.State.{State}
use Rattle.state.specs.Runs.{Run}
use Rattle.state.proofs.Runs.{run_holds}
use Rattle.reading.specs.declared.Read.{Read}
use Rattle.wcsp.specs.declared.header.Header as Heads
use Rattle.wcsp.specs.declared.loading.File as Code
use Rattle.reading.specs.Reading.{several, times, ended}
use Rattle.wcsp.specs.Files.{Header, File, header, size_tests, table, file, calls, variable_calls, table_calls}
use Rattle.reading.specs.Steps.{Comes, ComesTo}
use Rattle.wcsp.specs.Steps.{Says, Under}
use Rattle.wcsp.specs.Promises.{Reads}
use Rattle.reading.proofs.Readings.{is_fault, what_or}
use Rattle.wcsp.proofs.Sound.{header_bounds}
use Rattle.wcsp.proofs.Standing.{file_accepted}
use Rattle.reading.proofs.Coming.{Step, comes_by, goes_on, last_one}

abbrev Kept : File → Code.File → Type 0
Kept f k = (length f.sizes ≡ k.variables) × Run (calls f) k.state

abbrev Loads : List ℕ → Step Code.File → Type 0
Loads text step = Comes (file text) Kept step

module _ (text : List ℕ) where
  module _ {head : Read Heads.Header} (c1 : Comes (header text) Says (Ok head)) where
    abbrev n : ℕ
    n = head.what.variables

    -- the first line is within the limits
    pub within : (head.what.largest ≤ value_limit) × (n ≤ variable_limit)
    within = let (h, q, (x, y, z)) = c1.told in let b = header_bounds text q in (omega (arith, b.largest, y), omega (arith, b.variables, x))

    pub all_inside : (sizes : List ℕ) → length sizes ≡ 32 → n ≤ length sizes
    all_inside sizes long = omega (arith, long, within.1)

    abbrev SizesCome : Step (List ℕ) → Type 0
    SizesCome step = Comes (several text (size_tests head.what.largest) n head.after) (λ ss k. (ss ≡ take n k) × Under 65 (take n k)) step

    -- the sizes are read as the first line says
    sizes_came : {step : Step (List ℕ)} (h : Header) → Says h head.what → SizesCome step → Comes (several text (size_tests h.largest) h.variables head.after) (λ ss k. (ss ≡ take n k) × Under 65 (take n k)) step
    sizes_came {step} h (x, y, z) c2 =
        subst⁻¹ (λ (k : ℕ). Comes (several text (size_tests k) h.variables head.after) (λ ss l. (ss ≡ take n l) × Under 65 (take n l)) step) y
        (subst⁻¹ (λ (k : ℕ). Comes (several text (size_tests head.what.largest) k head.after) (λ ss l. (ss ≡ take n l) × Under 65 (take n l)) step) x c2)

    module _ {sizes : Read (List ℕ)} (c2 : SizesCome (Ok sizes)) where
      abbrev all : List ℕ
      all = take n sizes.what

      abbrev TablesCome : Step State → Type 0
      TablesCome step = Comes (times (table text all) head.what.constraints [] sizes.after) (λ ts k. Run (table_calls ts (variable_calls all [])) k) step

      tables_came : {step : Step State} (h : Header) (ss : List ℕ) → Says h head.what → ss ≡ all → TablesCome step
          → Comes (times (table text ss) h.constraints [] sizes.after) (λ ts k. Run (table_calls ts (variable_calls ss [])) k) step
      tables_came {step} h ss (x, y, z) e c3 =
          subst⁻¹ (λ (k : ℕ). Comes (times (table text ss) k [] sizes.after) (λ ts l. Run (table_calls ts (variable_calls ss [])) l) step) z
          (subst⁻¹ (λ (l : List ℕ). Comes (times (table text l) head.what.constraints [] sizes.after) (λ ts k. Run (table_calls ts (variable_calls l [])) k) step) e c3)

      module _ {state : Read State} (c3 : TablesCome (Ok state)) where
        pub the_file : {end : Read ℕ} → ComesTo (ended text state.after) (Ok end) → n ≤ length sizes.what → Loads text (Ok (record { what = record { variables = n; state = state.what }; after = end.after }))
        the_file c4 enough =
            let (h, q, says) = goes_on _ c1 in
            let (ss, q2, k) = goes_on _ (sizes_came h says c2) in
            let (ts, q3, run) = goes_on _ (tables_came h ss says k.0 c3) in
            comes_by (q ∙ q2 ∙ q3) (last_one c4 (λ x. record { sizes = ss; tables = ts }) _ (λ x m. (ap length k.0 ∙ length-take-le n sizes.what enough, run)))

-- ---- the outcome

pub reads_file : (text : List ℕ) {r : Read Code.File} (v : ⊤) → Loads text (Ok r) → Reads text (record { outcome = Ok v; variables = r.what.variables; state = r.what.state })
reads_file text {r} v came =
    let (f, q, kept) = came.told in
    record {
      refused = λ number spot p. absurd (true≢false (ap is_fault (sym p ∙ q)));
      accepted = λ g spot p.
          let same : f ≡ g = ap (what_or f) (sym q ∙ p) in
          let run = subst (λ (x : File). Run (calls x) r.what.state) same kept.1 in
          let (w, l, hold) = run_holds run in
          (refl, sym kept.0 ∙ ap (λ (x : File). length x.sizes) same, file_accepted text p l, run);
      only = λ p. (f, _, q);
    }
