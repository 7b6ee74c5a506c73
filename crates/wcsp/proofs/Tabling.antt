-- One table: what is read of it is what is kept of it. Assumes nothing.
use mathlib.Core.Path.{◌≡◌, refl, sym, ap, ap₂, ◌∙◌, subst, subst⁻¹}
use mathlib.Core.Bool.{false}
use mathlib.Core.List.{List, []}
use Prim.Native.Nat.{ℕ, ◌+◌, ◌*◌, ◌≤◌}
use native.Mathlib.Nat.{mul_comm}
use native.Mathlib.Omega.{arith}
use borrow.Author.Tests.{ltb-false}
use lib.Dec.{ltb}
use lib.ListN.{length, take}
use lib.Seq.{length-take-le}
use Rattle.std.specs.Prelude.{Ok, ⊤}
use Rattle.meaning.specs.Limits.{room_limit, arity_limit}
use Rattle.meaning.specs.Refusals.{wrong_length}
use Rattle.state.specs.declared.Sort as Sorts
use Rattle.state.specs.Promises.{sort_said}
use Rattle.reading.specs.declared.Read.{Read}
use Rattle.wcsp.specs.declared.tables.Table as Code
use Rattle.reading.specs.Reading.{any_number, range, number, several, times}
use Rattle.costs.specs.Costs.{sort_by}
use Rattle.wcsp.specs.Files.{Table, taken, variable_tests, count_tests, tuple}
use Rattle.reading.specs.Steps.{Comes, ComesTo}
use Rattle.wcsp.specs.Steps.{Known, Filled, TableKept, NextTable}
use Rattle.reading.proofs.Coming.{Step, comes_by, goes_on, number_is, number_on, last_one}
use Rattle.reading.proofs.Judging.{in_range, tests_passed}
use Rattle.wcsp.proofs.Sound.{scope_known}

count_came : (text : List ℕ) (used a at : ℕ) {step : Step ℕ} (ts : List Table) → taken ts ≡ used → ComesTo (number text (count_tests used a) at) step → ComesTo (number text (count_tests (taken ts) a) at) step
count_came text used a at {step} ts u came = subst⁻¹ (λ (k : ℕ). ComesTo (number text (count_tests k a) at) step) u came

tuples_came : (text sizes scope xs : List ℕ) (default count at : ℕ) {Kept : List (List ℕ) → ⊤ → Type 0} {step : Step ⊤} → xs ≡ scope
    → Comes (times (tuple text sizes scope default) count [] at) Kept step → Comes (times (tuple text sizes xs default) count [] at) Kept step
tuples_came text sizes scope xs default count at {Kept} {step} e came = subst⁻¹ (λ (s : List ℕ). Comes (times (tuple text sizes s default) count [] at) Kept step) e came

-- the room that was tested holds the table
pub room_holds : (used a count : ℕ) → ltb room_limit (used + (a + a * count)) ≡ false → used + (a + count * a) ≤ room_limit
room_holds used a count e = omega (arith, ltb-false room_limit (used + (a + a * count)) e, mul_comm a count)

table_kept : (used : ℕ) (k : Code.Table) (cells xs : List ℕ) (default count : ℕ) (ts : List (List ℕ)) → sort_said k.sort ≡ sort_by default → xs ≡ take k.arity k.scope
    → k.arity ≤ 8 → length k.scope ≡ 8 → k.filled ≡ count * k.arity → Filled k.arity count ts cells → used + (k.arity + count * k.arity) ≤ room_limit
    → TableKept used (record { sort = sort_by default; scope = xs; tuples = ts }) k cells
table_kept used k cells xs default count ts sort_is scope_is few long Filled_is filled fits =
    let so_many : length xs ≡ k.arity = ap length scope_is ∙ length-take-le k.arity k.scope (omega (arith, long)) in
    record {
      sort_is = sym sort_is;
      scope_is = scope_is;
      long = long;
      arity_fits = few;
      cells_are = sym filled.cells_are ∙ ap (λ (m : ℕ). take m cells) (sym Filled_is);
      takes = ap₂ (λ (m j : ℕ). m + m * j) so_many filled.many ∙ omega (arith, mul_comm k.arity count, Filled_is);
      room = omega (arith, Filled_is);
    }

module _ (text sizes : List ℕ) (used at : ℕ) where
  module _ {arity : Read ℕ} (c1 : ComesTo (number text (range 1 wrong_length arity_limit wrong_length) at) (Ok arity)) where
    pub arity_bounds : (1 ≤ arity.what) × (arity.what ≤ arity_limit)
    arity_bounds = in_range text 1 arity_limit wrong_length wrong_length at (number_is c1)

    pub arity_inside : (scope : List ℕ) → length scope ≡ 8 → arity.what ≤ length scope
    arity_inside scope long = omega (arith, long, arity_bounds.1)

    abbrev Scoped : Step (List ℕ) → Type 0
    Scoped step = Comes (several text (variable_tests (length sizes)) arity.what arity.after) (λ xs k. xs ≡ take arity.what k) step

    module _ {scope : Read (List ℕ)} (c2 : Scoped (Ok scope)) where
      pub known : Known (length sizes) (take arity.what scope.what)
      known = let (xs, q, same) = c2.told in subst (Known (length sizes)) same (scope_known text (length sizes) arity.what arity.after q)

      module _ {default : Read ℕ} (c3 : ComesTo (number text any_number scope.after) (Ok default)) where
        module _ {count : Read ℕ} (c4 : ComesTo (number text (count_tests used arity.what) default.after) (Ok count)) where
          pub fits : used + (arity.what + count.what * arity.what) ≤ room_limit
          fits = room_holds used arity.what count.what (tests_passed text (count_tests used arity.what) default.after (number_is c4)).0

          abbrev Listed : List ℕ → Step ⊤ → Type 0
          Listed cells step =
              Comes (times (tuple text sizes (take arity.what scope.what) default.what) count.what [] count.after) (λ us v. Filled (length (take arity.what scope.what)) count.what us cells) step

          pub the_table : {listed : Read ⊤} (cells : List ℕ) → Listed cells (Ok listed) → (sort : Sorts.Sort) → sort_said sort ≡ sort_by default.what → length scope.what ≡ 8
              → NextTable text sizes used at cells
              (Ok (record { what = record { sort = sort; scope = scope.what; arity = arity.what; filled = count.what * arity.what }; after = listed.after }))
          the_table cells c5 sort sort_is long ts u =
              let k : Code.Table = record { sort = sort; scope = scope.what; arity = arity.what; filled = count.what * arity.what } in
              let so_many : length (take arity.what scope.what) ≡ arity.what = length-take-le arity.what scope.what (arity_inside scope.what long) in
              let (xs, q, same) = goes_on _ c2 in
              comes_by (number_on _ c1 ∙ q ∙ number_on _ c3 ∙ number_on _ (count_came text used arity.what default.after ts u c4))
              (last_one (tuples_came text sizes (take arity.what scope.what) xs default.what count.what count.after same c5) (λ us. record { sort = sort_by default.what; scope = xs; tuples = us }) k
              (λ us f. table_kept used k cells xs default.what count.what us sort_is same arity_bounds.1 long refl
              (subst (λ (a : ℕ). Filled a count.what us cells) so_many f) fits))
