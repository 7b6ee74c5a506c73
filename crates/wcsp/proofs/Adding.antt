-- The calls that a file stands for, made one after the other on a state. Assumes nothing.
use mathlib.Core.Path.{◌≡◌, refl, ap, ap₂, ◌∙◌, subst, subst⁻¹}
use mathlib.Core.Logic.{by_cases}
use mathlib.Core.List.{List, [], ◌∷◌, ◌++◌}
use Prim.Native.Nat.{ℕ, ◌+◌, ◌-◌, ◌*◌, ◌^◌, ◌≤◌, ◌<◌}
use native.Mathlib.Decide.{dec_lt}
use native.Mathlib.Omega.{arith}
use lib.Pow.{pow_pos, pow_mono}
use lib.ListN.{length, take}
use Rattle.meaning.specs.Standing.{nothing}
use Rattle.meaning.specs.Calls.{Call, add_variable, add_table}
use Rattle.values.specs.Sets.{First}
use Rattle.values.proofs.One.{shl_one}
use Rattle.values.proofs.Below.{first_ones, first_all}
use Rattle.values.proofs.Unique.{first_unique}
use Rattle.state.specs.declared.State.{State}
use Rattle.state.specs.Promises.{Answers, sort_said}
use Rattle.state.specs.Holds.{Holds}
use Rattle.state.specs.Runs.{Run, start, step}
use Rattle.wcsp.specs.declared.tables.Table as Code
use Rattle.wcsp.specs.Files.{Table, taken, values_below, variable_calls, table_call, table_calls}
use Rattle.wcsp.specs.Steps.{TableKept}

-- ---- the values 0 to s − 1

first_is : (s : ℕ) → s ≤ 64 → First s (values_below s)
first_is s h =
    by_cases (dec_lt s 64)
    (λ l. subst (λ (k : ℕ). First s (k - 1)) (shl_one s l) (first_ones s l))
    (λ l. let e : 64 ≡ s = omega arith in subst (λ (k : ℕ). First s (2 ^ k - 1)) e (first_all s (omega arith)))

mask_is : (s m : ℕ) → s ≤ 64 → m < 2 ^ 64 → First s m → m ≡ values_below s
mask_is s m h l f = first_unique m (values_below s) l (omega (arith, pow_mono h, pow_pos s)) s f (first_is s h)

-- ---- one call more

pub calls_more : (l : List ℕ) (s : ℕ) (before : List Call) → variable_calls (l ++ (s ∷ [])) before ≡ add_variable (values_below s) ∷ variable_calls l before
unfolding variable_calls
calls_more [] s before = refl
calls_more (x ∷ l) s before = calls_more l s (add_variable (values_below x) ∷ before)

pub variable_runs : (l : List ℕ) (s m : ℕ) {state after : State} {n : ℕ} (now : List ℕ) → now ≡ l ++ (s ∷ []) → s ≤ 64 → m < 2 ^ 64 → First s m → Run (variable_calls l []) state → Answers state (add_variable m) n after
    → Run (variable_calls now []) after
variable_runs l s m {state} {after} {n} now e h k f run answers =
    subst⁻¹ (λ (cs : List Call). Run cs after) (ap (λ (x : List ℕ). variable_calls x []) e ∙ calls_more l s [])
    (step (add_variable (values_below s)) n run (subst (λ (x : ℕ). Answers state (add_variable x) n after) (mask_is s m h k f) answers))

pub tables_more : (ts : List Table) (t : Table) (before : List Call) → table_calls (ts ++ (t ∷ [])) before ≡ table_call t ∷ table_calls ts before
unfolding table_calls
tables_more [] t before = refl
tables_more (x ∷ ts) t before = tables_more ts t (table_call x ∷ before)

taken_more : (ts : List Table) (t : Table) → taken (ts ++ (t ∷ [])) ≡ taken ts + (length t.scope + length t.scope * length t.tuples)
unfolding taken
taken_more [] t = omega arith
taken_more (x ∷ ts) t = omega (arith, taken_more ts t)

module _ {used : ℕ} {t : Table} {k : Code.Table} {cells : List ℕ} (kept : TableKept used t k cells) where
  pub table_runs : (ts : List Table) (first : List Call) {state after : State} {n : ℕ} → Run (table_calls ts first) state
      → Answers state (add_table (sort_said k.sort) (take k.arity k.scope) (take k.filled cells)) n after → Run (table_calls (ts ++ (t ∷ [])) first) after
  table_runs ts first {state} {after} {n} run answers =
      let same : table_call t ≡ add_table (sort_said k.sort) (take k.arity k.scope) (take k.filled cells) =
      λ i. add_table (kept.sort_is i) (kept.scope_is i) (kept.cells_are i) in
      subst⁻¹ (λ (cs : List Call). Run cs after) (tables_more ts t first) (step (table_call t) n run (subst⁻¹ (λ (c : Call). Answers state c n after) same answers))

  pub used_more : (ts : List Table) → taken ts ≡ used → taken (ts ++ (t ∷ [])) ≡ used + (k.arity + k.filled)
  used_more ts e = taken_more ts t ∙ ap₂ (λ (x y : ℕ). x + y) e kept.takes

pub no_calls : {state : State} → Holds state nothing → Run (variable_calls [] []) state
unfolding variable_calls
no_calls hold = start hold

pub no_tables : {first : List Call} {state : State} → Run first state → Run (table_calls [] first) state
unfolding table_calls
no_tables run = run

pub none_taken : taken [] ≡ 0
unfolding taken
none_taken = refl
