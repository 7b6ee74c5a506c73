-- Demand 1 for reading: two results that its contract allows are equal. Assumes nothing.
use mathlib.Core.Path.{◌≡◌, refl, sym, ap, ◌∙◌}
use mathlib.Core.List.{List}
use Prim.Native.Nat.{ℕ}
use Rattle.meaning.specs.Calls.{Call}
use Rattle.state.specs.declared.State.{State}
use Rattle.state.specs.Runs.{Run}
use Rattle.state.proofs.Runs.{run_holds, run_stands}
use Rattle.refusals.proofs.Unique.{same_refusal, not_accepted}
use Rattle.state.proofs.Unique.{holds_unique}
use Rattle.std.specs.Prelude.{Result, Ok, Err, ⊤}
use Rattle.reading.specs.declared.Fault.{Fault}
use Rattle.wcsp.specs.declared.Loaded.{Loaded}
use Rattle.reading.specs.Reading.{Reading, fault, got}
use Rattle.wcsp.specs.Files.{File, file}
use Rattle.wcsp.specs.Promises.{Reads, said}

-- a run of calls leaves one state
pub run_unique : {h : List Call} {s t : State} → Run h s → Run h t → s ≡ t
run_unique a b = let (w, l, hold) = run_holds a in holds_unique hold (run_stands w b l)

-- outcomes with the same number and offset are the same
pub outcome_unique : (a b : Result ⊤ Fault) → said a ≡ said b → a ≡ b
outcome_unique (Ok x) (Ok y) e = refl
outcome_unique (Ok x) (Err g) e = not_accepted g.refusal (sym (ap (λ (p : ℕ × ℕ). p.0) e))
outcome_unique (Err f) (Ok y) e = not_accepted f.refusal (ap (λ (p : ℕ × ℕ). p.0) e)
outcome_unique (Err f) (Err g) e =
    let p = same_refusal f.refusal g.refusal (ap (λ (p : ℕ × ℕ). p.0) e) in
    let k = ap (λ (p : ℕ × ℕ). p.1) e in
    λ i. Err (record { refusal = p i; at = k i })

module _ (text : List ℕ) {r s : Loaded} (a : Reads text r) (b : Reads text s) where
  same_read : (reading : Reading File) → file text ≡ reading → (said r.outcome ≡ said s.outcome) × (r.variables ≡ s.variables) × (r.state ≡ s.state)
  same_read (fault number at) e =
      let (p, n, hold) = a.refused number at e in
      let (q, m, kept) = b.refused number at e in
      (p ∙ sym q, n ∙ sym m, holds_unique hold kept)
  same_read (got f place) e =
      let (p, n, _, run) = a.accepted f place e in
      let (q, m, _, also) = b.accepted f place e in
      (p ∙ sym q, n ∙ sym m, run_unique run also)

  pub read_unique : r ≡ s
  read_unique =
      let (e, n, f) = same_read (file text) refl in
      let o = outcome_unique r.outcome s.outcome e in
      λ i. record { outcome = o i; variables = n i; state = f i }
