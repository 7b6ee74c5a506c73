-- The answer to a file, refused or accepted. Assumes nothing.
use mathlib.Core.Path.{◌≡◌, sym, ap, ap₂, ◌∙◌, subst}
use mathlib.Core.Bool.{true≢false}
use mathlib.Core.List.{List}
use Prim.Native.Nat.{ℕ, ◌≤◌, ◌<◌}
use native.Mathlib.Omega.{arith}
use lib.ListN.{length, length-map}
use Rattle.meaning.specs.Limits.{variable_limit}
use Rattle.meaning.specs.Standing.{Standing}
use Rattle.meaning.specs.Calls.{name_objectives}
use Rattle.meaning.specs.Histories.{call}
use Rattle.meaning.proofs.Proper.{number_above}
use Rattle.state.specs.Holds.{Reached}
use Rattle.refusals.specs.Numbers.{table_of}
use Rattle.state.proofs.Holding.{current}
use Rattle.state.proofs.Runs.{run_holds, run_reached}
use Rattle.wcsp.specs.declared.Loaded.{Loaded}
use Rattle.std.specs.Prelude.{Ok, Err, ⊤}
use Rattle.reading.specs.declared.Fault.{Fault}
use Rattle.wcsp.specs.Files.{values_below}
use Rattle.reading.specs.Steps.{number_of}
use Rattle.wcsp.specs.Promises.{Reads, said}
use Rattle.reading.proofs.Readings.{is_fault}
use Rattle.wcsp.proofs.Standing.{sizes_bounds}
use Rattle.lines.specs.Lines.{refused_line}
use Rattle.lines.specs.Writing.{Written}
use Rattle.lines.proofs.Putting.{written_fits}
use Rattle.reply.specs.Replies.{objectives_of, Tells, Replies, SolvedLines}
use Rattle.reply.proofs.Naming.{named_stands}

module _ (text : List ℕ) (loaded : Loaded) (reads : Reads text loaded) where
  pub refused_replies : {before after : List ℕ} {count : ℕ} {f : Fault} {k : ℕ} → loaded.outcome ≡ Err f → k ≡ number_of f.refusal → Written before (refused_line k f.at) after count → Replies text before after count
  refused_replies {before} {after} {count} {f} {k} e is written =
      let said_is : said loaded.outcome ≡ (number_of f.refusal, f.at) = ap said e in
      record {
        fits = written_fits written;
        refused = λ number spot q.
            let same : ◌≡◌ {A = ℕ × ℕ} (number_of f.refusal, f.at) (number, spot) = sym said_is ∙ (reads.refused number spot q).0 in
            subst (λ (line : List ℕ). Written before line after count)
            (ap₂ refused_line (is ∙ ap (λ (x : ℕ × ℕ). x.0) same) (ap (λ (x : ℕ × ℕ). x.1) same)) written;
        accepted = λ g place q.
            let none : number_of f.refusal ≡ 0 = ap (λ (x : ℕ × ℕ). x.0) (sym said_is ∙ (reads.accepted g place q).0) in
            absurd (omega (arith, none, number_above (table_of f.refusal)));
      }

  module _ {v : ⊤} (e : loaded.outcome ≡ Ok v) where
    pub may_solve : Reached loaded.state × (0 < loaded.variables) × (loaded.variables ≤ variable_limit)
    may_solve =
        let (f, place, q) = reads.only (ap said e) in
        let (s, n, _, run) = reads.accepted f place q in
        let bounds = sizes_bounds text q in
        (run_reached run, omega (arith, n, bounds.0), omega (arith, n, bounds.1))

    pub accepted_replies : {before after : List ℕ} {count : ℕ} → SolvedLines loaded.state loaded.variables before after count × (count ≤ length after) → Replies text before after count
    accepted_replies {before} {after} {count} (solved, fits) = record {
      fits = fits;
      refused = λ number spot q. let (f, place, p) = reads.only (ap said e) in absurd (true≢false (ap is_fault (sym q ∙ p)));
      accepted = λ f place q.
          let (s, n, _, run) = reads.accepted f place q in
          let (w, l, hold) = run_holds run in
          let now = call (name_objectives (objectives_of (length f.sizes))) l (current hold) in
          let is = (named_stands text q now).0 in
          let lines = subst (λ (m : ℕ). SolvedLines loaded.state m before after count) n solved in
          subst (λ (v : Standing). Tells v before after count) is
          (lines _ _ run now (ap (λ (v : Standing). length v.declared) is ∙ length-map f.sizes values_below) (ap (λ (v : Standing). v.objectives) is));
    }
