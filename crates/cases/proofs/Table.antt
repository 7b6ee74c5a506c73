-- Every row of the table is so: one test of a row, computed over the whole table, and the law that a row which passes is so.
-- Assumes nothing.
use mathlib.Core.Bool.{Bool, true, not, ◌&&◌}
use mathlib.Core.List.{List, reverse, Memᴰ}
use lib.Dec.{T, eqb, eqb→eq}
use lib.ListN.{length}
use Rattle.meaning.specs.Values.{bit}
use Rattle.meaning.specs.Refusals.{first}
use Rattle.meaning.specs.Rules.{sum}
use Rattle.meaning.specs.Order.{insert, sorted}
use Rattle.meaning.specs.Standing.{Standing}
use Rattle.meaning.specs.Lists.{Largest}
use Rattle.meaning.specs.Solutions.{Answer, Inconsistent}
use Rattle.meaning.specs.Calls.{Call, some, same, repeats, held, rows as tuples, solve_refusal}
use Rattle.meaning.specs.Proper.{Proper}
use Rattle.meaning.proofs.Tests.{and_left, and_right}
use Rattle.meaning.proofs.Listed.{below}
use Rattle.meaning.proofs.Proper.{leaves_proper}
use Rattle.cases.specs.Eight.{eight}
use Rattle.cases.specs.Table.{Row, better, tie, solves, inconsistent, leaves, After, Solves, Says, rows}
use Rattle.cases.proofs.Tests.{every, every_at, same_says, some_in_box}
use Rattle.cases.proofs.Sieve.{kept, sieve}
use Rattle.cases.proofs.Judging.{okay, permits, smaller, smaller_says}
use Rattle.cases.proofs.Support.{supports}
use Rattle.cases.proofs.Settled.{permitted, backed, round, left, settled, settled_largest}
use Rattle.cases.proofs.Running.{run, passes, smooth, run_leaves, run_accepted}
use Rattle.cases.proofs.Best.{from, keeps_rules, some_solution, before, best, none_inconsistent, best_answer}

-- ---- the test

-- no call is refused, the values left are known, and what stands passes
goes : List Call → (Standing → Bool) → Bool
goes h test = let w = run h in smooth h && (settled w && test w)

-- solving isn't refused
answers : Standing → Bool
answers w = eqb (solve_refusal w (length w.declared)) 0

holds : Row → Bool
holds (better u w) = smaller (sorted w) (sorted u)
holds (tie u w) = same (sorted u) (sorted w)
holds (solves calls a) = goes (reverse calls) (λ w. answers w && best w a)
holds (inconsistent calls) = goes (reverse calls) (λ w. answers w && not (some_solution w (λ b. true)))
holds (leaves calls L) = goes (reverse calls) (λ w. same (left w) L)

-- ---- its law

goes_says : (calls : List Call) (test : Standing → Bool) (P : Standing → Type 0) → T (goes (reverse calls) test)
    → ((w : Standing) → Proper w → Largest w (left w) → T (test w) → P w) → After calls P
unfolding goes
goes_says calls test P t law =
    let h = reverse calls in
    let w = run h in
    let fine = and_left (smooth h) (settled w && test w) t in
    let rest = and_right (smooth h) (settled w && test w) t in
    let l = run_leaves h fine in
    let p = leaves_proper l in
    record {
      stands = w;
      leaves = l;
      accepted = run_accepted h fine;
      so = law w p (settled_largest w p (and_left (settled w) (test w) rest)) (and_right (settled w) (test w) rest);
    }

solves_says : (w : Standing) {A : Type 0} (b : Bool) → T (answers w && b) → (T b → A) → Solves w A
unfolding answers
solves_says w b t f = (eqb→eq (solve_refusal w (length w.declared)) 0 (and_left (answers w) b t), f (and_right (answers w) b t))

holds_says : (r : Row) → T (holds r) → Says r
unfolding holds
holds_says (better u w) t = smaller_says (sorted w) (sorted u) t
holds_says (tie u w) t = same_says (sorted u) (sorted w) t
holds_says (solves calls a) t =
    goes_says calls (λ w. answers w && best w a) (λ w. Solves w (Answer w a)) t
    (λ w p l s. solves_says w (best w a) s (best_answer w p l a))
holds_says (inconsistent calls) t =
    goes_says calls (λ w. answers w && not (some_solution w (λ b. true))) (λ w. Solves w (Inconsistent w)) t
    (λ w p l s. solves_says w (not (some_solution w (λ b. true))) s (none_inconsistent w p l))
holds_says (leaves calls L) t =
    goes_says calls (λ w. same (left w) L) (λ w. Largest w L) t λ w p l s.
    let e = same_says (left w) L s in
    rw e at l

-- ---- the table

all_hold : T (every holds (rows eight))
unfolding every holds goes answers run smooth passes settled left round backed permitted supports sieve kept okay permits smaller some_in_box
    from keeps_rules some_solution before best below bit first sum insert sorted some same repeats held tuples
all_hold = tt

pub all_say : (r : Row) → Memᴰ r (rows eight) → Says r
all_say r m = holds_says r (every_at holds (rows eight) all_hold r m)
