-- Document 01's cases P1 to P12 bind the routines, by their contracts alone. Assumes nothing.
use mathlib.Core.Path.{◌≡◌, refl, sym, ◌∙◌}
use mathlib.Core.Logic.{inr}
use mathlib.Core.Bool.{Bool, true, false}
use mathlib.Core.List.{List, Memᴰ}
use Prim.Native.Nat.{ℕ, ◌≤◌}
use native.Mathlib.Omega.{arith}
use borrow.Author.Tests.{le-ltb, lt-leb}
use lib.Dec.{T}
use lib.Ieee.Bits.{is_true}
use lib.ListN.{length, get_or}
use Rattle.meaning.specs.Order.{Better, comparable}
use Rattle.meaning.specs.Standing.{Standing}
use Rattle.meaning.specs.Lists.{Largest}
use Rattle.meaning.specs.Solutions.{Answer, Inconsistent, written}
use Rattle.meaning.specs.Calls.{Call, solve_refusal, unknown}
use Rattle.meaning.proofs.Finding.{finds}
use Rattle.meaning.proofs.Proper.{passed}
use Rattle.meaning.proofs.Leximin.{better_asym, tie_not_better}
use Rattle.cases.specs.Eight.{eight}
use Rattle.cases.specs.Table.{Row, better, tie, solves, inconsistent, leaves, After, Solves, Says, rows}
use Rattle.cases.proofs.Tests.{every, every_at}
use Rattle.cases.proofs.Table.{all_say}
use Rattle.profile.specs.Compared.{IsBetter}
use Rattle.profile.proofs.Lengths.{comparable_sym}
use Rattle.state.proofs.Runs.{run_stands}
use Rattle.std.specs.Prelude.{Result, Ok}
use Rattle.refusals.specs.declared.Refusal.{Refusal}
use Rattle.refusals.specs.Numbers.{number_of}
use Rattle.leximin.specs.declared.Solved.{Solved}
use Rattle.leximin.specs.declared.Solved.TheVariants.{Found, Inconsistent as NoneFound}
use Rattle.leximin.specs.Solving.{Outcome}
use Rattle.leximin.proofs.Unique.{outcome_unique}
use Rattle.guarantees.specs.Telling.{list_of}
use Rattle.guarantees.specs.Binding.{KeepsFirst, TakesSecond, SaysSolved, SaysLeft, Binds}
use Rattle.guarantees.proofs.Telling.{run_right}

-- ---- profiles, u lent first and w second

module _ (u w : List ℕ) (can : comparable u w ≡ true) where
  keeps_first : ¬ Better w u → KeepsFirst u w
  keeps_first n = record { told = told; handed = λ first second r a b h. h.first_otherwise (rw (a, b) can) (rw (a, b) n) }
    where
      told : (r : Bool) → IsBetter w u r → r ≡ false
      told true h = absurd (n (h.when_true refl).1)
      told false h = refl

  takes_second : Better w u → TakesSecond u w
  takes_second more = record { told = told; handed = λ first second r a b h. h.second_better (rw (a, b) can) (rw (a, b) more) }
    where
      told : (r : Bool) → IsBetter w u r → r ≡ true
      told true h = refl
      told false h = absurd (h.when_false refl (comparable_sym u w can) more)

-- ---- calls

-- a buffer with more places is not refused either
enough : (w : Standing) (n : ℕ) → solve_refusal w (length w.declared) ≡ 0 → length w.declared ≤ n → solve_refusal w n ≡ 0
enough w n e fits =
    let named = (passed _ e).0 in
    finds _ 0 (inr (named, inr (le-ltb n (length w.declared) fits, refl)))

says_solved : (calls : List Call) (A : Standing → Type 0) (answer : Result Solved Refusal) (left : List ℕ → List ℕ) → number_of answer ≡ 0
    → ((w : Standing) → A w → (buffer : List ℕ) → Outcome w buffer answer (left buffer)) → After calls (λ w. Solves w (A w)) → SaysSolved calls answer left
says_solved calls A answer left e outcome so s before after r run fits told =
    let w = so.stands in
    let got = (run_right run so.leaves).solved before after r told in
    let few : length w.declared ≤ length before = omega (arith, (run_stands w run so.leaves).variables) in
    outcome_unique w before r answer after (left before) (got.number ∙ enough w (length before) so.so.0 few ∙ sym e)
    got.outcome (outcome w so.so.1 before)

says_left : (calls : List Call) (L : List ℕ) → After calls (λ w. Largest w L) → SaysLeft calls L
says_left calls L so s x r run below told =
    let w = so.stands in
    let is : unknown w x ≡ false = lt-leb (length w.declared) x (omega (arith, (run_stands w run so.leaves).variables)) in
    let known : list_of w L x ≡ Ok (get_or L x 0) = rw is in
    (run_right run so.leaves).left x r told L so.so ∙ known

-- ---- the table

-- the profiles of a row can be compared
compares : Row → Bool
compares (better u w) = comparable u w
compares (tie u w) = comparable u w
compares (solves calls a) = true
compares (inconsistent calls) = true
compares (leaves calls L) = true

all_compare : T (every compares (rows eight))
unfolding every compares
all_compare = tt

binds : (r : Row) → T (compares r) → Says r → Binds r
unfolding compares
binds (better u w) t more =
    let can = is_true (comparable u w) t in
    (keeps_first u w can (better_asym w u more), takes_second w u (comparable_sym u w can) more)
binds (tie u w) t e =
    let can = is_true (comparable u w) t in
    (keeps_first u w can (tie_not_better u w e), keeps_first w u (comparable_sym u w can) (tie_not_better w u (sym e)))
binds (solves calls a) t so =
    says_solved calls (λ w. Answer w a) (Ok Found) (written a) refl (λ w p buffer. record { rota = a; answer = p; buffer = refl }) so
binds (inconsistent calls) t so =
    says_solved calls Inconsistent (Ok NoneFound) (λ buffer. buffer) refl (λ w p buffer. record { none = p; buffer = refl }) so
binds (leaves calls L) t so = says_left calls L so

-- every case of document 01 binds the routines
pub all_bind : (r : Row) → Memᴰ r (rows eight) → Binds r
all_bind r m = binds r (every_at compares (rows eight) all_compare r m) (all_say r m)
