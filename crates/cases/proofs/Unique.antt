-- The contract of `eight` fixes its result, and a row of the table fixes the answer or the lists that it speaks of.
-- Assumes nothing.
use mathlib.Core.Path.{◌≡◌, sym, ◌∙◌}
use mathlib.Core.List.{List, reverse}
use Prim.Native.Nat.{ℕ}
use Rattle.meaning.specs.Standing.{Standing}
use Rattle.meaning.specs.Calls.{Call}
use Rattle.meaning.proofs.Answers.{answer_unique}
use Rattle.meaning.proofs.Largest.{largest_unique}
use Rattle.meaning.proofs.Histories.{leaves_unique}
use Rattle.cases.specs.Table.{solves, inconsistent, leaves, After, Says, Cases}

pub cases_unique : {u w : List ℕ} → Cases u → Cases w → u ≡ w
cases_unique a b = a.table ∙ sym b.table

-- the calls leave one thing standing, of which both are so
both : (calls : List Call) (P Q : Standing → Type 0) → After calls P → After calls Q → (w : Standing) × P w × Q w
both calls P Q p q = (q.stands, rw (leaves_unique (reverse calls) p.leaves q.leaves) at p.so, q.so)

pub one_answer : (calls : List Call) (a b : List ℕ) → Says (solves calls a) → Says (solves calls b) → a ≡ b
one_answer calls a b s t = let (w, p, q) = both calls _ _ s t in answer_unique p.1 q.1

pub not_both : (calls : List Call) (a : List ℕ) → Says (solves calls a) → ¬ Says (inconsistent calls)
not_both calls a s t = let (w, p, q) = both calls _ _ s t in q.1 a p.1.solution

pub one_lists : (calls : List Call) (K L : List ℕ) → Says (leaves calls K) → Says (leaves calls L) → K ≡ L
one_lists calls K L s t = let (w, p, q) = both calls _ _ s t in largest_unique p q
