-- Reading a text left to right: the first fault, or what was read.
use Rattle.std.specs.Prelude.{Bool, cond, List, [], ◌∷◌, ◌++◌, ℕ, zero, suc, ltb, eqb, length, Result, Ok, Err}
use Rattle.meaning.specs.Refusals as Table
use Rattle.meaning.specs.Refusals.{Refusal, first}
use Rattle.text.specs.declared.Number.{Number}
use Rattle.text.specs.declared.Malformed.{Malformed}
use Rattle.text.specs.Words.{token_start}
use Rattle.text.specs.Tokens.{number_at, name_at}

-- a refusal's number and the byte it is reported at; or what was read, and the place after it
pub data Reading (A : Type 0) : Type 0 where
  fault : (number at : ℕ) → Reading A
  got : (what : A) (place : ℕ) → Reading A

-- what comes next is read from the place after; a fault ends the reading
abbrev pub next : {A B : Type 0} → Reading A → (A → ℕ → Reading B) → Reading B
next (fault number at) more = fault number at
next (got what place) more = more what place

-- so many things more, one after the other; each may look at those before it
unfoldable pub times : {A : Type 0} → (List A → ℕ → Reading A) → ℕ → List A → ℕ → Reading (List A)
times one zero before at = got before at
times one (suc k) before at = next (one before at) (λ x after. times one k (before ++ (x ∷ [])) after)

-- the tests that a number has to pass, in the order given
abbrev pub Tests : Type 0
Tests = ℕ → List (Bool × Refusal)

abbrev pub any_number : Tests
any_number v = []

-- from low to high
abbrev pub range : ℕ → Refusal → ℕ → Refusal → Tests
range low below high above v = (ltb v low, below) ∷ (ltb high v, above) ∷ []

-- what a test refuses is reported at a place; otherwise something was read
abbrev pub judged : {A : Type 0} → List (Bool × Refusal) → ℕ → Reading A → Reading A
judged tests at reading = cond (eqb (first tests) 0) reading (fault (first tests) at)

abbrev pub number_judged : Tests → Result Number Malformed → Reading ℕ
number_judged tests (Err m) = fault (Table.number Table.malformed) m.start
number_judged tests (Ok n) = judged (tests n.value) n.start (got n.value n.after)

abbrev pub name_judged : Result ℕ Malformed → Reading ℕ
name_judged (Err m) = fault (Table.number Table.malformed) m.start
name_judged (Ok after) = got 0 after

module _ (text : List ℕ) where
  -- the next token is a number, and passes the tests
  unfoldable pub number : Tests → ℕ → Reading ℕ
  number tests at = number_judged tests (number_at text at)

  -- the next token is a name; of a name nothing is kept
  unfoldable pub name : ℕ → Reading ℕ
  name at = name_judged (name_at text at)

  -- so many numbers; the tests of each may look at those before it
  abbrev pub several : (List ℕ → Tests) → ℕ → ℕ → Reading (List ℕ)
  several tests count at = times (λ before place. number (tests before) place) count [] at

  -- no token is left
  unfoldable pub ended : ℕ → Reading ℕ
  ended at = cond (eqb (token_start text at) (length text)) (got 0 at) (fault (Table.number Table.malformed) (token_start text at))
