-- Files of document 01, and files at the edges of its rules: one table, one computed test, one law. Assumes nothing.
use mathlib.Core.Path.{◌≡◌, refl, ◌∙◌}
use mathlib.Core.Bool.{Bool, false, not, ◌||◌}
use mathlib.Core.List.{List, [], ◌∷◌, Memᴰ}
use Prim.Native.Nat.{ℕ}
use Prim.Native.Char.{code}
use Prim.Native.String.{String}
use Prim.Native.String as letters
use borrow.Author.Tests.{eqb-true, not-false}
use lib.Dec.{eqb}
use Rattle.meaning.specs.Refusals.{first}
use Rattle.meaning.specs.Calls.{some, same}
use Rattle.meaning.proofs.Tests.{or_no}
use Rattle.meaning.proofs.Proper.{some_no}
use Rattle.text.specs.Bytes.{sort_of, is_blank, is_digit, is_visible}
use Rattle.text.specs.Words.{blanks, run, token_start, token_at}
use Rattle.text.specs.Tokens.{value_of, is_number, is_name, number_in, name_in, number_at, name_at}
use Rattle.wcsp.specs.declared.Loaded.{Loaded}
use Rattle.reading.specs.Reading.{Reading, fault, got, times, number, name, ended}
use Rattle.wcsp.specs.Files.{File, file, taken}
use Rattle.wcsp.specs.Promises.{Reads, said}

-- ---- the table

-- a text, and the number and byte offset with which it is refused; 0 and 0 where it is accepted
pub record Row : Type 0 where
  pub text : List ℕ
  pub answer : ℕ × ℕ

-- a text's bytes, by its letters' numbers
abbrev bytes : String → List ℕ
bytes letters.[] = []
bytes (letters.◌∷◌ c s) = code c ∷ bytes s

abbrev refused : String → ℕ → ℕ → Row
refused t n at = record { text = bytes t; answer = (n, at) }

abbrev accepted : String → Row
accepted t = refused t 0 0

unfoldable pub rows : List Row
rows =
    -- document 01's files
    refused "" 7 0
    ∷ refused "a 1 2 0 1" 7 9
    ∷ refused "a 1 2 0 1 3" 4 10
    ∷ refused "a 1 2 0 1 2 9" 7 12
    ∷ accepted "a 1 2 0 1 2"
    ∷ accepted "eight 3 11 1 1\n11 11 11\n3 0 1 2 1 8\n1 1 0 0\n5 5 3 0\n7 3 5 0\n1 2 1 0\n9 5 2 0\n3 4 3 0\n5 3 6 0\n10 3 4 0\n"
    -- blanks: tabs, line ends and carriage returns, and no other byte
    ∷ refused "   " 7 3
    ∷ accepted "\ta\r\n1\t2 0 1\r\n2\r\n"
    ∷ refused "a 1\u{b}2 0 1 2" 7 2
    ∷ refused "a 1 2 0 1 2 \n\t9 9" 7 14
    -- the name: 1 to 64 digits or marks; a bad byte is reported at its token's first byte
    ∷ accepted "1234567890123456789012345678901234567890123456789012345678901234 1 2 0 1 2"
    ∷ refused "12345678901234567890123456789012345678901234567890123456789012345 1 2 0 1 2" 7 0
    ∷ accepted "!~ 1 2 0 1 2"
    ∷ refused "a\u{7f} 1 2 0 1 2" 7 0
    ∷ refused " a\u{80} 1 2 0 1 2" 7 1
    ∷ refused "a " 7 2
    -- a later token counts when it is reached
    ∷ refused "a 0 \u{80}" 4 2
    ∷ refused "a 1 \u{80} 0 1 2" 7 4
    ∷ refused "a 1 2 0 1 2 \u{80}" 7 12
    -- numbers: 1 to 10 digits, leading zeros are digits, at most 4294967295
    ∷ accepted "a 01 2 0 1 2"
    ∷ accepted "a 0000000001 2 0 1 2"
    ∷ refused "a 00000000001 2 0 1 2" 7 2
    ∷ refused "a 1x 2 0 1 2" 7 2
    ∷ refused "a -1 2 0 1 2" 7 2
    ∷ accepted "a 1 2 0 4294967295 2"
    ∷ refused "a 1 2 0 4294967296 2" 7 8
    ∷ refused "a 4294967295 2 0 1 2" 6 2
    ∷ refused "a 4294967296 2 0 1 2" 7 2
    -- 1 to 32 variables
    ∷ refused "a 0 2 0 1" 4 2
    ∷ refused "a 33 2 0 1" 6 2
    ∷ accepted "a 32 32 0 9 1 2 3 4 5 6 7 8 9 10 11 12 13 14 15 16 17 18 19 20 21 22 23 24 25 26 27 28 29 30 31 32"
    ∷ refused "a 33 0 49 1" 6 2
    -- the largest size 1 to 64
    ∷ refused "a 1 0 0 1" 4 4
    ∷ refused "a 1 65 0 1" 4 4
    ∷ accepted "a 1 64 0 1 64"
    -- at most 48 constraints
    ∷ refused "a 1 2 49 1 2" 6 6
    ∷ refused "a 1 2 48 1 2" 7 12
    -- sizes from 1 to the largest
    ∷ refused "a 1 2 0 1 0" 4 10
    ∷ refused "a 2 2 0 1 1 3" 4 12
    ∷ refused "a 2 2 0 1 2" 7 11
    -- arity 1 to 8
    ∷ refused "a 3 2 1 9 2 2 2 0 0 0" 3 16
    ∷ refused "a 3 2 1 9 2 2 2 9 0 0" 3 16
    ∷ accepted "a 8 1 1 1 1 1 1 1 1 1 1 1 8 0 1 2 3 4 5 6 7 0 0"
    ∷ refused "a 1 2 1 1 2" 7 11
    -- the variables, below the count and none twice; an arity above the count is no fault of its own
    ∷ refused "a 3 2 1 9 2 2 2 1 3 0 0" 1 18
    ∷ refused "a 3 2 1 9 2 2 2 3 0 0 9 0 0" 2 20
    ∷ refused "a 3 2 1 9 2 2 2 3 0 9 0 0 0" 1 20
    ∷ refused "a 3 2 1 9 2 2 2 4 0 1 2 0 0 0" 2 24
    ∷ refused "a 3 2 1 9 2 2 2 4 0 1 2 3 0 0" 1 24
    ∷ accepted "a 3 2 1 9 2 2 2 3 2 0 1 0 0"
    -- the room, judged at the number of tuples
    ∷ refused "a 1 2 1 1 2 1 0 0 4096" 6 18
    ∷ refused "a 1 2 1 1 2 1 0 0 4095" 7 22
    ∷ refused "a 1 2 1 1 2 1 0 0 4294967295" 6 18
    ∷ refused "a 2 2 1 1 2 2 2 0 1 0 2048 9" 6 22
    ∷ refused "a 2 2 1 1 2 2 2 0 1 0 2047 9" 4 27
    ∷ refused "a 1 2 2 1 2 1 0 0 1 1 1 1 0 0 4094" 6 30
    ∷ refused "a 1 2 2 1 2 1 0 0 1 1 1 1 0 0 4093" 7 34
    -- values below their variables' sizes
    ∷ refused "a 1 2 1 1 2 1 0 0 1 2 1" 4 20
    ∷ accepted "a 2 3 1 1 2 3 2 1 0 0 1 2 1 1"
    ∷ refused "a 2 3 1 1 2 3 2 1 0 0 1 1 2 1" 4 26
    -- a tuple twice in one table; in two tables it may stand
    ∷ refused "a 1 2 1 1 2 1 0 0 2 1 1\n  1 1" 5 26
    ∷ refused "a 1 2 1 1 2 1 0 0 2 1 1 1" 7 25
    ∷ refused "a 1 2 1 1 2 1 0 0 2 1 1 1 x" 7 26
    ∷ accepted "a 1 2 1 1 2 1 0 0 2 1 1 0 2"
    ∷ refused "a 2 2 1 1 2 2 2 0 1 0 3 0 1 1 1 0 1 0 1 1" 5 36
    ∷ accepted "a 1 2 2 1 2 1 0 0 1 1 1 1 0 0 1 1 1"
    -- a tuple whose cost says what the default says
    ∷ refused "a 1 2 1 1 2 1 0 0 1 1 0" 5 20
    ∷ refused "a 1 2 1 1 2 1 0 5 1 1 6" 5 20
    ∷ accepted "a 1 2 1 1 2 1 0 5 1 1 0"
    ∷ accepted "a 1 2 1 1 2 1 0 0 1 1 6"
    ∷ accepted "a 1 2 1 1 2 1 0 5 0"
    -- text that ends too soon, at the text's length
    ∷ refused "a 1 2 1 1 2 1 0 0 1 1" 7 21
    ∷ refused "a 1 2 1 1 2 1 0 0 1 1 \n" 7 23
    ∷ refused "a 1 2 1 1 2 1 0 0 1" 7 19
    ∷ refused "a 1 2 1 1 2 1 0" 7 15
    ∷ refused "a 1 2 1 1 2 1 0 0 1 1 1 1" 7 24
    ∷ []

-- ---- the test

told : Reading File → ℕ × ℕ
told (fault n at) = (n, at)
told (got f place) = (0, 0)

unlike : ℕ × ℕ → ℕ × ℕ → Bool
unlike p q = not (eqb p.0 q.0) || not (eqb p.1 q.1)

wrong : Row → Bool
wrong row = unlike (told (file row.text)) row.answer

none_wrong : some wrong rows ≡ false
unfolding rows told unlike wrong first some same taken times number name ended sort_of is_blank is_digit is_visible blanks run token_start token_at
    value_of is_number is_name number_in name_in number_at name_at
none_wrong = refl

-- ---- its law

alike : (p q : ℕ × ℕ) → unlike p q ≡ false → p ≡ q
unfolding unlike
alike p q e =
    let (a, b) = or_no (not (eqb p.0 q.0)) (not (eqb p.1 q.1)) e in
    let x = eqb-true p.0 q.0 (not-false (eqb p.0 q.0) a) in
    let y = eqb-true p.1 q.1 (not-false (eqb p.1 q.1) b) in
    λ i. (x i, y i)

said_told : (text : List ℕ) (r : Loaded) → Reads text r → said r.outcome ≡ told (file text)
unfolding told
said_told text r reads = by_reading (file text) refl
  where
    by_reading : (reading : Reading File) → file text ≡ reading → said r.outcome ≡ told reading
    by_reading (fault n at) e = (reads.refused n at e).0
    by_reading (got f place) e = (reads.accepted f place e).0

-- what the contract of `read` allows says of each text what its row says
pub all_say : (row : Row) → Memᴰ row rows → (r : Loaded) → Reads row.text r → said r.outcome ≡ row.answer
unfolding wrong
all_say row m r reads = said_told row.text r reads ∙ alike (told (file row.text)) row.answer (some_no wrong rows none_wrong row m)
