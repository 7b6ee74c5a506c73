-- Where the next token lies in a text, and how large its number is. Assumes nothing.
use mathlib.Core.Path.{◌≡◌, refl}
use mathlib.Core.Bool.{Bool, true, false, cond}
use mathlib.Core.List.{List}
use Prim.Native.Nat.{ℕ, ◌+◌, ◌≤◌, ◌<◌}
use native.Mathlib.Omega.{arith}
use borrow.Author.Tests.{leb-true}
use lib.Dec.{leb}
use lib.ListN.{length, drop, length-drop}
use Rattle.std.specs.Prelude.{Result, Ok, Err}
use Rattle.std.specs.List.{list_all}
use Rattle.std.proofs.lemmas.List.Sums.{prefix_len-le-length}
use Rattle.text.specs.declared.Number.{Number}
use Rattle.text.specs.declared.Malformed.{Malformed}
use Rattle.text.specs.Bytes.{within, is_blank, is_digit, is_visible}
use Rattle.text.specs.Words.{blanks, token_start, token_at}
use Rattle.text.specs.Tokens.{value_of, is_number, is_name, number_in, name_in, number_at, name_at}
use Rattle.text.proofs.Ranges.{and_true, lies}
use Rattle.text.proofs.Places.{run_le, token_length}

-- a token, and how far it reaches
pub record Reaches (text : List ℕ) (at start after : ℕ) : Type 0 where
  pub begins : start ≡ token_start text at
  pub from : at ≤ start
  pub some : start < after
  pub inside : after ≤ length text

-- what a test lets through, or the fault
module _ {A : Type 0} (a : A) (m : Malformed) where
  passed_ok : (b : Bool) {x : A} → ◌≡◌ {A = Result A Malformed} (cond b (Ok a) (Err m)) (Ok x) → (b ≡ true) × (a ≡ x)
  passed_ok true e = (refl, cc)
  passed_ok false e = cc

  failed_err : (b : Bool) {n : Malformed} → ◌≡◌ {A = Result A Malformed} (cond b (Ok a) (Err m)) (Err n) → m ≡ n
  failed_err true e = cc
  failed_err false e = cc

module _ (text : List ℕ) (at : ℕ) where
  pub start_from : at ≤ token_start text at
  unfolding token_start
  start_from = omega arith

  pub start_inside : at ≤ length text → token_start text at ≤ length text
  unfolding token_start blanks
  start_inside l = let h = prefix_len-le-length is_blank (drop at text) in let d = length-drop at text in omega arith

  abbrev pub next : ℕ
  next = token_start text at

  abbrev pub token : List ℕ
  token = token_at text next

  reaches : (high : ℕ) → within 1 high (length token) ≡ true → Reaches text at next (next + length token)
  reaches high w =
      let (some, few) = lies 1 high (length token) w in
      let e = token_length text next in
      let r = run_le text next in
      record { begins = refl; from = start_from; some = omega arith; inside = omega arith }

  -- ---- numbers

  -- the next token is a number
  pub record IsNumber (n : Number) : Type 0 where
    pub holds : is_number token ≡ true
    pub valued : n.value ≡ value_of token
    pub start : n.start ≡ next
    pub end : n.after ≡ next + length token

  pub number_is : (n : Number) → number_at text at ≡ Ok n → IsNumber n
  unfolding number_at number_in
  number_is n read =
      let (y, e) = passed_ok (record { value = value_of token; start = next; after = next + length token }) (record { start = next }) (is_number token) read in
      record { holds = y; valued = cc; start = cc; end = cc }

  pub number_reaches : (n : Number) → number_at text at ≡ Ok n → Reaches text at n.start n.after
  unfolding is_number
  number_reaches n read =
      let i = number_is n read in
      let r = reaches 10 (and_true (within 1 10 (length token)) _ i.holds).0 in
      rw (i.start, i.end) r

  pub number_small : (n : Number) → number_at text at ≡ Ok n → n.value ≤ 4294967295
  unfolding is_number
  number_small n read =
      let i = number_is n read in
      let b = (and_true (list_all is_digit token) (leb (value_of token) 4294967295) (and_true (within 1 10 (length token)) _ i.holds).1).1 in
      rw i.valued (leb-true (value_of token) 4294967295 b)

  pub malformed_start : (m : Malformed) → number_at text at ≡ Err m → m.start ≡ next
  unfolding number_at number_in
  malformed_start m read =
      let e = failed_err (record { value = value_of token; start = next; after = next + length token }) (record { start = next }) (is_number token) read in
      cc

  pub malformed_from : (m : Malformed) → number_at text at ≡ Err m → at ≤ m.start
  malformed_from m read = let e = malformed_start m read in let f = start_from in omega arith

  pub malformed_inside : at ≤ length text → (m : Malformed) → number_at text at ≡ Err m → m.start ≤ length text
  malformed_inside l m read = let e = malformed_start m read in let i = start_inside l in omega arith

  -- ---- names

  -- the name ends at e
  pub name_reaches : (e : ℕ) → name_at text at ≡ Ok e → Reaches text at next e
  unfolding name_at name_in is_name
  name_reaches e read =
      let (y, q) = passed_ok (next + length token) (record { start = next }) (is_name token) read in
      rw (← q) (reaches 64 (and_true (within 1 64 (length token)) (list_all is_visible token) y).0)

  pub no_name_start : (m : Malformed) → name_at text at ≡ Err m → m.start ≡ next
  unfolding name_at name_in
  no_name_start m read =
      let e = failed_err (next + length token) (record { start = next }) (is_name token) read in
      cc

  pub no_name_from : (m : Malformed) → name_at text at ≡ Err m → at ≤ m.start
  no_name_from m read = let e = no_name_start m read in let f = start_from in omega arith

  pub no_name_inside : at ≤ length text → (m : Malformed) → name_at text at ≡ Err m → m.start ≤ length text
  no_name_inside l m read = let e = no_name_start m read in let i = start_inside l in omega arith
