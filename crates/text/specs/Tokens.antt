-- What a token says: a number, a name, or neither.
use Rattle.std.specs.Prelude.{◌≡◌, Bool, ◌&&◌, cond, List, ℕ, ◌+◌, ◌-◌, ◌*◌, leb, length, Result, Ok, Err, fold}
use Rattle.std.specs.List.{list_all}
use Rattle.text.specs.declared.Number.{Number}
use Rattle.text.specs.declared.Malformed.{Malformed}
use Rattle.text.specs.Bytes.{within, is_digit, is_visible}
use Rattle.text.specs.Words.{token_start, token_at}

-- the decimal value of digits
unfoldable pub value_of : List ℕ → ℕ
value_of t = fold (λ v d. v * 10 + (d - 48)) 0 t

-- 1 to 10 digits, and a value that isn't too large
unfoldable pub is_number : List ℕ → Bool
is_number t = within 1 10 (length t) && (list_all is_digit t && leb (value_of t) 4294967295)

-- 1 to 64 digits or marks
unfoldable pub is_name : List ℕ → Bool
is_name t = within 1 64 (length t) && list_all is_visible t

-- what a token that begins at a start says: the number with the place after it, or where the token begins that is none
unfoldable pub number_in : List ℕ → ℕ → Result Number Malformed
number_in token start =
    cond (is_number token) (Ok (record { value = value_of token; start = start; after = start + length token })) (Err (record { start = start }))

-- the place after a name, or where the token begins that is none
unfoldable pub name_in : List ℕ → ℕ → Result ℕ Malformed
name_in token start = cond (is_name token) (Ok (start + length token)) (Err (record { start = start }))

-- what the next token from a place on says
unfoldable pub number_at : List ℕ → ℕ → Result Number Malformed
number_at text at = number_in (token_at text (token_start text at)) (token_start text at)

unfoldable pub name_at : List ℕ → ℕ → Result ℕ Malformed
name_at text at = name_in (token_at text (token_start text at)) (token_start text at)

-- r is what the next token from a place on says as a number, or as a name
abbrev pub ReadsNumber : List ℕ → ℕ → Result Number Malformed → Type 0
ReadsNumber text at r = r ≡ number_at text at

abbrev pub ReadsName : List ℕ → ℕ → Result ℕ Malformed → Type 0
ReadsName text at r = r ≡ name_at text at
