-- Texts at the limits, computed. Assumes nothing.
use mathlib.Core.Path.{◌≡◌, refl}
use mathlib.Core.List.{[], ◌∷◌, ◌++◌, map}
use lib.ListN.{replicate}
use Prim.Native.Nat.{ℕ}
use Rattle.std.specs.Prelude.{Result, Ok, Err}
use Rattle.text.specs.declared.Number.{Number}
use Rattle.text.specs.declared.Malformed.{Malformed}
use Rattle.text.specs.Bytes.{sort_of, is_blank, is_digit, is_visible}
use Rattle.text.specs.Words.{blanks, run, token_start, token_at}
use Rattle.text.specs.Tokens.{value_of, is_number, is_name, number_in, name_in, number_at, name_at}

abbrev number : ℕ → ℕ → ℕ → Result Number Malformed
number value start after = Ok (record { value = value; start = start; after = after })

abbrev malformed : {A : Type 0} → ℕ → Result A Malformed
malformed start = Err (record { start = start })

-- two blanks alone; `4294967295` and one more; a 7 after nine zeros and after ten; a mark after a digit
pub numbers : map (λ t. number_at t 0)
    ((32 ∷ 13 ∷ [])
    ∷ (52 ∷ 50 ∷ 57 ∷ 52 ∷ 57 ∷ 54 ∷ 55 ∷ 50 ∷ 57 ∷ 53 ∷ [])
    ∷ (52 ∷ 50 ∷ 57 ∷ 52 ∷ 57 ∷ 54 ∷ 55 ∷ 50 ∷ 57 ∷ 54 ∷ [])
    ∷ (replicate 9 48 ++ (55 ∷ []))
    ∷ (replicate 10 48 ++ (55 ∷ []))
    ∷ (49 ∷ 45 ∷ [])
    ∷ [])
    ≡ malformed 2 ∷ number 4294967295 0 10 ∷ malformed 0 ∷ number 7 0 10 ∷ malformed 0 ∷ malformed 0 ∷ []
unfolding sort_of is_blank is_digit blanks run token_start token_at value_of is_number number_in number_at
numbers = refl

-- after a blank: 64 bytes and 65, and a bad byte in a token
pub names : map (λ t. name_at (9 ∷ t) 0) (replicate 64 126 ∷ replicate 65 126 ∷ (97 ∷ 127 ∷ []) ∷ []) ≡ Ok 65 ∷ malformed 1 ∷ malformed 1 ∷ []
unfolding sort_of is_blank is_visible blanks run token_start token_at is_name name_in name_at
names = refl
