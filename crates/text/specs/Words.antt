-- Where tokens begin and end: a token is a longest run without a blank.
use Rattle.std.specs.Prelude.{◌≡◌, not, List, ℕ, ◌+◌, take, drop}
use Rattle.std.specs.List.{prefix_len}
use Rattle.text.specs.Bytes.{is_blank}

-- how many blanks a text begins with
unfoldable pub blanks : List ℕ → ℕ
blanks t = prefix_len is_blank t

-- how many bytes it begins with that aren't blank
unfoldable pub run : List ℕ → ℕ
run t = prefix_len (λ b. not (is_blank b)) t

-- where the next token from a place on begins; the text's length where there is none
unfoldable pub token_start : List ℕ → ℕ → ℕ
token_start text at = at + blanks (drop at text)

-- r is that place
abbrev pub SkipsBlanks : List ℕ → ℕ → ℕ → Type 0
SkipsBlanks text at r = r ≡ token_start text at

-- the token that begins at a place
unfoldable pub token_at : List ℕ → ℕ → List ℕ
token_at text start = take (run (drop start text)) (drop start text)
