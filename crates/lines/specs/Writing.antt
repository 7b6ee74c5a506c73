-- What writing into the buffer leaves there.
use Rattle.std.specs.Prelude.{◌≡◌, List, ◌++◌, ℕ, ◌+◌, ◌≤◌, length, drop}
use Rattle.std.proofs.lemmas.List.Edits.{sets}
use Rattle.lines.specs.declared.Writer.{Writer}

-- the buffer after a text's bytes were stored one by one from a place on, and the place behind them
pub record Put (before : List ℕ) (at : ℕ) (text after : List ℕ) (end : ℕ) : Type 0 where
  pub is : after ≡ sets before at text
  pub next : end ≡ at + length text

-- the buffer has room for the text from the writer's place on
abbrev pub HasRoom : Writer → List ℕ → Type 0
HasRoom writer text = writer.at + length text ≤ length writer.out.now

-- the text is put from the writer's place on, in the same buffer
pub record Puts (writer : Writer) (text : List ℕ) (after : Writer) : Type 0 where
  pub same : after.out.ghost_name ≡ writer.out.ghost_name
  pub size : length after.out.now ≡ length writer.out.now
  pub fits : after.at ≤ length after.out.now
  pub put : Put writer.out.now writer.at text after.out.now after.at

-- the buffer begins with the text and goes on as it was, and count is the text's length
pub record Written (before text after : List ℕ) (count : ℕ) : Type 0 where
  pub is : after ≡ text ++ drop (length text) before
  pub counted : count ≡ length text
