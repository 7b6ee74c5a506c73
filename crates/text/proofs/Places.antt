-- The token that begins at a place: a part of the text that does not reach past its end. Assumes nothing.
use mathlib.Core.Path.{◌≡◌}
use mathlib.Core.Bool.{not}
use mathlib.Core.List.{List}
use Prim.Native.Nat.{ℕ, ◌+◌, ◌-◌, ◌≤◌, ◌<◌}
use native.Mathlib.Omega.{arith}
use lib.ListN.{length, drop, length-drop}
use Rattle.std.proofs.lemmas.List.Folds.{length-prefix_len}
use Rattle.std.proofs.lemmas.List.Sums.{prefix_len-le-length}
use Rattle.text.specs.Bytes.{is_blank}
use Rattle.text.specs.Words.{run, token_at}

module _ (text : List ℕ) (start : ℕ) where
  pub run_le : run (drop start text) ≤ length text - start
  unfolding run
  run_le =
      let f = prefix_len-le-length (λ b. not (is_blank b)) (drop start text) in
      let d = length-drop start text in
      omega arith

  pub token_length : length (token_at text start) ≡ run (drop start text)
  unfolding token_at run
  token_length = length-prefix_len (λ b. not (is_blank b)) (drop start text)

  -- its end is a place too
  pub end_fits : (most : ℕ) → start < most → length text < most → start + length (token_at text start) < most
  end_fits most s l =
      let e = token_length in
      let r = run_le in
      omega arith
