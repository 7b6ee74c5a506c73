-- `search::choices::lows_of` meets its contract.
use native.Mathlib.Omega.{arith}
use Rattle.blocks.proofs.Copying.{zeros_at}
use borrow.Author.Rules.{rules}
use Rattle.search.proofs.choices.lows_of.Goals as goal

pub loop-x-init : goal.loop-x-init
loop-x-init c = record { long = search rules; lowest = λ y h. absurd (omega arith); past = λ y h. zeros_at 32 y }
