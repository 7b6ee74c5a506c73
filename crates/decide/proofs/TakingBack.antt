-- Taking back: the first decisions stand, and the later blocks of lists are cleared. Assumes nothing.
use mathlib.Core.Path.{◌≡◌, refl, sym}
use mathlib.Core.Logic.{inr}
use mathlib.Core.List.{List}
use Prim.Native.Nat.{ℕ, ◌≤◌}
use native.Mathlib.Omega.{arith}
use borrow.Author.Tests.{le-ltb}
use lib.ListN.{length}
use lib.Seq.{length-take-le}
use Rattle.meaning.specs.Calls.{take_back, tests}
use Rattle.meaning.proofs.Proper.{leaves_proper}
use Rattle.state.specs.declared.State.{State}
use Rattle.blocks.specs.Blocks.{emptied_after}
use Rattle.state.specs.Promises.{Answers}
use Rattle.meaning.proofs.Finding.{finds}
use Rattle.state.proofs.Answering.{accepts}
use Rattle.decide.proofs.Blocks.{lists_back, at_depth, held_at}

pub back_answers : (s : State) (k : ℕ) (l : List (List ℕ)) → k ≤ s.depth → l ≡ emptied_after s.lists k → Answers s (take_back k) 0 (at_depth s k l)
back_answers s k l few e =
    accepts s (take_back k) (at_depth s k l) λ h w L r hold most.
    let low : k ≤ length w.decisions = omega (arith, hold.depth) in (
      finds (tests w L (take_back k)) 0 (inr (le-ltb (length w.decisions) k low, refl)),
      held_at hold (sym (length-take-le k w.decisions low)) (rw e (lists_back w (leaves_proper r) s.lists hold.lists k low)),
    )
