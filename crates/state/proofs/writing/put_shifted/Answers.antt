-- `state::writing::put_shifted` meets its contract. The loop: the first j coefficients are written.
use native.Mathlib.Omega.{arith}
use borrow.Author.Rules.{rules}
use lib.ListN.{length-map}
use lib.Seq.{ext_get_or}
use Rattle.meaning.specs.Limits.{coefficient_limit}
use Rattle.filters.specs.Layout.{shift}
use Rattle.state.proofs.Putting.{coefficient_near}
use Rattle.state.proofs.writing.put_shifted.Goals as goal

pub shifted_coefficient-requires : goal.shifted_coefficient-requires
shifted_coefficient-requires c =
    coefficient_near c.args.coefficients.now c.loop-j.j c.shifted_coefficient-arg-1.given c.requires.1 (search rules)

pub returns : goal.returns
returns c =
    let long = length-map c.args.coefficients.now (shift coefficient_limit) in
    ext_get_or 0 _ _ (omega (arith, long, c.requires.0)) (λ k h. c.loop-j.invariant k (omega (arith, c.requires.0)))
