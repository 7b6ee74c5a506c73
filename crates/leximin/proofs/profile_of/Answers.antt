-- `leximin::profile_of` meets its contract. The loop: the first j values are copied.
use native.Mathlib.Omega.{arith}
use Rattle.leximin.proofs.Profiles.{name_at_lem, profile_whole}
use Rattle.leximin.proofs.profile_of.Goals as goal

pub bounds-values-goal : goal.bounds-values-goal
bounds-values-goal c = name_at_lem c.args.goals.now c.requires c.loop-j.j c.loop-j-test.true

pub returns : goal.returns
returns c =
    profile_whole c.args.goals.now c.args.values c.loop-j.profile (omega (arith, c.loop-j.invariant.0, c.requires.most)) (λ j h. c.loop-j.invariant.1 j (omega arith))
