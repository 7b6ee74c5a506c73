-- `choose` tries the values that are left to the lowest open variable, and each choice leaves fewer values in all.
use Rattle.std.proofs.Common.{◌+◌, ◌*◌, set}
use Rattle.meaning.specs.Values.{size}
use Rattle.filters.specs.Filter.{weight}
use Rattle.search.proofs.Choosing.{ToTry}
use Rattle.search.proofs.choices.+choose_try_value.Given as goal

abbrev pub decreases-choose : goal.decreases-choose
decreases-choose l = 2 * weight l.lists

abbrev pub decreases-try_value : goal.decreases-try_value
decreases-try_value l = 2 * weight (set l.lists l.x l.kept) + 1

abbrev pub invariant-choose-loop-rest : goal.invariant-choose-loop-rest
invariant-choose-loop-rest l = ToTry l.task l.lists l.x l.rest

abbrev pub decreases-choose-loop-rest : goal.decreases-choose-loop-rest
decreases-choose-loop-rest l = size l.rest
