-- `search::spreading::note` meets its contract: the variables passed have the rule.
use lib.ListN.{take}
use Rattle.search.specs.Spreading.{Noted}
use Rattle.search.proofs.spreading.note.Given as goal

abbrev pub invariant-loop-x : goal.invariant-loop-x
invariant-loop-x l = Noted (take l.x-index l.scope) l.k l.initial.touching l.touching
