-- `search::spreading::rules_on` meets its contract: the first k rules are noted.
use Rattle.search.specs.Spreading.{Touching}
use Rattle.search.proofs.spreading.rules_on.Given as goal

abbrev pub invariant-loop-k : goal.invariant-loop-k
invariant-loop-k l = Touching l.rules.heads.now l.rules.room.now l.k l.touching
