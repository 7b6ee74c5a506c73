-- The bytes of the lines that are still to come stand behind `at`.
use Rattle.std.proofs.Common.{◌≡◌, ◌+◌, length}
use Rattle.replay.proofs.run.Given as goal

abbrev pub invariant-loop-line : goal.invariant-loop-line
invariant-loop-line l = l.at + length l.line-iterator.rest.now ≡ length l.script
