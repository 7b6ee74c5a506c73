-- `wcsp::loading::declared` meets its contract. The loop: the sizes so far are declared.
use Rattle.std.proofs.Common.{[], take}
use Rattle.state.specs.Runs.{Run}
use Rattle.wcsp.specs.Files.{variable_calls}
use Rattle.wcsp.proofs.loading.declared.Given as goal

abbrev pub invariant-loop-size : goal.invariant-loop-size
invariant-loop-size l = Run (variable_calls (take l.size-index l.sizes) []) l.state
