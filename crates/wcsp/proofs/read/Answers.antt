-- `wcsp::read` meets its contract.
use Rattle.wcsp.proofs.Wholes.{reads_file}
use Rattle.wcsp.proofs.read.Goals as goal

pub returns-in-Ok : goal.returns-in-Ok
returns-in-Ok c = reads_file _ _ c.in-Ok.ensures
