-- `setup::new` meets its contract.
use mathlib.Core.Path.{refl}
use Rattle.setup.proofs.Variables.{nothing_held}
use Rattle.setup.proofs.new.Goals as goal

pub returns : goal.returns
returns c = nothing_held (refl, refl, refl, refl, refl, refl, refl, refl, refl, refl)
