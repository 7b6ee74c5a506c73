-- `eight` returns the eight vectors, of which every case is so.
use mathlib.Core.Path.{refl}
use Rattle.cases.proofs.Table.{all_say}
use Rattle.cases.proofs.eight.Goals as goal

pub returns : goal.returns
returns c = record { table = refl; so = all_say }
