-- `filters::forbidden::left_of` meets its contract.
use native.Mathlib.Omega.{arith}
use lib.ListN.{length}
use Rattle.filters.proofs.Tallies.{blank_new}
use Rattle.filters.proofs.forbidden.left_of.Goals as goal

pub left_by-requires : goal.left_by-requires
left_by-requires c =
    record { tuples = (c.requires.tuples.0, c.requires.tuples.1, blank_new (length c.args.masks.now) 128 (omega arith)); products = c.requires.products }

pub left_by-requires-2 : goal.left_by-requires-2
left_by-requires-2 c =
    record {
      tuples = (c.requires.tuples.0, c.requires.tuples.1, blank_new (length c.args.masks.now) 512 (omega (arith, c.requires.tuples.0.few)));
      products = c.requires.products;
    }
