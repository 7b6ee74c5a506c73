-- `wcsp::loading::load` meets its contract. Each part goes on from the one before it.
use Rattle.std.proofs.Common.{rules, sym}
use lib.Seq.{length-take-le}
use Rattle.wcsp.proofs.Wholes.{within, all_inside, the_file}
use Rattle.wcsp.proofs.loading.load.Goals as goal

pub read_sizes-requires : goal.read_sizes-requires
read_sizes-requires c = within _ c.in_ok-header.ensures

pub slice_bounds-all-end : goal.slice_bounds-all-end
slice_bounds-all-end c = all_inside _ c.in_ok-header.ensures c.in_ok-lengths.lengths.what (search rules)

pub slice_bounds-sizes-end : goal.slice_bounds-sizes-end
slice_bounds-sizes-end c = sym (length-take-le _ _ (all_inside _ c.in_ok-header.ensures c.in_ok-lengths.lengths.what (search rules)))

pub returns : goal.returns
returns c = the_file _ c.in_ok-header.ensures c.in_ok-lengths.ensures c.in_ok-tables.ensures c.in_ok-end.ensures (all_inside _ c.in_ok-header.ensures c.in_ok-lengths.lengths.what (search rules))
