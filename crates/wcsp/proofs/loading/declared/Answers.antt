-- `wcsp::loading::declared` meets its contract. The loop: the sizes so far are declared.
use Rattle.std.proofs.Common.{◌+◌, arith, rules, take, get_or}
use Rattle.std.proofs.lemmas.List.{take_more}
use Rattle.state.proofs.Runs.{run_reached}
use Rattle.wcsp.proofs.Adding.{variable_runs, no_calls}
use Rattle.wcsp.proofs.loading.declared.Goals as goal

pub loop-size-init : goal.loop-size-init
loop-size-init c = no_calls c.new-state.ensures

pub add_variable-added-requires : goal.add_variable-added-requires
add_variable-added-requires c = run_reached c.loop-size.invariant

pub loop-size-preserved : goal.loop-size-preserved
loop-size-preserved c =
    let sizes = c.args.sizes.now in
    let i = c.loop-size.size-index in
    let small = c.requires i in
    variable_runs (take i sizes) (get_or sizes i 0) _ (take (i + 1) sizes) (take_more sizes i 0 (search rules)) (omega (arith, small)) (search rules) c.first_values.ensures c.loop-size.invariant c.add_variable-added.ensures
