-- `setup::name_objectives` meets its contract.
use Rattle.std.proofs.Common.{arith, sym, ◌∙◌}
use Rattle.setup.proofs.Naming.{names_accepted}
use Rattle.setup.proofs.name_objectives.Goals as goal

pub returns : goal.returns
returns c =
    let a = c.args in
    rw (c.accepted.ensures.0, c.accepted.ensures.1)
    (names_accepted a.s a.variables.now (omega arith) (omega arith) (sym c.any_unknown.ensures ∙ c.if-any_unknown.false) c.sixteen-t.result
    c.sixteen-t.ensures)
