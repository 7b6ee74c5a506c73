-- `search::nodes::narrow` meets its contract: what is left so far, and the rules that are due.
use Rattle.search.proofs.Sieving.{sieved_dry, sieving_aims, sieving_open, sieved_dead, sieved_live, raised_full, sieving_on, sieving_less}
use Rattle.search.proofs.nodes.narrow.Goals as goal

pub returns-in_err-spread : goal.returns-in_err-spread
returns-in_err-spread c = rw c.from_residual.ensures (sieved_dry c.requires.net c.loop-lists.invariant c.in_err-spread.ensures)

pub raise-requires : goal.raise-requires
raise-requires c =
    let net = c.requires.net in
    (sieving_aims net c.loop-lists.invariant c.in_ok-spread.ensures, sieving_open net c.loop-lists.invariant c.in_ok-spread.ensures)

pub returns-in_err-changed : goal.returns-in_err-changed
returns-in_err-changed c =
    rw c.from_residual-in_err-changed.ensures
    (sieved_dead c.requires.net c.loop-lists.invariant c.in_ok-spread.ensures c.raise.ensures c.in_err-changed.ensures.answer)

pub returns-then-changed-eq0 : goal.returns-then-changed-eq0
returns-then-changed-eq0 c =
    sieved_live c.requires.net c.loop-lists.invariant c.in_ok-spread.ensures c.raise.ensures c.in_ok-changed.ensures.answer c.if-changed-eq0.true

pub returns-in_err-rest : goal.returns-in_err-rest
returns-in_err-rest c =
    absurd (raised_full c.requires.net c.loop-lists.invariant c.in_ok-spread.ensures c.raise.ensures c.in_ok-changed.ensures.answer c.in_err-rest.ensures)

pub loop-lists-smaller : goal.loop-lists-smaller
loop-lists-smaller c =
    sieving_less c.requires.net c.loop-lists.invariant c.in_ok-spread.ensures c.raise.ensures c.in_ok-changed.ensures.answer c.if-changed-eq0.false

pub loop-lists-preserved : goal.loop-lists-preserved
loop-lists-preserved c =
    sieving_on c.requires.net c.loop-lists.invariant c.in_ok-spread.ensures c.raise.ensures c.in_ok-changed.ensures.answer c.in_ok-rest.ensures
