-- `choose` and `try_value`, which call each other, meet their contracts.
use Rattle.std.proofs.Common.{rules, arith, set}
use Rattle.meaning.proofs.Listed.{Words}
use Rattle.filters.proofs.Sweeping.{weight_le}
use Rattle.search.proofs.Opening.{closed_up, words_take}
use Rattle.search.proofs.Leaves.{leaf_of}
use Rattle.search.proofs.Choosing.{known, try_all, tried_all, try_narrowable, try_less, tried_some, tried_none, sieved_choosable}
use Rattle.search.proofs.choices.+choose_try_value.Goals as goal

pub choose-returns-in_default : goal.choose-returns-in_default
choose-returns-in_default t c =
    let words : Words c.args.lists = λ x. search rules in
    leaf_of c.requires (search rules) (closed_up _ (words_take c.args.task.now.n c.args.lists words) c.in_default.ensures) c.lows_of.ensures

pub choose-loop-rest-init : goal.choose-loop-rest-init
choose-loop-rest-init t c = try_all c.requires (search rules) (λ x. search rules) c.in-Some.ensures

pub choose-try_value-rota-requires : goal.choose-try_value-rota-requires
choose-try_value-rota-requires t c =
    let ready = c.requires in
    let left = c.loop-rest.invariant in
    let opens = c.in-Some.ensures in
    let some = c.loop-rest-test.true in
    let alone = c.only-kept.ensures in (
      omega (arith, c.decreases, try_less ready left.long left.words opens left some (search rules) alone),
      (omega (arith, known ready left.long left.words opens, ready.net.variables), try_narrowable ready left.long left.words opens left some (search rules) alone),
    )

pub choose-returns-then-is_some : goal.choose-returns-then-is_some
choose-returns-then-is_some t c =
    let left = c.loop-rest.invariant in
    tried_some c.requires left.long left.words c.in-Some.ensures left c.loop-rest-test.true (search rules) c.only-kept.ensures _ c.if-is_some.ensures
    c.try_value-rota.ensures

pub choose-loop-rest-preserved : goal.choose-loop-rest-preserved
choose-loop-rest-preserved t c =
    let left = c.loop-rest.invariant in
    tried_none c.requires left.long left.words c.in-Some.ensures left c.loop-rest-test.true (search rules) c.only-kept.ensures c.without-rest.ensures
    _ c.if-is_some.ensures c.try_value-rota.ensures

pub choose-returns : goal.choose-returns
choose-returns t c =
    let left = c.loop-rest.invariant in
    tried_all c.requires left.long left.words c.in-Some.ensures left c.loop-rest-test.false

pub try_value-choose-requires : goal.try_value-choose-requires
try_value-choose-requires t c =
    let narrowed = c.narrow in
    let old = set c.args.lists c.args.x c.args.kept in (
      omega (arith, c.decreases, weight_le narrowed.new.lists old narrowed.ensures.within),
      sieved_choosable c.requires.1 c.in_ok-narrow.ensures,
    )
