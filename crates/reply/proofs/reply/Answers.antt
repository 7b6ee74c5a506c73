-- `reply::reply` meets its contract.
use Rattle.reply.proofs.Replying.{refused_replies, may_solve, accepted_replies}
use Rattle.reply.proofs.reply.Goals as goal

pub write_solved-requires : goal.write_solved-requires
write_solved-requires c = may_solve _ _ c.read-loaded.ensures c.in-Ok.is

pub returns-in-Ok : goal.returns-in-Ok
returns-in-Ok c = accepted_replies _ _ c.read-loaded.ensures c.in-Ok.is c.write_solved.ensures

pub returns-in-Err : goal.returns-in-Err
returns-in-Err c = refused_replies _ _ c.read-loaded.ensures c.in-Err.is c.from.ensures c.write_refused.ensures
