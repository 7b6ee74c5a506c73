-- `text::tokens::Token::number` meets its contract. The loop: the bytes so far are digits, and `value` is their value.
use Rattle.std.proofs.Common.{rules}
use Rattle.text.proofs.Numbers.{one_more}
use Rattle.text.proofs.tokens.Token.number.Goals as goal

pub loop-byte-preserved : goal.loop-byte-preserved
loop-byte-preserved c = one_more _ _ _ c.loop-byte.invariant (search rules) (search rules)
