-- `text::tokens::Token::number` meets its contract. The loop: the bytes so far are digits, and `value` is their value.
use Rattle.text.proofs.Numbers.{Digits}
use Rattle.text.proofs.tokens.Token.number.Given as goal

abbrev pub invariant-loop-byte : goal.invariant-loop-byte
invariant-loop-byte l = Digits l.self.bytes.now l.byte-index l.value
