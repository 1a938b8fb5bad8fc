use Rattle.std.proofs.Common.{◌≡◌, take}
use Rattle.std.specs.Prelude.{min}
use Rattle.cel_lexeme.specs.Lexeme.{number}
use Rattle.cel_lexeme.specs.Front.{beyond}
use Rattle.cel_lexeme.proofs.numbers.number.Given as goal

abbrev pub invariant-loop-digit : goal.invariant-loop-digit
invariant-loop-digit l = l.n ≡ min (number l.base (take l.digit-index l.digits)) beyond
