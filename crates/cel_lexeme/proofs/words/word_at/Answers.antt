use Rattle.std.proofs.Common.{subst, sym, take}
use Rattle.std.specs.Str.{IsUtf8}
use Rattle.cel_lexeme.proofs.Proper.{word_utf8}
use Rattle.cel_lexeme.proofs.words.word_at.Goals as goal

pub word_lexeme-requires : goal.word_lexeme-requires
word_lexeme-requires c = subst (λ n. IsUtf8 (take n c.args.z.now)) (sym c.word_len-n.ensures.value) (word_utf8 c.args.z.now)
