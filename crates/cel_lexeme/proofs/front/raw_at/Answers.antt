use Rattle.std.proofs.Common.{subst, sym}
use Rattle.std.specs.Str.{IsUtf8}
use Rattle.std.proofs.lemmas.List.{take_rest}
use Rattle.cel_lexeme.proofs.Proper.{marked_utf8}
use Rattle.cel_lexeme.proofs.front.raw_at.Goals as goal

pub string_at-requires-clause-utf8 : goal.string_at-requires-clause-utf8
string_at-requires-clause-utf8 c = subst IsUtf8 (sym (take_rest c.args.z.now 1)) (marked_utf8 c.args.z.now c.requires.mark c.requires.utf8)
