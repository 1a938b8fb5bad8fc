use Rattle.std.proofs.Common.{◌∙◌, ap, bytes_eq}
use Rattle.std.specs.List.{list_any}
use Rattle.cel_lexeme.proofs.Among.{among_lent}
use Rattle.cel_lexeme.proofs.words.is_reserved.Goals as goal

pub returns : goal.returns
returns c =
    c.is_any_of.ensures ∙ (among_lent c.reserved_words.result.now c.args.word.now ∙ ap (list_any (bytes_eq c.args.word.now)) c.reserved_words.ensures)
