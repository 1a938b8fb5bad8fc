use Rattle.std.proofs.Common.{◌≡◌, ◌∙◌, subst, sym, drop, Some}
use Rattle.std.specs.Str.{IsUtf8}
use Rattle.std.proofs.lemmas.List.{take_rest}
use Rattle.cel_lexeme.specs.Front.{body_at}
use Rattle.cel_lexeme.proofs.Proper.{body_utf8}
use Rattle.cel_lexeme.proofs.strings.form_at.Goals as goal

pub string_lexeme-requires : goal.string_lexeme-requires
string_lexeme-requires c =
    let z = c.args.z.now in
    let n = c.quotes_len-start.result in
    let read : body_at c.args.form (drop n z) ≡ Some c.in-Some.body = sym (rw (take_rest z n) at c.in_ok-body.ensures.value) ∙ c.in-Some.is in
    body_utf8 c.args.form (drop n z) c.in-Some.body c.requires.quote (subst (λ k. IsUtf8 (drop k z)) (sym c.quotes_len-start.ensures.value) c.requires.utf8) read
