use Rattle.std.proofs.Common.{◌≡◌, subst, sym, true, false}
use Rattle.std.specs.Prelude.{slice_index}
use Rattle.cel_lexeme.specs.Lexeme.{is_quote}
use Rattle.cel_lexeme.proofs.Proper.{opened_utf8, quote_closes}
use Rattle.cel_lexeme.proofs.strings.string_at.Goals as goal

pub form_at-requires-clause-utf8 : goal.form_at-requires-clause-utf8
form_at-requires-clause-utf8 c =
    let quote = subst (λ b. is_quote b ≡ true) (sym c.byte-quote.ensures.value) c.requires.quote in
    opened_utf8 (record { quote = c.byte-quote.result; long = true; raw = c.args.raw }) c.args.z.now quote (sym c.if-closes.ensures.value) c.requires.utf8

pub form_at-requires-2-clause-utf8 : goal.form_at-requires-2-clause-utf8
form_at-requires-2-clause-utf8 c =
    let z = c.args.z.now in
    opened_utf8 (record { quote = slice_index z 0; long = false; raw = c.args.raw }) z c.requires.quote (quote_closes c.args.raw z) c.requires.utf8
