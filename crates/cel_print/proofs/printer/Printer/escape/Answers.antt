use Rattle.std.proofs.Common.{◌++◌, List, ℕ, sym, ap, ◌∙◌, arith}
use Rattle.std.specs.Char.{encode_utf8}
use Rattle.cel_print.proofs.Escapes.{plain_escape}
use Rattle.cel_print.proofs.printer.Printer.escape.Goals as goal

pub returns-in_ok-push-in_default : goal.returns-in_ok-push-in_default
returns-in_ok-push-in_default c =
    let plain = plain_escape c.args.c (omega arith) (omega arith) (omega arith) (omega arith) (omega arith) in
    c.in_ok-push-in_default.ensures.bytes ∙ ap (λ (z : List ℕ). z ++ encode_utf8 c.args.c) c.self.view_is ∙ ap (λ (z : List ℕ). c.args.self.now ++ z) (sym plain)
