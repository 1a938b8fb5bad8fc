use Rattle.std.proofs.Common.{◌++◌, List, ℕ, ap, ◌∙◌}
use Rattle.std.specs.Str.Iter.{chars_rest}
use Rattle.cel_shown.specs.Spelled.{escaped}
use Rattle.cel_print.proofs.Escapes.{escaped_from, escaped_end}
use Rattle.cel_print.proofs.printer.Printer.escape_all.Goals as goal

pub loop-c-init : goal.loop-c-init
loop-c-init c = ap (λ s. c.args.self.now ++ escaped (chars_rest s)) c.into_iter-c-iterator.ensures.into_iter_gives ∙ ap (λ (z : List ℕ). c.args.self.now ++ escaped z) c.chars-c-items.ensures.rest

pub loop-c-preserved : goal.loop-c-preserved
loop-c-preserved c =
    escaped_from c.args.self.now c.loop-c.self c.escape.new.self c.args.text.now (chars_rest c.loop-c.c-iterator) (chars_rest c.next.new.self) c.in-Some.c
    c.loop-c.invariant c.in-Some.ensures.steps.0 c.in_ok-escape.ensures

pub returns : goal.returns
returns c = escaped_end c.args.self.now c.loop-c.self c.args.text.now (chars_rest c.loop-c.c-iterator) c.loop-c.invariant c.in-None.ensures.steps.0.0
