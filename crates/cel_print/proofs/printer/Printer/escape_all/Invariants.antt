use Rattle.std.proofs.Common.{◌≡◌, ◌++◌}
use Rattle.std.specs.Str.Iter.{chars_rest}
use Rattle.cel_shown.specs.Spelled.{escaped}
use Rattle.cel_print.proofs.printer.Printer.escape_all.Given as goal

abbrev pub invariant-loop-c : goal.invariant-loop-c
invariant-loop-c l = l.self ++ escaped (chars_rest l.c-iterator) ≡ l.fn.self ++ escaped l.fn.text
