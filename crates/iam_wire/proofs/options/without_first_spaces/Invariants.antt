use Rattle.std.proofs.Common.{◌≡◌, drop}
use Rattle.httparse.specs.Grammar.{skip_ows}
use Rattle.iam_wire.proofs.options.without_first_spaces.Given as goal

abbrev pub invariant-loop-i : goal.invariant-loop-i
invariant-loop-i l = skip_ows (drop l.i l.text) ≡ skip_ows l.text
