use Rattle.std.proofs.Common.{None, arith}
use Rattle.std.proofs.lemmas.Str.Pattern.{strip_prefix_char}
use Rattle.iam_routes.proofs.segment.first.Goals as goal

pub returns-in-None : goal.returns-in-None
returns-in-None c = strip_prefix_char 47 c.args.place.now None c.in-None.ensures.cases (omega arith)
