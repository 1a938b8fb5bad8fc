use Rattle.std.proofs.Common.{Some, None, arith}
use Rattle.std.proofs.lemmas.Str.Pattern.{find_char}
use Rattle.iam_routes.proofs.Segments.{head_at, head_of_all}
use Rattle.iam_routes.proofs.segment.head.Goals as goal

pub returns-in-Some : goal.returns-in-Some
returns-in-Some c =
    let found = find_char 47 c.args.text.now (Some c.in-Some.end) c.in-Some.ensures.cases (omega arith) in
    head_at c.args.text.now _ _ c.in-Some.end c.split_at.ensures.front c.split_at.ensures.back c.split_at.ensures.front_len found.0 found.1 found.2

pub returns-in-None : goal.returns-in-None
returns-in-None c = head_of_all c.args.text.now (find_char 47 c.args.text.now None c.in-None.ensures.cases (omega arith))
