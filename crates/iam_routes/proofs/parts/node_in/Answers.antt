use Rattle.iam_routes.proofs.Names.{names_no_text}
use Rattle.iam_routes.proofs.parts.node_in.Goals as goal

pub returns-in_default : goal.returns-in_default
returns-in_default c =
    names_no_text c.args.kind.now c.args.segment.now _ c.in_ok-decoded.ensures (λ u. let bad = c.in_default.ensures.succeeds u in cc bad)
