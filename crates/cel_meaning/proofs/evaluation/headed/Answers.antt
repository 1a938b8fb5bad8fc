use Rattle.std.proofs.Common.{subst}
use Rattle.cel_tree.specs.declared.tree.Expr.{out-Expr}
use Rattle.cel_types.specs.Heads.{head_of}
use Rattle.cel_meaning.specs.Results.{Gathers, at}
use Rattle.cel_meaning.proofs.Nodes.{headed_by, headed_none, headed_stops}
use Rattle.cel_meaning.proofs.evaluation.headed.Goals as goal

pub returns-in-Some : goal.returns-in-Some
returns-in-Some g c =
    λ all h. headed_by (at (g.F.Facts.context c.args.facts.now)) _ _ all c.in-Ok.values c.apply.result c.in-Some.ensures (subst (Gathers all) c.in-Ok.is h) c.apply.ensures

pub returns-in-None : goal.returns-in-None
returns-in-None g c =
    λ all h. headed_none (at (g.F.Facts.context c.args.facts.now)) _ all c.in-Ok.values c.in-None.ensures (subst (Gathers all) c.in-Ok.is h)

pub returns-in-Err : goal.returns-in-Err
returns-in-Err g c =
    λ all h. headed_stops (at (g.F.Facts.context c.args.facts.now)) (head_of (out-Expr c.args.expr.now)) all c.in-Err.stop (subst (Gathers all) c.in-Err.is h)
