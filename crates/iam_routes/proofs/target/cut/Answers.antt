use Rattle.std.proofs.Common.{◌≡◌, ◌∙◌, true, false, Some, None, sym}
use Rattle.iam_routes.proofs.Cutting.{rsplit_parts, uncut, uncut_at}
use Rattle.iam_routes.proofs.target.cut.Goals as goal

pub returns-in_default : goal.returns-in_default
returns-in_default c = uncut c.args.path.now (rsplit_parts c.args.path.now None c.in_default.ensures.cases)

pub returns-else-is_verb : goal.returns-else-is_verb
returns-else-is_verb c =
    let parts = rsplit_parts c.args.path.now (Some (c.in-Some.place, c.in-Some.verb)) c.in-Some.ensures.cases in
    uncut_at c.args.path.now c.in-Some.place.now c.in-Some.verb.now parts.0 parts.1
    (λ is. let e : true ≡ false = sym (c.is_verb.ensures.1 is) ∙ c.if-is_verb.false in cc e)
