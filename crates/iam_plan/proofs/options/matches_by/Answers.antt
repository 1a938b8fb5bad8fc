use Rattle.std.proofs.Common.{◌∙◌}
use Rattle.std.proofs.lemmas.Bool.{and_parts}
use Rattle.iam_plan.proofs.options.matches_by.Goals as goal

pub unreachable-requires : goal.unreachable-requires
unreachable-requires c =
    let kind = c.in-Err.ensures.passes c.requires in
    c.in_default.not-OutOfMemory (c.kind.ensures ∙ kind)

pub returns-in-Ok : goal.returns-in-Ok
returns-in-Ok c = (c.in-Ok.ensures.matches (and_parts _ _ c.requires).0).0
