use Rattle.std.proofs.Common.{◌∙◌, sym}
use Rattle.iam_wire.proofs.Targets.{at_target}
use Rattle.iam_wire.proofs.target.stops_in_target.Goals as goal

pub returns : goal.returns
returns c = at_target c.args.bytes.now c.is_target.result (λ e. sym c.place_after.ensures ∙ c.is_target.ensures.0 e, λ e. c.is_target.ensures.1 (c.place_after.ensures ∙ e))
