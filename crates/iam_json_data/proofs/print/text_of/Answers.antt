use Rattle.iam_json_data.specs.Printed.{printed}
use Rattle.iam_json_data.proofs.print.text_of.Goals as goal
use Rattle.std.proofs.Common.{◌∙◌}

pub returns : goal.returns
unfolding printed
returns c = c.from.ensures ∙ c.in_ok-to_string.ensures.text c.requires
