use Rattle.std.proofs.Common.{codes}
use Rattle.iam_wire.proofs.Named.{same_name}
use Rattle.iam_wire.proofs.values.is_identity.Goals as goal

pub returns : goal.returns
returns c = same_name c.eq_ignore_ascii_case.result c.args.value.now (codes "identity") c.eq_ignore_ascii_case.ensures.test
