use Rattle.std.specs.Fmt.{decimal}
use Rattle.iam_names.specs.Number.{IsNodeNumber}
use Rattle.iam_names.proofs.Behind.{read_behind, back_behind}
use Rattle.iam_names.proofs.number.number_behind.Goals as goal

pub returns-clause-read : goal.returns-clause-read
returns-clause-read c = read_behind IsNodeNumber decimal c.args.prefix.now c.in_ok-behind.field-0.now c.args.text.now c.read_number.result c.in_ok-behind.ensures.some c.read_number.ensures.read

pub returns-clause-back : goal.returns-clause-back
returns-clause-back c = back_behind IsNodeNumber decimal c.args.prefix.now c.in_ok-behind.field-0.now c.args.text.now c.read_number.result c.in_ok-behind.ensures.some c.read_number.ensures.back
