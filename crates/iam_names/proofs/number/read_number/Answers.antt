use Rattle.iam_names.proofs.Numbers.{number_read}
use Rattle.iam_names.proofs.number.read_number.Goals as goal

pub returns-clause-read : goal.returns-clause-read
returns-clause-read c = (number_read c.args.text.now c.value_of.result c.value_of.ensures.form c.value_of.ensures.value).0

pub returns-clause-back : goal.returns-clause-back
returns-clause-back c = (number_read c.args.text.now c.value_of.result c.value_of.ensures.form c.value_of.ensures.value).1
