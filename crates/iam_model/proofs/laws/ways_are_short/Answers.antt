use Rattle.iam_model.proofs.Ways.{led_shortly}
use Rattle.iam_model.proofs.laws.ways_are_short.Goals as goal

pub returns : goal.returns
returns c = λ root nodes node steps. led_shortly steps root nodes node
