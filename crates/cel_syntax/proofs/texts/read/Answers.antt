use Rattle.cel_syntax.proofs.Computed.{exact, complete}
use Rattle.cel_syntax.proofs.texts.read.Goals as goal

pub returns-clause-exact : goal.returns-clause-exact
returns-clause-exact c = exact c.args.text.now c.answered.result c.answered.ensures

pub returns-clause-complete : goal.returns-clause-complete
returns-clause-complete c = complete c.args.text.now c.answered.result c.answered.ensures
