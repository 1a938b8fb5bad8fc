use Rattle.iam_names.specs.Node.{node_text}
use Rattle.std.proofs.lemmas.Result.{IfOk-weaker}
use Rattle.iam_plan.proofs.Principals.{resource_behind}
use Rattle.iam_plan.proofs.access.read_resource.Goals as goal

pub returns-in-Some : goal.returns-in-Some
returns-in-Some c = IfOk-weaker _ _ _ (λ r read. resource_behind c.args.text.now c.in-Some.name.now r c.in-Some.ensures.some read) c.read.ensures.read

pub returns-in-None : goal.returns-in-None
returns-in-None c = λ node resource. c.in-None.ensures.none (node_text node) resource.1
