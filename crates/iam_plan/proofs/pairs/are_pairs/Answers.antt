use Rattle.iam_plan.specs.Values.{texts}
use Rattle.iam_plan.proofs.Words.{stops_here, goes_on}
use Rattle.iam_plan.proofs.pairs.are_pairs.Goals as goal

pub returns-then-not-is_pair : goal.returns-then-not-is_pair
returns-then-not-is_pair c =
    stops_here (texts c.args.names.now) c.args.words.now c.loop-rest.rest.now c.word-item.result c.value-item.result c.is_pair.result
    c.in-len2-up.len_at_least c.word-item.is c.value-item.is c.is_pair.ensures c.if-not-is_pair.true c.loop-rest.invariant

pub loop-rest-preserved : goal.loop-rest-preserved
loop-rest-preserved c =
    goes_on (texts c.args.names.now) c.args.words.now c.loop-rest.rest.now c.word-item.result c.value-item.result c.is_pair.result
    c.in-len2-up.len_at_least c.word-item.is c.value-item.is c.is_pair.ensures c.if-not-is_pair.false c.loop-rest.invariant
