use Rattle.iam_plan.specs.Commands.{options_of}
use Rattle.iam_plan.specs.Values.{texts}
use Rattle.iam_plan.proofs.Plans.{no_pairs}
use Rattle.iam_plan.proofs.Words.{read_as_pairs, read_as_none}
use Rattle.iam_plan.proofs.plan.plan_behind.Goals as goal

pub returns-then-not-are_pairs-clause-words : goal.returns-then-not-are_pairs-clause-words
returns-then-not-are_pairs-clause-words c = λ _. no_pairs c.args.command c.args.words.now
    (read_as_none (options_of c.args.command) (texts c.options_of.result.now) c.args.words.now c.are_pairs.result c.options_of.ensures c.are_pairs.ensures c.if-not-are_pairs.true)

pub plan_of_pairs-requires : goal.plan_of_pairs-requires
plan_of_pairs-requires c =
    read_as_pairs (options_of c.args.command) (texts c.options_of.result.now) c.args.words.now (texts c.as_slice.result.now) c.are_pairs.result
    c.options_of.ensures c.are_pairs.ensures c.if-not-are_pairs.false (rw c.as_slice.ensures.value c.in-Ok.ensures)

pub returns-in-Ok-clause-words : goal.returns-in-Ok-clause-words
returns-in-Ok-clause-words c = λ stop plan is.
    c.plan_of_pairs.ensures.words stop plan (rw (c.as_slice.ensures.value, c.in-Ok.ensures) is)
