use Rattle.std.proofs.Common.{List, ℕ, IsTrue, sym, subst}
use Rattle.std.proofs.lemmas.Result.{IfOk-weaker}
use Rattle.iam_plan.specs.Clap.{are_whole, given_in}
use Rattle.iam_plan.specs.Pairs.{ArePairs}
use Rattle.iam_plan.specs.Values.{texts}
use Rattle.iam_plan.proofs.Plans.{options_are_whole, said_is_plan, unsaid_is_none}
use Rattle.iam_plan.proofs.plan.plan_of_pairs.Goals as goal

pub matches_of-requires-clause-whole : goal.matches_of-requires-clause-whole
matches_of-requires-clause-whole c = subst (λ (names : List (List ℕ)). IsTrue (are_whole names)) (sym c.options_of.ensures) (options_are_whole c.args.command)

pub matches_of-requires-clause-pairs : goal.matches_of-requires-clause-pairs
matches_of-requires-clause-pairs c = subst (λ (names : List (List ℕ)). ArePairs names (texts c.args.words.now)) (sym c.options_of.ensures) c.requires

pub returns-in-Ok-clause-ok : goal.returns-in-Ok-clause-ok
returns-in-Ok-clause-ok c = IfOk-weaker _ _ _
    (λ plan said. said_is_plan c.args.command (texts c.args.words.now) (given_in c.in-Ok.matches) plan c.requires c.in-Ok.ensures said) c.plan_said.ensures.ok

pub returns-in-Ok-clause-words : goal.returns-in-Ok-clause-words
returns-in-Ok-clause-words c = λ stop.
    unsaid_is_none c.args.command (texts c.args.words.now) (given_in c.in-Ok.matches) c.in-Ok.ensures (c.plan_said.ensures.words stop)
