use Rattle.iam_plan.proofs.plan.plan_of.Goals as goal

pub returns-in-Some-command_named-clause-words : goal.returns-in-Some-command_named-clause-words
returns-in-Some-command_named-clause-words c = λ stop plan is.
    let first = c.in-Some.ensures.cases.0 in
    let word = c.in-Some-command_named.ensures.some in
    c.plan_behind.ensures.words stop plan (rw (first, ← c.as_str.ensures.value, word) at is)
