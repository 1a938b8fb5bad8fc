use Rattle.iam_names.proofs.pool.push_pool.Goals as goal

pub returns-in-Workforce : goal.returns-in-Workforce
returns-in-Workforce c = rw (c.in-Workforce.is, ← c.as_str.ensures.value) c.push_both.ensures
