use Rattle.std.proofs.Common.{inr, ap, subst}
use Rattle.std.specs.Prelude.{Err}
use Rattle.iam_plan.specs.Plan.{IsPlan}
use Rattle.iam_server.proofs.Endings.{no_words}
use Rattle.iam_server.proofs.runs.run.Goals as goal

pub carry_out-requires : goal.carry_out-requires
carry_out-requires g c = λ db opening same. c.openings_are_formed.ensures c.args.words.now db opening (subst (IsPlan c.args.words.now) same c.in-Ok.ensures.ok)

pub returns-in-Ok-clause-words : goal.returns-in-Ok-clause-words
returns-in-Ok-clause-words g c = λ is. absurd (no_words _ _ _ _ _ c.carry_out.ensures.came is)

pub returns-in-Ok-clause-ran : goal.returns-in-Ok-clause-ran
returns-in-Ok-clause-ran g c = inr (_, c.in-Ok.ensures.ok, c.carry_out.ensures.came)

pub returns-in-Err-Words-clause-words : goal.returns-in-Err-Words-clause-words
returns-in-Err-Words-clause-words g c = λ _. c.in-Err-Words.ensures.words (ap Err c.in-Err-Words.field-0-is)
