use Rattle.std.proofs.Common.{refl}
use Rattle.std.proofs.lemmas.Bool.{eq-eqb}
use Rattle.iam_model.proofs.laws.organization_is_named.Goals as goal

pub returns : goal.returns
returns c = λ tables. rw (eq-eqb tables.org.number tables.org.number refl) refl
