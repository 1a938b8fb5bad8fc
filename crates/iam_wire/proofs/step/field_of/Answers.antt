use Rattle.std.proofs.Common.{◌≡◌, ◌∷◌, [], ap, ◌∙◌}
use Rattle.iam_wire.specs.declared.message.Field.TheVariants.{One}
use Rattle.iam_wire.proofs.Steps.{field_text, field_bad, field_repeated}
use Rattle.iam_wire.proofs.step.field_of.Goals as goal

pub returns-in_ok-of-in-Ok : goal.returns-in_ok-of-in-Ok
returns-in_ok-of-in-Ok c = λ values named.
    let once : values ≡ c.in-Once.value.now ∷ [] = rw c.in-Once.is at named in
    ap One (c.in_ok-of-in-Ok.ensures ∙ c.in-Ok.ensures.cases.0) ∙ field_text values c.in-Once.value.now once c.in-Ok.ensures.cases.1

pub returns-in-Err : goal.returns-in-Err
returns-in-Err c = λ values named.
    let once : values ≡ c.in-Once.value.now ∷ [] = rw c.in-Once.is at named in
    field_bad values c.in-Once.value.now once c.in-Err.ensures.cases.0

pub returns-in-Repeated : goal.returns-in-Repeated
returns-in-Repeated c = λ values named. field_repeated values (rw c.in-Repeated.is at named)
