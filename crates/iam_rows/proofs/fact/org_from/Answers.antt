use Rattle.iam_rows.proofs.Back.{org_refused, org_guessed, org_other}
use Rattle.iam_rows.proofs.fact.org_from.Goals as goal

pub returns-then-has_forms : goal.returns-then-has_forms
returns-then-has_forms c =
    let forms = c.has_forms.ensures.0 c.if-has_forms.true in
    rw c.org_with.ensures.made (
      record {
        formed = record { number = c.requires; domain = forms.0; customer = forms.1 };
        next = rw c.org_with.ensures.made at c.org_with.ensures.small.0;
        changes = rw c.org_with.ensures.made at c.org_with.ensures.small.1;
      },
      λ kept is. org_guessed c.args.text.now c.args.number c.in-Ok.body c.in-Ok.ensures kept is,
    )

pub returns-else-has_forms : goal.returns-else-has_forms
returns-else-has_forms c =
    org_other c.args.text.now c.args.number c.in-Ok.body c.in-Ok.ensures (λ forms. let yes = c.has_forms.ensures.1 forms in cc (yes, c.if-has_forms.false))

pub returns-in-Err : goal.returns-in-Err
returns-in-Err c = org_refused c.args.text.now c.args.number c.in-Err.stop c.in-Err.ensures
