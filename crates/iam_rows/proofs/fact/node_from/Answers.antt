use Rattle.iam_rows.proofs.Back.{node_formed, node_guessed, node_other, node_refused}
use Rattle.iam_rows.proofs.fact.node_from.Goals as goal

pub returns-then-has_node_form : goal.returns-then-has_node_form
returns-then-has_node_form c =
    let form = c.has_node_form.ensures.0 c.if-has_node_form.true in
    rw c.node_with.ensures
    (node_formed c.args.text.now c.args.id c.in-Ok.body c.requires form c.in-Ok.ensures, λ kept is. node_guessed c.args.text.now c.args.id c.in-Ok.body c.in-Ok.ensures kept is)

pub returns-else-has_node_form : goal.returns-else-has_node_form
returns-else-has_node_form c =
    node_other c.args.text.now c.args.id c.in-Ok.body c.in-Ok.ensures (λ form. let yes = c.has_node_form.ensures.1 form in cc (yes, c.if-has_node_form.false))

pub returns-in-Err : goal.returns-in-Err
returns-in-Err c = node_refused c.args.text.now c.args.id c.in-Err.stop c.in-Err.ensures
