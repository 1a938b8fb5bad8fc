use Rattle.std.proofs.Common.{◌≡◌, List, [], ◌++◌, sym, subst, append-nil, ap, ◌∙◌}
use Rattle.std.proofs.lemmas.List.{nil_from_length}
use Rattle.iam_names.specs.declared.role.RoleName.{RoleName}
use Rattle.iam_modified.specs.declared.modified.Given.{Given}
use Rattle.iam_modified.proofs.Runs.{AreGone, all_gone, changed, run_fewer, run_gone}
use Rattle.iam_modified.proofs.modified.modified_roles.Goals as goal

pub loop-first-init : goal.loop-first-init
loop-first-init c =
    subst (λ (modified : List RoleName). AreGone c.args.old.now c.args.new.now modified c.as_slice-left.result.now) (sym c.new-modified.ensures)
    (subst (λ (left : List Given). AreGone c.args.old.now c.args.new.now [] left) (sym c.as_slice-left.ensures.value)
    (all_gone c.args.old.now c.args.new.now c.in_ok-all.all.items c.in_ok-all.ensures.ordered c.in_ok-all.ensures.stable))

pub loop-first-preserved : goal.loop-first-preserved
loop-first-preserved c =
    run_gone c.args.old.now c.args.new.now c.loop-first.left.now c.in-Some.first.now c.in-Some.field-0-1.now c.run_length.result c.split_at.result.0.now c.split_at.result.1.now c.loop-first.modified c.push_modified.new.modified
    c.in-Some.ensures.cases.0 c.run_length.ensures c.split_at.ensures.front c.split_at.ensures.back c.in_ok-push_modified.ensures c.loop-first.invariant

pub loop-first-smaller : goal.loop-first-smaller
loop-first-smaller c = run_fewer c.loop-first.left.now c.in-Some.first.now c.in-Some.field-0-1.now c.run_length.result c.split_at.result.1.now c.in-Some.ensures.cases.0 c.run_length.ensures c.split_at.ensures.back

pub returns : goal.returns
returns c =
    let none : c.loop-first.left.now ≡ [] = nil_from_length c.loop-first.left.now c.in_default.ensures.cases in
    sym (append-nil c.loop-first.modified) ∙ ap (λ (left : List Given). c.loop-first.modified ++ changed c.args.old.now c.args.new.now left) (sym none) ∙ c.loop-first.invariant.0
