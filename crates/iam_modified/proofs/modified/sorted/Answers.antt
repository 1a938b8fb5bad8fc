use Rattle.std.proofs.Common.{◌≡◌, ◌++◌, true, false, List, map, ap, subst, ◌∙◌}
use Rattle.std.specs.List.Sorted.{IsStable}
use Rattle.std.specs.Ordering.{is_lt}
use Rattle.std.proofs.lemmas.List.Sorted.{answers_always, ranks_by}
use Rattle.iam_modified.specs.Given.{all_given, given_of, text_order}
use Rattle.iam_modified.specs.declared.modified.Given.{Given}
use Rattle.iam_modified.proofs.Runs.{text_order_total}
use Rattle.iam_modified.proofs.modified.sorted.Goals as goal

pub returns-clause-ordered : goal.returns-clause-ordered
returns-clause-ordered c =
    c.in_ok-sort_by.ensures.sorted _ (ranks_by text_order_total (λ (given : Given). given)) (answers_always _ _ _ (λ f a r f' k. ap is_lt k.met))

pub returns-clause-stable : goal.returns-clause-stable
returns-clause-stable c =
    let all : c.push_given-2.new.all.items ≡ all_given c.args.old.now c.args.new.now =
    c.in_ok-push_given-2.ensures ∙ ap (λ (all : List Given). all ++ map (given_of false) c.args.new.now) (c.in_ok-push_given.ensures ∙ ap (λ (all : List Given). all ++ map (given_of true) c.args.old.now) c.new-all.ensures.items) in
    subst (λ (all : List Given). IsStable text_order all c.sort_by.new.self.items) all
    (c.in_ok-sort_by.ensures.stable _ (ranks_by text_order_total (λ (given : Given). given)) (answers_always _ _ _ (λ f a r f' k. ap is_lt k.met)))
