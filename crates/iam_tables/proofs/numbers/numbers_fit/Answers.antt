use Rattle.std.proofs.Common.{Bool, List, ap, ◌∙◌}
use Rattle.std.proofs.lemmas.Bool.{both_ways}
use Rattle.std.specs.List.{list_all}
use Rattle.iam_types.specs.declared.node.Node.{Node}
use Rattle.iam_model.specs.Hierarchy.{is_alone, share_number, share_project_id}
use Rattle.iam_tables.proofs.Tested.{all_shown}
use Rattle.iam_tables.proofs.numbers.numbers_fit.Goals as goal

abbrev all_own : (Node → Node → Bool) → List Node → Bool
all_own alike nodes = list_all (is_alone alike nodes) nodes

pub returns-then-not-ids_differ : goal.returns-then-not-ids_differ
returns-then-not-ids_differ c =
    let nodes = c.args.tables.now.nodes in
    let differ = all_shown (is_alone share_project_id nodes) nodes c.ids_differ.result (c.ids_differ.ensures ∙ ap (all_own share_project_id) c.as_slice-nodes.ensures) in
    (λ yes. absurd (cc yes), λ fit. absurd (both_ways c.ids_differ.result c.if-not-ids_differ.true (differ.1 fit.projects)))

pub returns-then-not-numbers_differ : goal.returns-then-not-numbers_differ
returns-then-not-numbers_differ c =
    let nodes = c.args.tables.now.nodes in
    let differ = all_shown (is_alone share_number nodes) nodes c.numbers_differ.result (c.numbers_differ.ensures ∙ ap (all_own share_number) c.as_slice-nodes.ensures) in
    (λ yes. absurd (cc yes), λ fit. absurd (both_ways c.numbers_differ.result c.if-not-numbers_differ.true (differ.1 fit.nodes)))

pub returns-then-not-numbers_are_given : goal.returns-then-not-numbers_are_given
returns-then-not-numbers_are_given c =
    (λ yes. absurd (cc yes), λ fit. absurd (both_ways c.numbers_are_given.result c.if-not-numbers_are_given.true (c.numbers_are_given.ensures.1 fit.given)))

pub returns : goal.returns
returns c =
    let nodes = c.args.tables.now.nodes in
    let ids = all_shown (is_alone share_project_id nodes) nodes c.ids_differ.result (c.ids_differ.ensures ∙ ap (all_own share_project_id) c.as_slice-nodes.ensures) in
    let numbers = all_shown (is_alone share_number nodes) nodes c.numbers_differ.result (c.numbers_differ.ensures ∙ ap (all_own share_number) c.as_slice-nodes.ensures) in (
      λ fits.
          let next = c.next_fits.ensures.0 fits in
          record {
            projects = ids.0 c.if-not-ids_differ.false;
            nodes = numbers.0 c.if-not-numbers_differ.false;
            given = c.numbers_are_given.ensures.0 c.if-not-numbers_are_given.false;
            first = next.0;
            last = next.1;
          },
      λ fit. c.next_fits.ensures.1 (fit.first, fit.last),
    )
