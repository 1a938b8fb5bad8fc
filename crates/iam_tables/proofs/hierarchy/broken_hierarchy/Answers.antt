use Rattle.std.proofs.lemmas.Bool.{both_ways}
use Rattle.iam_model.specs.Broken.IsFirstBrokenBy.{active, folders, parents}
use Rattle.iam_tables.proofs.hierarchy.broken_hierarchy.Goals as goal

pub returns-then-not-parents_lead-clause-broken : goal.returns-then-not-parents_lead-clause-broken
returns-then-not-parents_lead-clause-broken c =
    parents (λ lead. both_ways c.parents_lead.result c.if-not-parents_lead.true (c.parents_lead.ensures.1 lead))

pub returns-then-not-folders_fit-clause-broken : goal.returns-then-not-folders_fit-clause-broken
returns-then-not-folders_fit-clause-broken c =
    folders (c.parents_lead.ensures.0 c.if-not-parents_lead.false)
    (λ fit. both_ways c.folders_fit.result c.if-not-folders_fit.true (c.folders_fit.ensures.1 fit))

pub returns-then-not-parents_are_active-clause-broken : goal.returns-then-not-parents_are_active-clause-broken
returns-then-not-parents_are_active-clause-broken c =
    active (c.parents_lead.ensures.0 c.if-not-parents_lead.false) (c.folders_fit.ensures.0 c.if-not-folders_fit.false)
    (λ are. both_ways c.parents_are_active.result c.if-not-parents_are_active.true (c.parents_are_active.ensures.1 are))

pub returns-clause-kept : goal.returns-clause-kept
returns-clause-kept c = record {
  parents = c.parents_lead.ensures.0 c.if-not-parents_lead.false;
  folders = c.folders_fit.ensures.0 c.if-not-folders_fit.false;
  active = c.parents_are_active.ensures.0 c.if-not-parents_are_active.false;
}
