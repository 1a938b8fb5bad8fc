use Rattle.std.proofs.Common.{◌≡◌, ℕ, Option, None, subst}
use Rattle.std.specs.Prelude.{IfNone}
use Rattle.std.proofs.lemmas.Bool.{both_ways}
use Rattle.iam_types.specs.declared.tables.Tables.{Tables}
use Rattle.iam_model.specs.Broken.IsFirstBrokenBy.{numbers, policies, limits, sets}
use Rattle.iam_model.specs.Consistent.{HierarchyStands}
use Rattle.iam_tables.proofs.consistent.broken_rule.Goals as goal

-- no rule of the hierarchy is broken
stands : (tables : Tables) (broken : Option ℕ) → broken ≡ None → IfNone broken (HierarchyStands tables) → HierarchyStands tables
stands tables broken is kept = subst (λ (o : Option ℕ). IfNone o (HierarchyStands tables)) is kept

pub returns-then-not-numbers_fit-clause-broken : goal.returns-then-not-numbers_fit-clause-broken
returns-then-not-numbers_fit-clause-broken c =
    numbers (stands c.args.tables.now c.broken_hierarchy.result c.in_default.is c.broken_hierarchy.ensures.kept)
    (λ fit. both_ways c.numbers_fit.result c.if-not-numbers_fit.true (c.numbers_fit.ensures.1 fit))

pub returns-then-not-policies_stand-clause-broken : goal.returns-then-not-policies_stand-clause-broken
returns-then-not-policies_stand-clause-broken c =
    policies (stands c.args.tables.now c.broken_hierarchy.result c.in_default.is c.broken_hierarchy.ensures.kept) (c.numbers_fit.ensures.0 c.if-not-numbers_fit.false)
    (λ stand. both_ways c.policies_stand.result c.if-not-policies_stand.true (c.policies_stand.ensures.1 stand))

pub returns-then-not-branch-clause-broken : goal.returns-then-not-branch-clause-broken
returns-then-not-branch-clause-broken c =
    limits (stands c.args.tables.now c.broken_hierarchy.result c.in_default.is c.broken_hierarchy.ensures.kept) (c.numbers_fit.ensures.0 c.if-not-numbers_fit.false) (c.policies_stand.ensures.0 c.if-not-policies_stand.false)
    (λ within. both_ways c.in_ok-within_limits.field-0 c.if-not-branch.true (c.in_ok-within_limits.ensures.1 within))

pub returns-then-not-set_by_changes-clause-broken : goal.returns-then-not-set_by_changes-clause-broken
returns-then-not-set_by_changes-clause-broken c =
    sets (stands c.args.tables.now c.broken_hierarchy.result c.in_default.is c.broken_hierarchy.ensures.kept) (c.numbers_fit.ensures.0 c.if-not-numbers_fit.false) (c.policies_stand.ensures.0 c.if-not-policies_stand.false)
    (c.in_ok-within_limits.ensures.0 c.if-not-branch.false)
    (λ set. both_ways c.set_by_changes.result c.if-not-set_by_changes.true (c.set_by_changes.ensures.1 set))
