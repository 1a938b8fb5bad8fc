use Rattle.std.proofs.Common.{◌≡◌, Bor, Option, subst, ◌∙◌}
use Rattle.std.specs.Prelude.{IfNone}
use Rattle.std.proofs.lemmas.Bool.{both_ways}
use Rattle.iam_types.specs.declared.node.Org.{Org}
use Rattle.iam_model.specs.Broken.{HasOneOrg, IsFirstBroken}
use Rattle.iam_model.specs.Broken.IsFirstBroken.{one_org, apart as not_apart}
use Rattle.iam_model.specs.Facts.{AreApart, tables_with}
use Rattle.iam_tables.proofs.Parts.{all_placed, broken_later, given}
use Rattle.iam_tables.proofs.given.tables_of.Goals as goal

pub are_apart-requires : goal.are_apart-requires
are_apart-requires c =
    all_placed c.args.facts.now c.in-Some.org.now c.as_slice.result.now c.as_slice-2.result.now (c.nothing_else_is_given.ensures c.args.facts.now c.in-Some.org.now c.requires)
    (c.tables_have_placed_facts.ensures c.args.facts.now c.in-Some.org.now c.in-Some.ensures.one)
    (c.as_slice.ensures ∙ c.in_ok-nodes.ensures) (c.as_slice-2.ensures ∙ c.in_ok-allows.ensures)

pub returns-in-Some-2-clause-broken : goal.returns-in-Some-2-clause-broken
returns-in-Some-2-clause-broken c = λ rule is.
    let same : c.in-Some-2.rule ≡ rule = cc in
    let apart : AreApart c.args.facts.now = c.are_apart.ensures.0 c.if-not-are_apart.false in
    let are : c.in_ok-tables.tables ≡ tables_with c.in-Some.org.now c.args.facts.now = c.in_ok-tables.ensures c.args.facts.now c.requires c.in_ok-nodes.ensures c.in_ok-allows.ensures in
    subst (IsFirstBroken c.args.facts.now) same
    (broken_later c.args.facts.now c.in-Some.org.now c.in_ok-tables.tables c.in_ok-rule.field-0 c.in-Some-2.rule c.in-Some.ensures.one apart are c.in-Some-2.is c.in_ok-rule.ensures.broken)

pub returns-in-None-clause-consistent : goal.returns-in-None-clause-consistent
returns-in-None-clause-consistent c =
    let apart : AreApart c.args.facts.now = c.are_apart.ensures.0 c.if-not-are_apart.false in
    let are : c.in_ok-tables.tables ≡ tables_with c.in-Some.org.now c.args.facts.now = c.in_ok-tables.ensures c.args.facts.now c.requires c.in_ok-nodes.ensures c.in_ok-allows.ensures in
    let gives = given c.args.facts.now c.in-Some.org.now c.in_ok-tables.tables c.in_ok-rule.field-0 c.in-Some.ensures.one apart are c.in-None.is c.in_ok-rule.ensures.kept in
    (c.given_tables_are_consistent.ensures c.args.facts.now c.in_ok-tables.tables c.requires gives).0

pub returns-in_default-clause-broken : goal.returns-in_default-clause-broken
returns-in_default-clause-broken c = λ rule is.
    let same : 1 ≡ rule = cc in
    let none : ¬ HasOneOrg c.args.facts.now = subst (λ (found : Option (Bor Org)). IfNone found (¬ HasOneOrg c.args.facts.now)) c.in_default.is c.only_org.ensures.other in
    subst (IsFirstBroken c.args.facts.now) same (one_org none)

pub returns-then-not-are_apart-clause-broken : goal.returns-then-not-are_apart-clause-broken
returns-then-not-are_apart-clause-broken c = λ rule is.
    let same : 2 ≡ rule = cc in
    subst (IsFirstBroken c.args.facts.now) same
    (not_apart (c.in-Some.org.now, c.in-Some.ensures.one) (λ apart. both_ways c.are_apart.result c.if-not-are_apart.true (c.are_apart.ensures.1 apart)))
