-- The tables that facts give.
use Rattle.std.proofs.Common.{◌≡◌, ℕ, List, [], ◌∷◌, sym, ap, subst, ◌∙◌}
use Rattle.std.specs.Prelude.{◌↔◌, Contains}
use Rattle.std.specs.List.{All}
use Rattle.iam_text.specs.Put.{placed, IsInOrder}
use Rattle.iam_text.proofs.InOrder.{placed-IsInOrder}
use Rattle.iam_types.specs.declared.fact.Fact.{Fact}
use Rattle.iam_types.specs.declared.node.Org.{Org}
use Rattle.iam_types.specs.declared.tables.Tables.{Tables}
use Rattle.iam_model.specs.Broken.{GiveTables, IsFirstBroken, IsFirstBrokenBy, IsOnlyOrg}
use Rattle.iam_model.specs.Broken.IsFirstBroken.{one_org, apart as not_apart, tables as by_tables}
use Rattle.iam_model.specs.Broken.IsFirstBrokenBy.{parents, folders, active, numbers, policies, limits, sets}
use Rattle.iam_model.specs.Consistent.{Consistent, Keeps}
use Rattle.iam_model.specs.Facts.{AreApart, fact_order, facts_of, sections_with, tables_with}
use Rattle.iam_model.specs.Formed.{IsFact}
use Rattle.iam_model.specs.Part.{order_in, table_of}
use Rattle.iam_model.specs.Parts.{org_part}
use Rattle.iam_model.specs.Sections.{all_facts}
use Rattle.iam_model.proofs.Lists.{only_org}
use Rattle.iam_model.proofs.Parted.{fact_order_total}
use Rattle.iam_model.proofs.Parts.{given_back, same_head, tables_placed}
use Rattle.iam_model.proofs.Places.{placed_formed}
use Rattle.iam_model.proofs.Placing.{placed_from, placed_has, same_in_order}

-- the facts of the tables of facts are those in their places
pub tables_have_placed : (facts : List Fact) (org : Org) → IsOnlyOrg facts org → facts_of (tables_with org facts) ≡ placed fact_order facts
tables_have_placed facts org one =
    sym (tables_placed org facts ∙ ap (λ (orgs : List Org). all_facts (sections_with (placed (order_in org_part) orgs) (tables_with org facts))) one)

-- the tables of given facts are consistent
pub given_consistent : (facts : List Fact) (tables : Tables) → All IsFact facts → GiveTables facts tables → Consistent tables × (facts_of tables ≡ placed fact_order facts)
given_consistent facts tables formed given =
    let same : facts_of tables ≡ placed fact_order facts = ap facts_of given.lists ∙ tables_have_placed facts tables.org given.org in (
      record {
        formed = subst (λ (fs : List Fact). All IsFact fs) (sym same) (placed_formed facts formed);
        ordered = subst (λ (fs : List Fact). IsInOrder fact_order fs) (sym same) (placed-IsInOrder fact_order fact_order_total facts);
        keeps = given.keeps;
      },
      same,
    )

-- ---- facts that break a rule give no tables

broken_not_kept : (tables : Tables) (rule : ℕ) → Keeps tables → IsFirstBrokenBy tables rule → ⊥
broken_not_kept tables rule keeps (parents broken) = broken keeps.hierarchy.parents
broken_not_kept tables rule keeps (folders lead broken) = broken keeps.hierarchy.folders
broken_not_kept tables rule keeps (active lead fit broken) = broken keeps.hierarchy.active
broken_not_kept tables rule keeps (numbers hierarchy broken) = broken keeps.numbers
broken_not_kept tables rule keeps (policies hierarchy fit broken) = broken keeps.policies
broken_not_kept tables rule keeps (limits hierarchy fit stand broken) = broken keeps.limits
broken_not_kept tables rule keeps (sets hierarchy fit stand within broken) = broken keeps.sets

pub broken_give_none : (facts : List Fact) (tables : Tables) (rule : ℕ) → GiveTables facts tables → IsFirstBroken facts rule → ⊥
broken_give_none facts tables rule given (one_org broken) = broken (tables.org, given.org)
broken_give_none facts tables rule given (not_apart one broken) = broken given.apart
broken_give_none facts tables rule given (by_tables {org} one apart broken) =
    let same : tables.org ≡ org = same_head tables.org org (sym given.org ∙ one) in
    broken_not_kept (tables_with org facts) rule (subst Keeps (given.lists ∙ ap (λ (o : Org). tables_with o facts) same) given.keeps) broken

-- ---- facts in any order give the tables

pub consistent_given : (facts : List Fact) (tables : Tables) → Consistent tables → AreApart facts → ((fact : Fact) → Contains facts fact ↔ Contains (facts_of tables) fact) → GiveTables facts tables
consistent_given facts tables consistent apart same =
    let in_place : placed fact_order facts ≡ facts_of tables =
    same_in_order fact_order fact_order_total (placed fact_order facts) (facts_of tables) (placed-IsInOrder fact_order fact_order_total facts) consistent.ordered
    (λ fact there. (same fact).0 (placed_from fact_order facts fact there)) (λ fact there. placed_has fact_order facts fact apart ((same fact).1 there)) in
    let back : (table_of org_part facts ≡ tables.org ∷ []) × (tables ≡ tables_with tables.org facts) = given_back facts tables in_place in
    record { org = only_org facts tables.org apart back.0; apart = apart; lists = back.1; keeps = consistent.keeps }
