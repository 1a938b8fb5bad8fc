-- The facts of the tables, each kept as one row, the tables of facts, and what changes of facts lead to.
use Rattle.std.specs.Prelude.{Bool, not, List, [], ◌∷◌, filter}
use Rattle.std.specs.declared.cmp.Ordering.{Ordering}
use Rattle.std.specs.Ordering.{nat_cmp, is_eq, ordering_then}
use Rattle.std.specs.Cmp.Lexicographic.{slice_cmp}
use Rattle.iam_text.specs.Put.{put}
use Rattle.iam_types.specs.declared.fact.Fact.{Fact}
use Rattle.iam_types.specs.declared.fact.FactChange.{FactChange}
use Rattle.iam_types.specs.declared.fact.FactChange.TheVariants.{Put, Cut}
use Rattle.iam_types.specs.declared.node.Org.{Org}
use Rattle.iam_types.specs.declared.tables.Tables.{Tables}
use Rattle.iam_model.specs.Part.{AreApartBy, table_of}
use Rattle.iam_model.specs.Parts.{key_of, part_of, allow_part, bound_part, boundary_part, deny_part, edge_part, group_part, key_part, node_part, org_part, role_part, tag_part, value_part}
use Rattle.iam_model.specs.Sections.{Section, section, all_facts}

-- by part, then by key, in bytes
abbrev pub fact_order : Fact → Fact → Ordering
fact_order a b = ordering_then (slice_cmp nat_cmp (part_of a) (part_of b)) (slice_cmp nat_cmp (key_of a) (key_of b))

-- two facts of one part and key
abbrev pub same_place : Fact → Fact → Bool
same_place a b = is_eq (fact_order a b)

-- no two facts are of one part and key
abbrev pub AreApart : List Fact → Type 0
AreApart facts = AreApartBy fact_order facts

-- ---- the facts of tables

-- the parts in the order of their names, with these organisations in place of the tables' own
abbrev pub sections_with : List Org → Tables → List Section
sections_with orgs tables =
    section allow_part tables.allows
    ∷ section bound_part tables.bounds
    ∷ section boundary_part tables.boundaries
    ∷ section deny_part tables.denies
    ∷ section edge_part tables.edges
    ∷ section group_part tables.groups
    ∷ section key_part tables.keys
    ∷ section node_part tables.nodes
    ∷ section org_part orgs
    ∷ section role_part tables.roles
    ∷ section tag_part tables.tags
    ∷ section value_part tables.values
    ∷ []

-- the facts of the tables, part by part, each list of the tables in its order
abbrev pub facts_of : Tables → List Fact
facts_of tables = all_facts (sections_with (tables.org ∷ []) tables)

-- the tables of an organisation and of facts, each list in its order
abbrev pub tables_with : Org → List Fact → Tables
tables_with org facts = record {
  org = org;
  nodes = table_of node_part facts;
  keys = table_of key_part facts;
  values = table_of value_part facts;
  tags = table_of tag_part facts;
  groups = table_of group_part facts;
  edges = table_of edge_part facts;
  roles = table_of role_part facts;
  allows = table_of allow_part facts;
  denies = table_of deny_part facts;
  boundaries = table_of boundary_part facts;
  bounds = table_of bound_part facts;
}

-- ---- changes of facts

-- A fact is put in the place of its part and key, over the fact that stands there. A cut removes the fact that stands there.
abbrev pub with_change : List Fact → FactChange → List Fact
with_change facts (Put new) = put fact_order new facts
with_change facts (Cut old) = filter (λ fact. not (same_place old fact)) facts

-- one change after another
abbrev pub with_changes : List Fact → List FactChange → List Fact
with_changes facts [] = facts
with_changes facts (change ∷ changes) = with_changes (with_change facts change) changes
