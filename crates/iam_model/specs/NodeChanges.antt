-- The renaming, the deletion and the undeletion of folders and projects.
use Rattle.std.specs.Prelude.{◌≡◌, ◌≢◌, ℕ, ◌+◌, true, false, not, ◌||◌, cond, List, [], ◌∷◌, None}
use Rattle.std.specs.declared.option.Option.{Option}
use Rattle.std.specs.Option.{option_map_or}
use Rattle.iam_text.specs.Put.{put}
use Rattle.iam_names.specs.Display.{IsFolderDisplay}
use Rattle.iam_names.specs.Node.{IsNodeName, node_text}
use Rattle.iam_names.specs.declared.node.NodeKind.TheVariants.{Organization, Folder}
use Rattle.iam_names.specs.declared.node.NodeName.{NodeName}
use Rattle.iam_types.specs.declared.fact.Fact.TheVariants as fact
use Rattle.iam_types.specs.declared.fact.FactChange.{FactChange}
use Rattle.iam_types.specs.declared.fact.FactChange.TheVariants.{Put}
use Rattle.iam_types.specs.declared.node.Node.{Node}
use Rattle.iam_types.specs.declared.refusal.Fault.TheVariants.{NotEmpty}
use Rattle.iam_types.specs.declared.refusal.LimitName.TheVariants.{ChildFolders}
use Rattle.iam_types.specs.declared.refusal.Refusal.{Refusal}
use Rattle.iam_types.specs.declared.refusal.Refusal.TheVariants.{Hierarchy, NotActive}
use Rattle.iam_types.specs.declared.tables.Tables.{Tables}
use Rattle.iam_model.specs.Creation.{taken_name}
use Rattle.iam_model.specs.Hierarchy.{count_folders}
use Rattle.iam_model.specs.Limits.{beyond}
use Rattle.iam_model.specs.Meaning.{Meaning}
use Rattle.iam_model.specs.Nodes.{has_active_child, is_active, is_folder, kind_named, row_named}
use Rattle.iam_model.specs.Part.{order_in}
use Rattle.iam_model.specs.Parts.{node_part}
use Rattle.iam_model.specs.Refusals.{refused_if}
use Rattle.iam_model.specs.Shared.{changed, inactive, many_changes, missing, with_row}

-- ---- what it leads to

abbrev pub renamed : List ℕ → Node → Node
renamed display node = record node { display = display }

abbrev pub deleted : Node → Node
deleted node = record node { active = false }

abbrev pub undeleted : Node → Node
undeleted node = record node { active = true }

-- the rows with this one over that of its node
unfoldable pub replaced : Node → List Node → List Node
replaced node nodes = put (order_in node_part) node nodes

abbrev pub with_node_replaced : Tables → Node → Tables
with_node_replaced tables node = record tables { org = changed tables.org; nodes = replaced node tables.nodes }

-- the node is put, and the organisation with one more change
abbrev pub replaced_changes : Tables → Node → List FactChange
replaced_changes tables node = Put (fact.Node node) ∷ Put (fact.Org (changed tables.org)) ∷ []

-- the row of a name becomes another
abbrev pub with_row_made : (Node → Node) → Tables → NodeName → Tables
with_row_made made tables name = option_map_or (λ node. with_node_replaced tables (made node)) (row_named tables name) tables

abbrev pub changes_made : (Node → Node) → Tables → NodeName → List FactChange
changes_made made tables name = option_map_or (λ node. replaced_changes tables (made node)) (row_named tables name) []

-- ---- what is refused

-- it is ACTIVE, or its parent isn't
abbrev pub not_deleted : Tables → NodeName → Node → Option Refusal
not_deleted tables name node = refused_if (node.active || not (is_active tables.nodes node.parent)) (NotActive (node_text name))

-- something ACTIVE stands below it
abbrev pub not_empty : Tables → Node → Option Refusal
not_empty tables node = refused_if (has_active_child tables.nodes node.id) (Hierarchy 0 0 NotEmpty)

-- as an ACTIVE folder it is one too many below its parent
abbrev pub many_folders : Tables → Node → Option Refusal
many_folders tables node = cond (is_folder node.id) (beyond (count_folders tables.nodes node.parent + 1) ChildFolders) None

-- ---- what it means

abbrev pub rename_folder : NodeName → List ℕ → Meaning
rename_folder name display = record {
  given = IsNodeName name × (kind_named name ≡ Folder) × IsFolderDisplay display;
  rules = λ moment tables. record {
    names = missing tables name ∷ [];
    active = with_row tables name (λ node. inactive tables name node.id ∷ []);
    fresh = [];
    early = [];
    middle = [];
    late = with_row tables name (λ node. many_changes tables ∷ taken_name tables.nodes (renamed display node) ∷ []);
  };
  after = λ moment tables. with_row_made (renamed display) tables name;
  changes = λ moment tables. changes_made (renamed display) tables name;
}

abbrev pub delete_node : NodeName → Meaning
delete_node name = record {
  given = IsNodeName name × (kind_named name ≢ Organization);
  rules = λ moment tables. record {
    names = missing tables name ∷ [];
    active = with_row tables name (λ node. inactive tables name node.id ∷ []);
    fresh = [];
    early = [];
    middle = [];
    late = with_row tables name (λ node. many_changes tables ∷ not_empty tables node ∷ []);
  };
  after = λ moment tables. with_row_made deleted tables name;
  changes = λ moment tables. changes_made deleted tables name;
}

abbrev pub undelete_node : NodeName → Meaning
undelete_node name = record {
  given = IsNodeName name × (kind_named name ≢ Organization);
  rules = λ moment tables. record {
    names = missing tables name ∷ [];
    active = with_row tables name (λ node. not_deleted tables name node ∷ []);
    fresh = [];
    early = [];
    middle = [];
    late = with_row tables name (λ node. many_folders tables node ∷ many_changes tables ∷ taken_name tables.nodes (undeleted node) ∷ []);
  };
  after = λ moment tables. with_row_made undeleted tables name;
  changes = λ moment tables. changes_made undeleted tables name;
}
