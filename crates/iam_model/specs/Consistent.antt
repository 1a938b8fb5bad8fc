-- What holds of the tables at every moment, whatever conditions are, a rule each.
use Rattle.std.specs.Prelude.{◌≡◌, ◌<◌, ◌≤◌, true, [], All, length}
use Rattle.iam_text.specs.Put.{IsInOrder}
use Rattle.iam_types.specs.declared.refusal.LimitName.TheVariants.{PolicyMembers, PolicyGroups, ChildFolders, Nodes, Members, Changes}
use Rattle.iam_types.specs.declared.tables.Tables.{Tables}
use Rattle.iam_model.specs.Facts.{fact_order, facts_of}
use Rattle.iam_model.specs.Formed.{IsFact}
use Rattle.iam_model.specs.Hierarchy.{LeadsUp, are_namesakes, count_folders, is_alone, is_below_active, is_shallow, share_number, share_project_id}
use Rattle.iam_model.specs.Limits.{limit_of}
use Rattle.iam_model.specs.Nodes.{exists}
use Rattle.iam_model.specs.Policies.{count_all_members, count_groups, count_members, is_role}

-- each node's parents lead to the organisation through folders
abbrev pub ParentsLead : Tables → Type 0
ParentsLead tables = All (λ node. LeadsUp tables node.parent) tables.nodes

-- no folder is too deep, and ACTIVE folders with one parent have different names
pub record FoldersFit (tables : Tables) : Type 0 where
  pub depths : All (λ node. is_shallow tables.nodes node ≡ true) tables.nodes
  pub names : All (λ node. is_alone are_namesakes tables.nodes node ≡ true) tables.nodes

-- an ACTIVE node's parent is ACTIVE, or the organisation
abbrev pub ParentsAreActive : Tables → Type 0
ParentsAreActive tables = All (λ node. is_below_active tables.nodes node ≡ true) tables.nodes

pub record HierarchyStands (tables : Tables) : Type 0 where
  pub parents : ParentsLead tables
  pub folders : FoldersFit tables
  pub active : ParentsAreActive tables

-- Projects have different ids. Nodes have different numbers, from 1 and below the next, which is no lower than 1; each number before
-- it was given by a change.
pub record NumbersFit (tables : Tables) : Type 0 where
  pub projects : All (λ node. is_alone share_project_id tables.nodes node ≡ true) tables.nodes
  pub nodes : All (λ node. is_alone share_number tables.nodes node ≡ true) tables.nodes
  pub given : All (λ node. (1 ≤ node.id.number) × (node.id.number < tables.org.next)) tables.nodes
  pub first : 1 ≤ tables.org.next
  pub last : tables.org.next ≤ tables.org.changes

-- each policy's node exists, and so do its roles
pub record PoliciesStand (tables : Tables) : Type 0 where
  pub nodes : All (λ policy. exists tables policy.node ≡ true) tables.allows
  pub roles : All (λ policy. All (λ binding. is_role tables binding.role ≡ true) policy.bindings) tables.allows

pub record WithinLimits (tables : Tables) : Type 0 where
  pub policies : All (λ policy. count_members policy.bindings ≤ limit_of PolicyMembers) tables.allows
  pub groups : All (λ policy. count_groups policy.bindings ≤ limit_of PolicyGroups) tables.allows
  pub folders : All (λ node. count_folders tables.nodes node.parent ≤ limit_of ChildFolders) tables.nodes
  pub nodes : length tables.nodes ≤ limit_of Nodes
  pub members : count_all_members tables.allows ≤ limit_of Members
  pub changes : tables.org.changes ≤ limit_of Changes

-- each policy was set by a change
abbrev pub SetByChanges : Tables → Type 0
SetByChanges tables = All (λ policy. (1 ≤ policy.set) × (policy.set ≤ tables.org.changes)) tables.allows

-- The rules that are about more than one fact. The others are about things that can't be stored yet.
pub record Keeps (tables : Tables) : Type 0 where
  pub hierarchy : HierarchyStands tables
  pub numbers : NumbersFit tables
  pub policies : PoliciesStand tables
  pub limits : WithinLimits tables
  pub sets : SetByChanges tables

-- each fact is well formed, each list is in its order with at most one row in a place, and the tables keep the rules
pub record Consistent (tables : Tables) : Type 0 where
  pub formed : All IsFact (facts_of tables)
  pub ordered : IsInOrder fact_order (facts_of tables)
  pub keeps : Keeps tables

-- Kinds of things that no command makes yet. Their facts are never well formed, so consistent tables have none.
pub record NothingElse (tables : Tables) : Type 0 where
  pub bounds : tables.bounds ≡ []
  pub boundaries : tables.boundaries ≡ []
  pub denies : tables.denies ≡ []
  pub edges : tables.edges ≡ []
  pub groups : tables.groups ≡ []
  pub keys : tables.keys ≡ []
  pub roles : tables.roles ≡ []
  pub tags : tables.tags ≡ []
  pub values : tables.values ≡ []
