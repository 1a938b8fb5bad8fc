-- Folders and projects that are renamed, deleted and undeleted keep the tables consistent.
use Rattle.std.proofs.Common.{◌≡◌, ◌⊎◌, inl, inr, ℕ, ◌+◌, ◌<◌, ◌≤◌, Bool, true, false, not, ◌&&◌, ◌||◌, cond, List, [], ◌∷◌, length, Some, None, refl, sym, ap, subst, ◌∙◌, arith}
use Rattle.std.specs.Prelude.{◌≢◌, nat_le, Contains}
use Rattle.std.specs.List.{All, list_any}
use Rattle.std.specs.Option.{option_map_or}
use Rattle.std.specs.declared.option.Option.{Option}
use Rattle.std.proofs.lemmas.Bool.{and_left, and_right, both_ways, cases_Bool, false_from_ne_true, not-false, not-true, not_from_false, or_cases, or_left, or_parts, or_right}
use Rattle.std.proofs.lemmas.Cmp.{nat_list_cmp_total, tied_itself}
use Rattle.std.proofs.lemmas.List.Elements.{All-cons, All-contains, All-nil, All-weaker}
use Rattle.iam_text.specs.declared.moment.Moment.{Moment}
use Rattle.iam_names.specs.Display.{IsFolderDisplay}
use Rattle.iam_names.specs.Node.{node_text}
use Rattle.iam_names.specs.declared.node.NodeId.{NodeId}
use Rattle.iam_names.specs.declared.node.NodeKind.{NodeKind}
use Rattle.iam_names.specs.declared.node.NodeKind.TheVariants.{Organization as AnOrganization, Folder as AFolder, Project as AProject}
use Rattle.iam_names.specs.declared.node.NodeName.{NodeName}
use Rattle.iam_names.specs.declared.node.NodeName.TheVariants.{Organization, Folder, ProjectNumber, ProjectId}
use Rattle.iam_types.specs.declared.allow.AllowPolicy.{AllowPolicy}
use Rattle.iam_types.specs.declared.fact.Fact.TheVariants as fact
use Rattle.iam_types.specs.declared.fact.FactChange.TheVariants.{Put}
use Rattle.iam_types.specs.declared.node.Node.{Node}
use Rattle.iam_types.specs.declared.refusal.Fault.TheVariants.{NotEmpty, SiblingName}
use Rattle.iam_types.specs.declared.refusal.LimitName.TheVariants.{ChildFolders, Changes}
use Rattle.iam_types.specs.declared.refusal.Refusal.{Refusal}
use Rattle.iam_types.specs.declared.refusal.Refusal.TheVariants.{Hierarchy, NotActive}
use Rattle.iam_types.specs.declared.tables.Tables.{Tables}
use Rattle.iam_model.specs.Consistent.{Consistent, HierarchyStands, Keeps, NumbersFit}
use Rattle.iam_model.specs.Creation.{taken_name}
use Rattle.iam_model.specs.Facts.{facts_of, with_changes}
use Rattle.iam_model.specs.Formed.{HasNodeForm, IsChange, IsNodeFact}
use Rattle.iam_model.specs.Hierarchy.{LeadsUp, are_different, are_namesakes, count_folders, deepest, is_alone, is_below_active, is_shallow, share_number, share_project_id}
use Rattle.iam_model.specs.Limits.{beyond, limit_of}
use Rattle.iam_model.specs.NodeChanges.{changes_made, delete_node, deleted, many_folders, not_deleted, not_empty, rename_folder, renamed, replaced, replaced_changes, undelete_node, undeleted, with_node_replaced, with_row_made}
use Rattle.iam_model.specs.Nodes.{exists, found_node, has_active_child, has_project_id, is_active, is_active_child, is_folder, kind_named, row_named, way_up}
use Rattle.iam_model.specs.Parts.{org_part}
use Rattle.iam_model.specs.Refusals.{first_of, first_refusal, nothing_asked}
use Rattle.iam_model.specs.Same.{same_kind, same_node}
use Rattle.iam_model.specs.Shared.{changed, inactive, many_changes, missing, with_row}
use Rattle.iam_model.proofs.Added.{different_of, folder_of, namesakes_back, numbers_back, projects_back}
use Rattle.iam_model.proofs.Existing.{not_missing, not_refused, row_exists}
use Rattle.iam_model.proofs.Finding.{All-both, All-of, find-Contains, find-passes, none_passes}
use Rattle.iam_model.proofs.Fitting.{Fine, Leads, changed_formed, fine, first_of-None, node_put, within_limit}
use Rattle.iam_model.proofs.KeepCreation.{folders_few}
use Rattle.iam_model.proofs.Lists.{nodes_formed}
use Rattle.iam_model.proofs.Over.{Over, count_over, length_over}
use Rattle.iam_model.proofs.Replaced.{All-replaced, active_elsewhere, active_same, active_still, alone_replaced, exists_same, led_same, parent_same, remade, replaced_over, way_same}
use Rattle.iam_model.proofs.Sameness.{other_node-back, same_node-itself, same_node-true}

-- What acceptance gives of a row that is made another.
record MayBecome (tables : Tables) (old : Node) (display : List ℕ) (active : Bool) : Type 0 where
  there : Contains tables.nodes old
  formed : IsNodeFact (remade old display active)
  names : All (λ row. are_namesakes (remade old display active) row ≡ false) tables.nodes
  parents : All (λ row. is_below_active (replaced (remade old display active) tables.nodes) row ≡ true) tables.nodes
  parent : is_below_active (replaced (remade old display active) tables.nodes) (remade old display active) ≡ true
  folders : count_folders (replaced (remade old display active) tables.nodes) old.parent ≤ limit_of ChildFolders
  changes : tables.org.changes + 1 ≤ limit_of Changes

-- ---- the rules

parents_same : (tables : Tables) (old : Node) (display : List ℕ) (active : Bool) → Consistent tables → Contains tables.nodes old → (at : NodeId) → way_up (replaced (remade old display active) tables.nodes) at ≡ way_up tables.nodes at
parents_same tables old display active consistent there =
    way_same tables.nodes (replaced (remade old display active) tables.nodes) (parent_same old display active tables.nodes (replaced (remade old display active) tables.nodes) (replaced_over tables old display active consistent there))

hierarchy_kept : (tables : Tables) (old : Node) (display : List ℕ) (active : Bool) → Consistent tables → MayBecome tables old display active → HierarchyStands (with_node_replaced tables (remade old display active))
hierarchy_kept tables old display active consistent may =
    let was = consistent.keeps.hierarchy in
    let new : Node = remade old display active in
    let next : List Node = replaced new tables.nodes in
    record {
      parents = All-replaced (λ (row : Node). LeadsUp (with_node_replaced tables new) row.parent) new tables.nodes
          (leads old.parent (All-contains (λ (row : Node). LeadsUp tables row.parent) tables.nodes old was.parents may.there))
          (All-weaker (λ (row : Node). LeadsUp tables row.parent) (λ (row : Node). LeadsUp (with_node_replaced tables new) row.parent) (λ row. leads row.parent) tables.nodes was.parents);
      folders = record {
        depths = All-replaced (λ (row : Node). is_shallow next row ≡ true) new tables.nodes
            (shallow old (All-contains (λ (row : Node). is_shallow tables.nodes row ≡ true) tables.nodes old was.folders.depths may.there))
            (All-weaker (λ (row : Node). is_shallow tables.nodes row ≡ true) (λ (row : Node). is_shallow next row ≡ true) shallow tables.nodes was.folders.depths);
        names = alone_replaced are_namesakes namesakes_back new tables.nodes itself may.names was.folders.names;
      };
      active = All-replaced (λ (row : Node). is_below_active next row ≡ true) new tables.nodes may.parent may.parents;
    }
  where
    leads : (at : NodeId) → LeadsUp tables at → LeadsUp (with_node_replaced tables (remade old display active)) at
    leads at up =
        let next : List Node = replaced (remade old display active) tables.nodes in
        (up.0, led_same _ tables.nodes next (parent_same old display active tables.nodes next (replaced_over tables old display active consistent may.there)) up.0 at ∙ up.1)

    shallow : (row : Node) → is_shallow tables.nodes row ≡ true → is_shallow (replaced (remade old display active) tables.nodes) row ≡ true
    shallow row is = subst (λ (up : List NodeId). (not (is_folder row.id) || nat_le (length up) deepest) ≡ true) (sym (parents_same tables old display active consistent may.there row.parent)) is

    itself : are_namesakes (remade old display active) (remade old display active) ≡ false
    itself = false_from_ne_true _ (λ is. both_ways (are_different old old) (ap not (same_node-itself old.id)) (different_of (remade old display active) (remade old display active) is))

numbers_kept : (tables : Tables) (old : Node) (display : List ℕ) (active : Bool) → Consistent tables → Contains tables.nodes old → NumbersFit (with_node_replaced tables (remade old display active))
numbers_kept tables old display active consistent there =
    let was = consistent.keeps.numbers in
    let new : Node = remade old display active in
    record {
      projects = alone_replaced share_project_id projects_back new tables.nodes (and_left (are_different old old) _ (ap not (same_node-itself old.id))) (others share_project_id was.projects) was.projects;
      nodes = alone_replaced share_number numbers_back new tables.nodes (and_left (are_different old old) _ (ap not (same_node-itself old.id))) (others share_number was.nodes) was.nodes;
      given = All-replaced (λ (row : Node). (1 ≤ row.id.number) × (row.id.number < tables.org.next)) new tables.nodes (All-contains (λ (row : Node). (1 ≤ row.id.number) × (row.id.number < tables.org.next)) tables.nodes old was.given there) was.given;
      first = was.first;
      last = omega (arith, was.last);
    }
  where
    others : (alike : Node → Node → Bool) → All (λ row. is_alone alike tables.nodes row ≡ true) tables.nodes → All (λ row. alike old row ≡ false) tables.nodes
    others alike all = none_passes (alike old) tables.nodes (not-true (list_any (alike old) tables.nodes) (All-contains (λ (row : Node). is_alone alike tables.nodes row ≡ true) tables.nodes old all there))

-- how many folders a parent has then
folders_then : (tables : Tables) (old : Node) (display : List ℕ) (active : Bool) (parent : NodeId) → Consistent tables → Contains tables.nodes old
    → count_folders (replaced (remade old display active) tables.nodes) parent + cond (is_active_child AFolder parent old) 1 0 ≡ count_folders tables.nodes parent + cond (is_active_child AFolder parent (remade old display active)) 1 0
folders_then tables old display active parent consistent there =
    count_over (is_active_child AFolder parent) old (remade old display active) tables.nodes (replaced (remade old display active) tables.nodes) (replaced_over tables old display active consistent there)

-- where the row is no ACTIVE folder below it, no more
folders_no_more : (tables : Tables) (old : Node) (display : List ℕ) (active : Bool) (parent : NodeId) → Consistent tables → Contains tables.nodes old → is_active_child AFolder parent (remade old display active) ≡ false
    → count_folders (replaced (remade old display active) tables.nodes) parent ≤ limit_of ChildFolders
folders_no_more tables old display active parent consistent there none =
    let few : count_folders tables.nodes parent ≤ 300 = folders_few tables parent consistent in
    let counted : count_folders (replaced (remade old display active) tables.nodes) parent + cond (is_active_child AFolder parent old) 1 0 ≡ count_folders tables.nodes parent + 0 =
    folders_then tables old display active parent consistent there ∙ ap (λ b. count_folders tables.nodes parent + cond b 1 0) none in
    omega (arith, few, counted)

folders_kept : (tables : Tables) (old : Node) (display : List ℕ) (active : Bool) (parent : NodeId) → Consistent tables → MayBecome tables old display active → count_folders (replaced (remade old display active) tables.nodes) parent ≤ limit_of ChildFolders
folders_kept tables old display active parent consistent may = elim (cases_Bool (same_node old.parent parent)) [
  | inl is ↦ subst (λ (p : NodeId). count_folders (replaced (remade old display active) tables.nodes) p ≤ limit_of ChildFolders) (same_node-true old.parent parent is) may.folders
  | inr other ↦ folders_no_more tables old display active parent consistent may.there (and_right (active && same_kind old.id.kind AFolder) (same_node old.parent parent) other)
]

replaced_keeps : (tables : Tables) (old : Node) (display : List ℕ) (active : Bool) → Consistent tables → MayBecome tables old display active → Keeps (with_node_replaced tables (remade old display active))
replaced_keeps tables old display active consistent may =
    let keeps = consistent.keeps in
    let new : Node = remade old display active in
    let next : List Node = replaced new tables.nodes in
    let long : length next ≡ length tables.nodes = length_over old new tables.nodes next (replaced_over tables old display active consistent may.there) in
    let few : length tables.nodes ≤ 10000 = keeps.limits.nodes in
    record {
      hierarchy = hierarchy_kept tables old display active consistent may;
      numbers = numbers_kept tables old display active consistent may.there;
      policies = record {
        nodes = All-weaker (λ (policy : AllowPolicy). exists tables policy.node ≡ true) (λ (policy : AllowPolicy). exists (with_node_replaced tables new) policy.node ≡ true) (λ policy is. exists_same tables old display active consistent may.there policy.node ∙ is) tables.allows keeps.policies.nodes;
        roles = keeps.policies.roles;
      };
      limits = record {
        policies = keeps.limits.policies;
        groups = keeps.limits.groups;
        folders = All-of (λ (row : Node). count_folders next row.parent ≤ limit_of ChildFolders) (λ row. folders_kept tables old display active row.parent consistent may) next;
        nodes = omega (arith, long, few);
        members = keeps.limits.members;
        changes = may.changes;
      };
      sets = All-weaker (λ (policy : AllowPolicy). (1 ≤ policy.set) × (policy.set ≤ tables.org.changes)) (λ (policy : AllowPolicy). (1 ≤ policy.set) × (policy.set ≤ tables.org.changes + 1)) (λ policy set. (set.0, omega (arith, set.1))) tables.allows keeps.sets;
    }

replaced_leads : (tables : Tables) (node : Node) → with_changes (facts_of tables) (replaced_changes tables node) ≡ facts_of (with_node_replaced tables node)
unfolding replaced
replaced_leads tables node = node_put tables node (changed tables.org) (tied_itself nat_list_cmp_total (org_part.key tables.org))

leads_there : (tables : Tables) (old : Node) (display : List ℕ) (active : Bool) → Consistent tables → MayBecome tables old display active → Leads tables (replaced_changes tables (remade old display active)) (with_node_replaced tables (remade old display active))
leads_there tables old display active consistent may = record {
  formed = All-cons IsChange (Put (fact.Node (remade old display active))) (Put (fact.Org (changed tables.org)) ∷ []) may.formed
      (All-cons IsChange (Put (fact.Org (changed tables.org))) [] (changed_formed tables consistent) (All-nil IsChange));
  leads = replaced_leads tables (remade old display active);
  keeps = replaced_keeps tables old display active consistent may;
  counted = refl;
}

-- ---- rows of names

-- the row of a name is one of the rows
row_there : (tables : Tables) (name : NodeName) (node : Node) → row_named tables name ≡ Some node → Contains tables.nodes node
row_there tables (Organization number) node is = absurd (cc)
row_there tables (Folder number) node is = find-Contains (λ (row : Node). same_node row.id (record { kind = AFolder; number = number })) tables.nodes node is
row_there tables (ProjectNumber number) node is = find-Contains (λ (row : Node). same_node row.id (record { kind = AProject; number = number })) tables.nodes node is
row_there tables (ProjectId id) node is = find-Contains (has_project_id id) tables.nodes node is

pub named_row_exists : (tables : Tables) (name : NodeName) (node : Node) → row_named tables name ≡ Some node → exists tables node.id ≡ true
named_row_exists tables name node is = row_exists tables node (row_there tables name node is)

-- a name of a folder or a project that has no row is missing
no_row : (tables : Tables) (name : NodeName) → kind_named name ≢ AnOrganization → row_named tables name ≡ None → missing tables name ≡ None → ⊥
no_row tables (Organization number) other is fine = other refl
no_row tables (Folder number) other is fine = not_missing tables (Folder number) (ap found_node is) fine
no_row tables (ProjectNumber number) other is fine = not_missing tables (ProjectNumber number) (ap found_node is) fine
no_row tables (ProjectId id) other is fine = not_missing tables (ProjectId id) (ap found_node is) fine

-- the row of a folder's name is a folder's
row_is_folder : (tables : Tables) (name : NodeName) (node : Node) → kind_named name ≡ AFolder → row_named tables name ≡ Some node → node.id.kind ≡ AFolder
row_is_folder tables (Organization number) node folder is = absurd (cc)
row_is_folder tables (Folder number) node folder is =
    ap (λ (id : NodeId). id.kind) (same_node-true node.id (record { kind = AFolder; number = number }) (find-passes (λ (row : Node). same_node row.id (record { kind = AFolder; number = number })) tables.nodes node is))
row_is_folder tables (ProjectNumber number) node folder is = absurd (cc)
row_is_folder tables (ProjectId id) node folder is = absurd (cc)

row_formed : (tables : Tables) (node : Node) → Consistent tables → Contains tables.nodes node → IsNodeFact node
row_formed tables node consistent there = All-contains IsNodeFact tables.nodes node (nodes_formed tables consistent) there

-- with another state it is well formed
state_formed : (tables : Tables) (node : Node) (active : Bool) → Consistent tables → Contains tables.nodes node → IsNodeFact (remade node node.display active)
state_formed tables node active consistent there = let formed : IsNodeFact node = row_formed tables node consistent there in record { id = formed.id; parent = formed.parent; form = formed.form }

-- what a fitting command on a node leads to
fitting_row : (tables : Tables) (name : NodeName) (made : Node → Node) → kind_named name ≢ AnOrganization → missing tables name ≡ None → (active late : Node → List (Option Refusal))
    → first_of (with_row tables name active) ≡ None → first_of (with_row tables name late) ≡ None
    → ((node : Node) → row_named tables name ≡ Some node → first_of (active node) ≡ None → first_of (late node) ≡ None → Leads tables (replaced_changes tables (made node)) (with_node_replaced tables (made node)))
    → Leads tables (changes_made made tables name) (with_row_made made tables name)
fitting_row tables name made other there active late live fits leads = go (row_named tables name) refl live fits
  where
    go : (found : Option Node) → row_named tables name ≡ found → first_of (option_map_or active found []) ≡ None → first_of (option_map_or late found []) ≡ None
        → Leads tables (option_map_or (λ (node : Node). replaced_changes tables (made node)) found []) (option_map_or (λ (node : Node). with_node_replaced tables (made node)) found tables)
    go None is live fits = absurd (no_row tables name other is there)
    go (Some node) is live fits = leads node is live fits

-- a name that no other has is nobody's
own_name : (nodes : List Node) (node : Node) → taken_name nodes node ≡ None → All (λ row. are_namesakes node row ≡ false) nodes
own_name nodes node free =
    none_passes (are_namesakes node) nodes (not-true (list_any (are_namesakes node) nodes) (not-false (is_alone are_namesakes nodes node) (not_refused (not (is_alone are_namesakes nodes node)) (Hierarchy 0 0 SiblingName) free)))

-- ---- a renamed folder

folder_shown : (kind : NodeKind) (old new : List ℕ) (project : Option (List ℕ)) → kind ≡ AFolder → HasNodeForm kind old project → IsFolderDisplay new → HasNodeForm kind new project
folder_shown AnOrganization old new project is form shown = absurd form
folder_shown AFolder old new None is form shown = shown
folder_shown AFolder old new (Some id) is form shown = absurd form
folder_shown AProject old new project is form shown = absurd (cc)

renamed_stands : (tables : Tables) (node : Node) (display : List ℕ) → Consistent tables → Contains tables.nodes node → node.id.kind ≡ AFolder → IsFolderDisplay display
    → first_of (many_changes tables ∷ taken_name tables.nodes (renamed display node) ∷ []) ≡ None → MayBecome tables node display node.active
renamed_stands tables node display consistent there folder shown late =
    let changes = first_of-None _ _ late in
    let name = first_of-None _ _ changes.1 in
    let next : List Node = replaced (remade node display node.active) tables.nodes in
    let over : Over node (remade node display node.active) tables.nodes next = replaced_over tables node display node.active consistent there in
    let formed : IsNodeFact node = row_formed tables node consistent there in
    let was : All (λ (row : Node). is_below_active tables.nodes row ≡ true) tables.nodes = consistent.keeps.hierarchy.active in
    let few : count_folders tables.nodes node.parent ≤ 300 = folders_few tables node.parent consistent in
    let counted : count_folders next node.parent + cond (is_active_child AFolder node.parent node) 1 0 ≡ count_folders tables.nodes node.parent + cond (is_active_child AFolder node.parent node) 1 0 = folders_then tables node display node.active node.parent consistent there in
    record {
      there = there;
      formed = record { id = formed.id; parent = formed.parent; form = folder_shown node.id.kind node.display display node.project folder formed.form shown };
      names = own_name tables.nodes (renamed display node) name.0;
      parents = All-weaker (λ (row : Node). is_below_active tables.nodes row ≡ true) (λ (row : Node). is_below_active next row ≡ true) (λ row is. below row is) tables.nodes was;
      parent = below node (All-contains (λ (row : Node). is_below_active tables.nodes row ≡ true) tables.nodes node was there);
      folders = omega (arith, few, counted);
      changes = within_limit (tables.org.changes + 1) Changes changes.0;
    }
  where
    below : (row : Node) → is_below_active tables.nodes row ≡ true → is_below_active (replaced (remade node display node.active) tables.nodes) row ≡ true
    below row is = ap (λ b. not row.active || b) (active_same node display tables.nodes (replaced (remade node display node.active) tables.nodes) (replaced_over tables node display node.active consistent there) row.parent) ∙ is

pub rename_folder_fits : (tables : Tables) (moment : Moment) (name : NodeName) (display : List ℕ) → Consistent tables → kind_named name ≡ AFolder → IsFolderDisplay display
    → first_refusal ((rename_folder name display).rules moment tables) nothing_asked ≡ None
    → Leads tables ((rename_folder name display).changes moment tables) ((rename_folder name display).after moment tables)
rename_folder_fits tables moment name display consistent folder shown fits =
    let are : Fine ((rename_folder name display).rules moment tables) nothing_asked = fine ((rename_folder name display).rules moment tables) nothing_asked fits in
    fitting_row tables name (renamed display) (λ is. absurd (cc)) (first_of-None (missing tables name) [] are.names).0
    (λ (node : Node). inactive tables name node.id ∷ []) (λ (node : Node). many_changes tables ∷ taken_name tables.nodes (renamed display node) ∷ []) are.active are.late
    (λ node is live late. leads_there tables node display node.active consistent (renamed_stands tables node display consistent (row_there tables name node is) (row_is_folder tables name node folder is) shown late))

-- ---- a deleted node

left_false : (a b : Bool) → (a && b) ≡ false → b ≡ true → a ≡ false
left_false true true both is = both
left_false true false both is = absurd (cc)
left_false false b both is = refl

deleted_stands : (tables : Tables) (node : Node) → Consistent tables → Contains tables.nodes node → first_of (many_changes tables ∷ not_empty tables node ∷ []) ≡ None → MayBecome tables node node.display false
deleted_stands tables node consistent there late =
    let changes = first_of-None _ _ late in
    let empty = first_of-None _ _ changes.1 in
    let next : List Node = replaced (remade node node.display false) tables.nodes in
    let childless : All (λ (row : Node). (row.active && same_node row.parent node.id) ≡ false) tables.nodes =
    none_passes (λ (row : Node). row.active && same_node row.parent node.id) tables.nodes (not_refused (has_active_child tables.nodes node.id) (Hierarchy 0 0 NotEmpty) empty.0) in
    record {
      there = there;
      formed = state_formed tables node false consistent there;
      names = All-of (λ (row : Node). are_namesakes (remade node node.display false) row ≡ false) nameless tables.nodes;
      parents = All-both (λ (row : Node). (row.active && same_node row.parent node.id) ≡ false) (λ (row : Node). is_below_active tables.nodes row ≡ true) (λ (row : Node). is_below_active next row ≡ true) below tables.nodes childless consistent.keeps.hierarchy.active;
      parent = refl;
      folders = folders_no_more tables node node.display false node.parent consistent there refl;
      changes = within_limit (tables.org.changes + 1) Changes changes.0;
    }
  where
    nameless : (row : Node) → are_namesakes (remade node node.display false) row ≡ false
    nameless row = false_from_ne_true _ (λ is. let folder : false ≡ true = folder_of (remade node node.display false) row is in absurd (cc))

    -- an ACTIVE row has another parent, whose state stays
    elsewhere : (row : Node) → same_node row.parent node.id ≡ false → is_active (replaced (remade node node.display false) tables.nodes) row.parent ≡ is_active tables.nodes row.parent
    elsewhere row other = active_elsewhere node node.display false tables.nodes (replaced (remade node node.display false) tables.nodes) (replaced_over tables node node.display false consistent there) row.parent (other_node-back row.parent node.id other)

    below : (row : Node) → (row.active && same_node row.parent node.id) ≡ false → is_below_active tables.nodes row ≡ true → is_below_active (replaced (remade node node.display false) tables.nodes) row ≡ true
    below row childless was = elim (cases_Bool (same_node row.parent node.id)) [
      | inl is ↦ or_left (not row.active) _ (not_from_false row.active (left_false row.active (same_node row.parent node.id) childless is))
      | inr other ↦ ap (λ b. not row.active || b) (elsewhere row other) ∙ was
    ]

pub delete_node_fits : (tables : Tables) (moment : Moment) (name : NodeName) → Consistent tables → kind_named name ≢ AnOrganization
    → first_refusal ((delete_node name).rules moment tables) nothing_asked ≡ None → Leads tables ((delete_node name).changes moment tables) ((delete_node name).after moment tables)
delete_node_fits tables moment name consistent other fits =
    let are : Fine ((delete_node name).rules moment tables) nothing_asked = fine ((delete_node name).rules moment tables) nothing_asked fits in
    fitting_row tables name deleted other (first_of-None (missing tables name) [] are.names).0
    (λ (node : Node). inactive tables name node.id ∷ []) (λ (node : Node). many_changes tables ∷ not_empty tables node ∷ []) are.active are.late
    (λ node is live late. leads_there tables node node.display false consistent (deleted_stands tables node consistent (row_there tables name node is) late))

-- ---- an undeleted node

undeleted_few : (tables : Tables) (node : Node) → Consistent tables → Contains tables.nodes node → many_folders tables node ≡ None → count_folders (replaced (remade node node.display true) tables.nodes) node.parent ≤ limit_of ChildFolders
undeleted_few tables node consistent there within = go (cases_Bool (is_folder node.id))
  where
    go : (is_folder node.id ≡ true) ⊎ (is_folder node.id ≡ false) → count_folders (replaced (remade node node.display true) tables.nodes) node.parent ≤ limit_of ChildFolders
    go (inl folder) =
        let few : count_folders tables.nodes node.parent + 1 ≤ 300 = within_limit (count_folders tables.nodes node.parent + 1) ChildFolders (subst (λ (b : Bool). cond b (beyond (count_folders tables.nodes node.parent + 1) ChildFolders) None ≡ None) folder within) in
        let one : cond (is_active_child AFolder node.parent (remade node node.display true)) 1 0 ≤ 1 = elim (is_active_child AFolder node.parent (remade node node.display true)) as (λ b. cond b 1 0 ≤ 1) [ true ↦ omega arith | false ↦ omega arith ] in
        omega (arith, few, one, folders_then tables node node.display true node.parent consistent there)
    go (inr other) = folders_no_more tables node node.display true node.parent consistent there (and_left (true && same_kind node.id.kind AFolder) (same_node node.parent node.parent) other)

undeleted_stands : (tables : Tables) (name : NodeName) (node : Node) → Consistent tables → Contains tables.nodes node → first_of (not_deleted tables name node ∷ []) ≡ None
    → first_of (many_folders tables node ∷ many_changes tables ∷ taken_name tables.nodes (undeleted node) ∷ []) ≡ None → MayBecome tables node node.display true
undeleted_stands tables name node consistent there live late =
    let folders = first_of-None _ _ late in
    let changes = first_of-None _ _ folders.1 in
    let own = first_of-None _ _ changes.1 in
    let next : List Node = replaced (remade node node.display true) tables.nodes in
    let states = or_parts node.active (not (is_active tables.nodes node.parent)) (not_refused (node.active || not (is_active tables.nodes node.parent)) (NotActive (node_text name)) (first_of-None _ _ live).0) in
    record {
      there = there;
      formed = state_formed tables node true consistent there;
      names = own_name tables.nodes (undeleted node) own.0;
      parents = All-weaker (λ (row : Node). is_below_active tables.nodes row ≡ true) (λ (row : Node). is_below_active next row ≡ true) below tables.nodes consistent.keeps.hierarchy.active;
      parent = still node.parent (not-false (is_active tables.nodes node.parent) states.1);
      folders = undeleted_few tables node consistent there folders.0;
      changes = within_limit (tables.org.changes + 1) Changes changes.0;
    }
  where
    still : (at : NodeId) → is_active tables.nodes at ≡ true → is_active (replaced (remade node node.display true) tables.nodes) at ≡ true
    still = active_still node node.display tables.nodes (replaced (remade node node.display true) tables.nodes) (replaced_over tables node node.display true consistent there)

    below : (row : Node) → is_below_active tables.nodes row ≡ true → is_below_active (replaced (remade node node.display true) tables.nodes) row ≡ true
    below row was = elim (or_cases (not row.active) (is_active tables.nodes row.parent) was) [
      | inl gone ↦ or_left (not row.active) _ gone
      | inr is ↦ or_right (not row.active) _ (still row.parent is)
    ]

pub undelete_node_fits : (tables : Tables) (moment : Moment) (name : NodeName) → Consistent tables → kind_named name ≢ AnOrganization
    → first_refusal ((undelete_node name).rules moment tables) nothing_asked ≡ None → Leads tables ((undelete_node name).changes moment tables) ((undelete_node name).after moment tables)
undelete_node_fits tables moment name consistent other fits =
    let are : Fine ((undelete_node name).rules moment tables) nothing_asked = fine ((undelete_node name).rules moment tables) nothing_asked fits in
    fitting_row tables name undeleted other (first_of-None (missing tables name) [] are.names).0
    (λ (node : Node). not_deleted tables name node ∷ []) (λ (node : Node). many_folders tables node ∷ many_changes tables ∷ taken_name tables.nodes (undeleted node) ∷ []) are.active are.late
    (λ node is live late. leads_there tables node node.display true consistent (undeleted_stands tables name node consistent (row_there tables name node is) live late))
