-- Folders and projects that are created keep the tables consistent.
use Rattle.std.proofs.Common.{◌≡◌, ◌⊎◌, inl, inr, ℕ, ◌+◌, ◌<◌, ◌≤◌, Bool, true, false, not, ◌&&◌, ◌||◌, cond, List, [], ◌∷◌, length, Some, None, refl, sym, ap, subst, ◌∙◌, arith}
use Rattle.std.specs.Prelude.{nat_le, nat_lt, is_some, Contains}
use Rattle.std.specs.Bool.{◌==◌}
use Rattle.std.specs.List.{All, list_any}
use Rattle.std.specs.Option.{option_map_or}
use Rattle.std.specs.Str.{bytes_eq}
use Rattle.std.specs.declared.option.Option.{Option}
use Rattle.std.proofs.lemmas.Bool.{and_left, and_parts, and_right, both_ways, cases_Bool, false_from_ne_true, le-leb, ltb-false, ne_eqb, not-false, not_from_false, or_from, or_right}
use Rattle.std.proofs.lemmas.Cmp.{nat_list_cmp_total, tied_itself}
use Rattle.std.proofs.lemmas.List.Elements.{All-cons, All-contains, All-contains_itself, All-nil, All-weaker}
use Rattle.std.proofs.lemmas.List.Folds.{list_any_none}
use Rattle.iam_text.specs.declared.moment.Moment.{Moment}
use Rattle.iam_names.specs.Display.{IsFolderDisplay, IsProjectDisplay}
use Rattle.iam_names.specs.Node.{IsProjectId, node_text}
use Rattle.iam_names.specs.declared.node.NodeId.{NodeId}
use Rattle.iam_names.specs.declared.node.NodeKind.{NodeKind}
use Rattle.iam_names.specs.declared.node.NodeKind.TheVariants.{Organization, Folder, Project}
use Rattle.iam_names.specs.declared.node.NodeName.{NodeName}
use Rattle.iam_types.specs.declared.allow.AllowPolicy.{AllowPolicy}
use Rattle.iam_types.specs.declared.fact.Fact.TheVariants as fact
use Rattle.iam_types.specs.declared.fact.FactChange.TheVariants.{Put}
use Rattle.iam_types.specs.declared.node.Node.{Node}
use Rattle.iam_types.specs.declared.refusal.Fault.TheVariants.{Parent, Depth, SiblingName}
use Rattle.iam_types.specs.declared.refusal.LimitName.TheVariants.{ChildFolders, Nodes, Changes}
use Rattle.iam_types.specs.declared.refusal.Refusal.TheVariants.{AlreadyExists, Hierarchy, NotActive}
use Rattle.iam_types.specs.declared.tables.Tables.{Tables}
use Rattle.iam_model.specs.Consistent.{Consistent, HierarchyStands, Keeps, NumbersFit}
use Rattle.iam_model.specs.Creation.{added, added_changes, create_folder, create_project, late_folder_rules, late_project_rules, new_folder, new_node, new_project, numbered, taken_project_id, with_node_added}
use Rattle.iam_model.specs.Facts.{facts_of, with_changes}
use Rattle.iam_model.specs.Formed.{IsChange, IsNodeFact, IsOrgFact}
use Rattle.iam_model.specs.Hierarchy.{LeadsUp, are_different, are_namesakes, count_folders, deepest, is_alone, is_below_active, is_shallow, same_project_id, share_number, share_project_id}
use Rattle.iam_model.specs.Limits.{limit_of}
use Rattle.iam_model.specs.Nodes.{active_children, depth_below, exists, has_project_id, is_active, is_active_child, is_folder, is_project, project_with, resolve}
use Rattle.iam_model.specs.Parts.{org_part}
use Rattle.iam_model.specs.Refusals.{first_of, first_refusal, nothing_asked}
use Rattle.iam_model.specs.Same.{same_kind, same_node}
use Rattle.iam_model.specs.Shared.{inactive, missing}
use Rattle.iam_model.proofs.Added.{IsNew, active_old, alone_added, different_of, folder_of, exists_leads, exists_still, led_exists, leads_old, namesakes_back, numbers_back, projects_back, way_old}
use Rattle.iam_model.proofs.Adding.{All-added, IsFree, any_added, count_added, free_place, length_added}
use Rattle.iam_model.proofs.Climbing.{parent_leads}
use Rattle.iam_model.proofs.Existing.{existing_formed, not_missing, not_refused, resolved_exists}
use Rattle.iam_model.proofs.Finding.{All-both, All-of, filter-Contains, nothing_passes}
use Rattle.iam_model.proofs.Fitting.{Fine, Leads, fine, first_of-None, node_put, within_limit}
use Rattle.iam_model.proofs.Lists.{nodes_formed, org_formed}
use Rattle.iam_model.proofs.Placing.{Contains-here}
use Rattle.iam_model.proofs.Sameness.{same_bytes-back, same_node-itself, same_node-true}

-- What acceptance gives of a new row: where it stands, and what is counted with it.
record MayStand (tables : Tables) (node : Node) : Type 0 where
  new : IsNew tables node
  number : node.id.number ≡ tables.org.next
  parent : exists tables node.parent ≡ true
  holds : is_project node.parent ≡ false
  live : is_active tables.nodes node.parent ≡ true
  shallow : is_shallow (added node tables.nodes) node ≡ true
  name : is_alone are_namesakes (added node tables.nodes) node ≡ true
  project : is_alone share_project_id (added node tables.nodes) node ≡ true
  folders : count_folders (added node tables.nodes) node.parent ≤ limit_of ChildFolders
  nodes : length (added node tables.nodes) ≤ limit_of Nodes
  changes : tables.org.changes + 1 ≤ limit_of Changes

-- ---- the hierarchy

row_parent_exists : (tables : Tables) (row : Node) → Consistent tables → Contains tables.nodes row → exists tables row.parent ≡ true
row_parent_exists tables row consistent has = let leads : LeadsUp tables row.parent = parent_leads tables consistent row has in led_exists tables leads.0 row.parent leads.1

hierarchy_kept : (tables : Tables) (node : Node) → Consistent tables → MayStand tables node → HierarchyStands (with_node_added tables node)
hierarchy_kept tables node consistent may =
    let was = consistent.keeps.hierarchy in
    let leads : LeadsUp (with_node_added tables node) node.parent = leads_old tables node node.parent may.new (exists_leads tables node.parent consistent may.parent may.holds) in
    let all : All (Contains tables.nodes) tables.nodes = All-contains_itself tables.nodes in
    record {
      parents = All-added (λ (row : Node). LeadsUp (with_node_added tables node) row.parent) node tables.nodes leads (All-weaker (λ (row : Node). LeadsUp tables row.parent) (λ (row : Node). LeadsUp (with_node_added tables node) row.parent) (λ row. leads_old tables node row.parent may.new) tables.nodes was.parents);
      folders = record {
        depths = All-added (λ (row : Node). is_shallow (added node tables.nodes) row ≡ true) node tables.nodes may.shallow
            (All-both (Contains tables.nodes) (λ (row : Node). is_shallow tables.nodes row ≡ true) (λ (row : Node). is_shallow (added node tables.nodes) row ≡ true) shallow tables.nodes all was.folders.depths);
        names = alone_added are_namesakes namesakes_back node tables.nodes may.new.free may.name was.folders.names;
      };
      active = All-added (λ (row : Node). is_below_active (added node tables.nodes) row ≡ true) node tables.nodes (or_right (not node.active) _ (active_old tables node node.parent may.new may.parent ∙ may.live))
          (All-both (Contains tables.nodes) (λ (row : Node). is_below_active tables.nodes row ≡ true) (λ (row : Node). is_below_active (added node tables.nodes) row ≡ true) active tables.nodes all was.active);
    }
  where
    shallow : (row : Node) → Contains tables.nodes row → is_shallow tables.nodes row ≡ true → is_shallow (added node tables.nodes) row ≡ true
    shallow row has is = subst (λ (up : List NodeId). (not (is_folder row.id) || nat_le (length up) deepest) ≡ true) (sym (way_old tables node row.parent may.new consistent (row_parent_exists tables row consistent has))) is

    active : (row : Node) → Contains tables.nodes row → is_below_active tables.nodes row ≡ true → is_below_active (added node tables.nodes) row ≡ true
    active row has is = subst (λ (b : Bool). (not row.active || b) ≡ true) (sym (active_old tables node row.parent may.new (row_parent_exists tables row consistent has))) is

-- ---- numbers

-- numbers below the new one are others
number_alone : (node : Node) (nodes : List Node) → IsFree node nodes → All (λ row. row.id.number < node.id.number) nodes → is_alone share_number (added node nodes) node ≡ true
number_alone node nodes free below =
    not_from_false (list_any (share_number node) (added node nodes)) (any_added (share_number node) node nodes free ∙ or_from (share_number node node) (list_any (share_number node) nodes) itself others)
  where
    itself : share_number node node ≡ false
    itself = and_left (are_different node node) (node.id.number == node.id.number) (ap not (same_node-itself node.id))

    other : (row : Node) → row.id.number < node.id.number → share_number node row ≡ false
    other row less = and_right (are_different node row) (node.id.number == row.id.number) (ne_eqb node.id.number row.id.number (λ same. absurd (omega (arith, less, same))))

    others : list_any (share_number node) nodes ≡ false
    others = list_any_none (share_number node) nodes (All-weaker (λ (row : Node). row.id.number < node.id.number) (λ (row : Node). share_number node row ≡ false) other nodes below)

numbers_kept : (tables : Tables) (node : Node) → Consistent tables → MayStand tables node → NumbersFit (with_node_added tables node)
numbers_kept tables node consistent may =
    let was = consistent.keeps.numbers in
    let number : node.id.number ≡ tables.org.next = may.number in
    let first : 1 ≤ tables.org.next = was.first in
    let below : All (λ (row : Node). row.id.number < node.id.number) tables.nodes =
    All-weaker (λ (row : Node). (1 ≤ row.id.number) × (row.id.number < tables.org.next)) (λ (row : Node). row.id.number < node.id.number) (λ row is. omega (arith, is.1, number)) tables.nodes was.given in
    record {
      projects = alone_added share_project_id projects_back node tables.nodes may.new.free may.project was.projects;
      nodes = alone_added share_number numbers_back node tables.nodes may.new.free (number_alone node tables.nodes may.new.free below) was.nodes;
      given = All-added (λ (row : Node). (1 ≤ row.id.number) × (row.id.number < tables.org.next + 1)) node tables.nodes (omega (arith, number, first), omega (arith, number))
          (All-weaker (λ (row : Node). (1 ≤ row.id.number) × (row.id.number < tables.org.next)) (λ (row : Node). (1 ≤ row.id.number) × (row.id.number < tables.org.next + 1)) (λ row is. (is.0, omega (arith, is.1))) tables.nodes was.given);
      first = omega arith;
      last = omega (arith, was.last);
    }

-- ---- limits

-- no parent has too many folders
pub folders_few : (tables : Tables) (parent : NodeId) → Consistent tables → count_folders tables.nodes parent ≤ limit_of ChildFolders
folders_few tables parent consistent = go (active_children tables.nodes Folder parent) refl
  where
    go : (rows : List Node) → active_children tables.nodes Folder parent ≡ rows → count_folders tables.nodes parent ≤ limit_of ChildFolders
    go [] is = subst (λ (rows : List Node). length rows ≤ limit_of ChildFolders) (sym is) (omega arith)
    go (row ∷ rows) is =
        let kept = filter-Contains (is_active_child Folder parent) tables.nodes row (subst (λ (all : List Node). Contains all row) (sym is) (Contains-here row rows)) in
        let below : row.parent ≡ parent = same_node-true row.parent parent (and_parts (row.active && same_kind row.id.kind Folder) (same_node row.parent parent) kept.1).1 in
        subst (λ (p : NodeId). count_folders tables.nodes p ≤ limit_of ChildFolders) below
        (All-contains (λ (r : Node). count_folders tables.nodes r.parent ≤ limit_of ChildFolders) tables.nodes row consistent.keeps.limits.folders kept.0)

folders_kept : (tables : Tables) (node : Node) (parent : NodeId) → Consistent tables → MayStand tables node → count_folders (added node tables.nodes) parent ≤ limit_of ChildFolders
folders_kept tables node parent consistent may = go (cases_Bool (same_node node.parent parent))
  where
    go : (same_node node.parent parent ≡ true) ⊎ (same_node node.parent parent ≡ false) → count_folders (added node tables.nodes) parent ≤ limit_of ChildFolders
    go (inl is) = subst (λ (p : NodeId). count_folders (added node tables.nodes) p ≤ limit_of ChildFolders) (same_node-true node.parent parent is) may.folders
    go (inr other) =
        let fails : is_active_child Folder parent node ≡ false = and_right (node.active && same_kind node.id.kind Folder) (same_node node.parent parent) other in
        let counted : count_folders (added node tables.nodes) parent ≡ count_folders tables.nodes parent + cond (is_active_child Folder parent node) 1 0 = count_added (is_active_child Folder parent) node tables.nodes may.new.free in
        let same : count_folders (added node tables.nodes) parent ≡ count_folders tables.nodes parent + 0 = counted ∙ ap (λ b. count_folders tables.nodes parent + cond b 1 0) fails in
        let few : count_folders tables.nodes parent ≤ 300 = folders_few tables parent consistent in
        omega (arith, same, few)

-- ---- all rules

added_keeps : (tables : Tables) (node : Node) → Consistent tables → MayStand tables node → Keeps (with_node_added tables node)
added_keeps tables node consistent may =
    let was = consistent.keeps in
    record {
      hierarchy = hierarchy_kept tables node consistent may;
      numbers = numbers_kept tables node consistent may;
      policies = record {
        nodes = All-weaker (λ (p : AllowPolicy). exists tables p.node ≡ true) (λ (p : AllowPolicy). exists (with_node_added tables node) p.node ≡ true) (λ p there. exists_still tables node p.node may.new there) tables.allows was.policies.nodes;
        roles = was.policies.roles;
      };
      limits = record {
        policies = was.limits.policies;
        groups = was.limits.groups;
        folders = All-of (λ (row : Node). count_folders (added node tables.nodes) row.parent ≤ limit_of ChildFolders) (λ row. folders_kept tables node row.parent consistent may) (added node tables.nodes);
        nodes = may.nodes;
        members = was.limits.members;
        changes = may.changes;
      };
      sets = All-weaker (λ (p : AllowPolicy). (1 ≤ p.set) × (p.set ≤ tables.org.changes)) (λ (p : AllowPolicy). (1 ≤ p.set) × (p.set ≤ tables.org.changes + 1)) (λ p set. (set.0, omega (arith, set.1))) tables.allows was.sets;
    }

-- ---- the changes

added_leads : (tables : Tables) (node : Node) → with_changes (facts_of tables) (added_changes tables node) ≡ facts_of (with_node_added tables node)
unfolding added
added_leads tables node = node_put tables node (numbered tables.org) (tied_itself nat_list_cmp_total (org_part.key tables.org))

-- the next number is one of a node
next_formed : (tables : Tables) → Consistent tables → (1 ≤ tables.org.next) × (tables.org.next ≤ 9000000000000000000)
next_formed tables consistent =
    let numbers = consistent.keeps.numbers in
    let changes : tables.org.changes ≤ 1000000000000000 = consistent.keeps.limits.changes in
    (numbers.first, omega (arith, numbers.last, changes))

added_formed : (tables : Tables) (node : Node) → Consistent tables → IsNodeFact node → All IsChange (added_changes tables node)
added_formed tables node consistent formed =
    let org : IsOrgFact tables.org = org_formed tables consistent in
    let numbers = consistent.keeps.numbers in
    let limit : tables.org.changes ≤ 1000000000000000 = consistent.keeps.limits.changes in
    All-cons IsChange (Put (fact.Node node)) (Put (fact.Org (numbered tables.org)) ∷ []) formed
    (All-cons IsChange (Put (fact.Org (numbered tables.org))) [] (record {
      formed = record { number = org.formed.number; domain = org.formed.domain; customer = org.formed.customer };
      next = omega (arith, limit, numbers.last);
      changes = omega (arith, limit);
    }) (All-nil IsChange))

leads_there : (tables : Tables) (node : Node) → Consistent tables → IsNodeFact node → MayStand tables node → Leads tables (added_changes tables node) (with_node_added tables node)
leads_there tables node consistent formed may = record { formed = added_formed tables node consistent formed; leads = added_leads tables node; keeps = added_keeps tables node consistent may; counted = refl }

-- ---- what both creations share

new_free : (tables : Tables) (kind : NodeKind) (parent : NodeId) (display : List ℕ) (project : Option (List ℕ)) → Consistent tables → IsFree (new_node tables kind parent display project) tables.nodes
new_free tables kind parent display project consistent =
    free_place (new_node tables kind parent display project) tables.nodes (next_formed tables consistent) (nodes_formed tables consistent)
    (All-weaker (λ (row : Node). (1 ≤ row.id.number) × (row.id.number < tables.org.next)) (λ (row : Node). row.id.number < tables.org.next) (λ row is. is.1) tables.nodes consistent.keeps.numbers.given)

new_is : (tables : Tables) (kind : NodeKind) (parent : NodeId) (display : List ℕ) (project : Option (List ℕ)) → Consistent tables → same_kind kind Organization ≡ false → IsNew tables (new_node tables kind parent display project)
new_is tables kind parent display project consistent below = record { free = new_free tables kind parent display project consistent; below = below }

-- ---- what is counted with a new node

pub nodes_counted : (tables : Tables) (kind : NodeKind) (parent : NodeId) (display : List ℕ) (project : Option (List ℕ)) → Consistent tables → length (added (new_node tables kind parent display project) tables.nodes) ≡ length tables.nodes + 1
nodes_counted tables kind parent display project consistent = length_added (new_node tables kind parent display project) tables.nodes (new_free tables kind parent display project consistent)

pub folders_counted : (tables : Tables) (parent : NodeId) (display : List ℕ) → Consistent tables → count_folders (added (new_folder tables parent display) tables.nodes) parent ≡ count_folders tables.nodes parent + 1
folders_counted tables parent display consistent =
    count_added (is_active_child Folder parent) (new_folder tables parent display) tables.nodes (new_free tables Folder parent display None consistent)
    ∙ ap (λ b. count_folders tables.nodes parent + cond b 1 0) (same_node-itself parent)

pub depth_counted : (tables : Tables) (parent : NodeId) (display : List ℕ) → Consistent tables → exists tables parent ≡ true → depth_below (added (new_folder tables parent display) tables.nodes) parent ≡ depth_below tables.nodes parent
depth_counted tables parent display consistent there =
    ap (λ (up : List NodeId). length up) (way_old tables (new_folder tables parent display) parent (new_is tables Folder parent display None consistent refl) consistent there)

pub names_counted : (tables : Tables) (parent : NodeId) (display : List ℕ) → Consistent tables
    → is_alone are_namesakes (added (new_folder tables parent display) tables.nodes) (new_folder tables parent display) ≡ is_alone are_namesakes tables.nodes (new_folder tables parent display)
names_counted tables parent display consistent =
    let node : Node = new_folder tables parent display in
    let itself : are_namesakes node node ≡ false = false_from_ne_true (are_namesakes node node) (λ is. both_ways (are_different node node) (ap not (same_node-itself node.id)) (different_of node node is)) in
    ap not (any_added (are_namesakes node) node tables.nodes (new_free tables Folder parent display None consistent) ∙ ap (λ b. b || list_any (are_namesakes node) tables.nodes) itself)

parent_live : (tables : Tables) (name : NodeName) (parent : NodeId) → inactive tables name parent ≡ None → is_active tables.nodes parent ≡ true
parent_live tables name parent h = not-false (is_active tables.nodes parent) (not_refused (not (is_active tables.nodes parent)) (NotActive (node_text name)) h)

-- ---- a folder

folder_stands : (tables : Tables) (parent : NodeId) (display : List ℕ) → Consistent tables → exists tables parent ≡ true → is_active tables.nodes parent ≡ true
    → first_of (late_folder_rules tables parent (new_folder tables parent display)) ≡ None → MayStand tables (new_folder tables parent display)
folder_stands tables parent display consistent there live late =
    let node : Node = new_folder tables parent display in
    let new : IsNew tables node = new_is tables Folder parent display None consistent refl in
    let folders = first_of-None _ _ late in
    let nodes = first_of-None _ _ folders.1 in
    let changes = first_of-None _ _ nodes.1 in
    let holds = first_of-None _ _ changes.1 in
    let depth = first_of-None _ _ holds.1 in
    let name = first_of-None _ _ depth.1 in
    let shallow : depth_below (added node tables.nodes) parent ≤ deepest = ltb-false deepest (depth_below (added node tables.nodes) parent) (not_refused (nat_lt deepest (depth_below (added node tables.nodes) parent)) (Hierarchy (depth_below (added node tables.nodes) parent) deepest Depth) depth.0) in
    record {
      new = new;
      number = refl;
      parent = there;
      holds = not_refused (is_project parent) (Hierarchy 0 0 Parent) holds.0;
      live = live;
      shallow = le-leb (depth_below (added node tables.nodes) parent) deepest shallow;
      name = not-false (is_alone are_namesakes (added node tables.nodes) node) (not_refused (not (is_alone are_namesakes (added node tables.nodes) node)) (Hierarchy 0 0 SiblingName) name.0);
      project = not_from_false (list_any (share_project_id node) (added node tables.nodes)) (any_added (share_project_id node) node tables.nodes new.free
          ∙ or_from (share_project_id node node) (list_any (share_project_id node) tables.nodes) (and_right (are_different node node) false refl) (list_any_none (share_project_id node) tables.nodes (All-of (λ (row : Node). share_project_id node row ≡ false) (λ row. and_right (are_different node row) false refl) tables.nodes)));
      folders = within_limit (count_folders (added node tables.nodes) parent) ChildFolders folders.0;
      nodes = within_limit (length (added node tables.nodes)) Nodes nodes.0;
      changes = within_limit (tables.org.changes + 1) Changes changes.0;
    }

folder_formed : (tables : Tables) (parent : NodeId) (display : List ℕ) → Consistent tables → exists tables parent ≡ true → IsFolderDisplay display → IsNodeFact (new_folder tables parent display)
folder_formed tables parent display consistent there shown = record { id = next_formed tables consistent; parent = existing_formed tables parent consistent there; form = shown }

pub create_folder_fits : (tables : Tables) (moment : Moment) (name : NodeName) (display : List ℕ) → Consistent tables → IsFolderDisplay display
    → first_refusal ((create_folder name display).rules moment tables) nothing_asked ≡ None
    → Leads tables ((create_folder name display).changes moment tables) ((create_folder name display).after moment tables)
create_folder_fits tables moment name display consistent shown fits =
    let are : Fine ((create_folder name display).rules moment tables) nothing_asked = fine ((create_folder name display).rules moment tables) nothing_asked fits in
    go (resolve tables name) refl (first_of-None (missing tables name) [] are.names).0 are.active are.late
  where
    go : (o : Option NodeId) → resolve tables name ≡ o → missing tables name ≡ None → first_of (option_map_or (λ parent. inactive tables name parent ∷ []) o []) ≡ None
        → first_of (option_map_or (λ parent. late_folder_rules tables parent (new_folder tables parent display)) o []) ≡ None
        → Leads tables (option_map_or (λ parent. added_changes tables (new_folder tables parent display)) o []) (option_map_or (λ parent. with_node_added tables (new_folder tables parent display)) o tables)
    go None is there live late = absurd (not_missing tables name is there)
    go (Some parent) is there live late =
        let found : exists tables parent ≡ true = resolved_exists tables name parent is in
        leads_there tables (new_folder tables parent display) consistent (folder_formed tables parent display consistent found shown)
        (folder_stands tables parent display consistent found (parent_live tables name parent (first_of-None _ _ live).0) late)

-- ---- a project

-- an id that no project has
project_alone : (tables : Tables) (project : List ℕ) (node : Node) → node.project ≡ Some project → IsFree node tables.nodes → taken_project_id tables project ≡ None → is_alone share_project_id (added node tables.nodes) node ≡ true
project_alone tables project node is free fresh =
    let none : All (λ (row : Node). has_project_id project row ≡ false) tables.nodes = nothing_passes (has_project_id project) tables.nodes (nothing (project_with tables.nodes project) (not_refused (is_some (project_with tables.nodes project)) (AlreadyExists project) fresh)) in
    not_from_false (list_any (share_project_id node) (added node tables.nodes)) (any_added (share_project_id node) node tables.nodes free
    ∙ or_from (share_project_id node node) (list_any (share_project_id node) tables.nodes) (and_left (are_different node node) (same_project_id node.project node.project) (ap not (same_node-itself node.id)))
    (list_any_none (share_project_id node) tables.nodes (All-weaker (λ (row : Node). has_project_id project row ≡ false) (λ (row : Node). share_project_id node row ≡ false)
    (λ row h. and_right (are_different node row) (same_project_id node.project row.project) (other row h)) tables.nodes none)))
  where
    nothing : (found : Option Node) → is_some found ≡ false → found ≡ None
    nothing None h = refl
    nothing (Some row) h = absurd (cc)

    differs : (own : Option (List ℕ)) → option_map_or (λ o. bytes_eq o project) own false ≡ false → same_project_id (Some project) own ≡ false
    differs None h = refl
    differs (Some own) h = false_from_ne_true (bytes_eq project own) (λ same. both_ways (bytes_eq own project) h (same_bytes-back project own same))

    other : (row : Node) → has_project_id project row ≡ false → same_project_id node.project row.project ≡ false
    other row h = subst (λ (o : Option (List ℕ)). same_project_id o row.project ≡ false) (sym is) (differs row.project h)

-- projects have no namesakes
no_namesakes : (node : Node) (nodes : List Node) → IsFree node nodes → is_folder node.id ≡ false → is_alone are_namesakes (added node nodes) node ≡ true
no_namesakes node nodes free other =
    not_from_false (list_any (are_namesakes node) (added node nodes)) (any_added (are_namesakes node) node nodes free
    ∙ or_from (are_namesakes node node) (list_any (are_namesakes node) nodes) (never node) (list_any_none (are_namesakes node) nodes (All-of (λ (row : Node). are_namesakes node row ≡ false) never nodes)))
  where
    never : (row : Node) → are_namesakes node row ≡ false
    never row = false_from_ne_true (are_namesakes node row) (λ is. both_ways (is_folder node.id) other (and_parts node.active (is_folder node.id) (folder_of node row is)).1)

project_stands : (tables : Tables) (project : List ℕ) (parent : NodeId) (display : List ℕ) → Consistent tables → exists tables parent ≡ true → is_active tables.nodes parent ≡ true → taken_project_id tables project ≡ None
    → first_of (late_project_rules tables parent (new_project tables project parent display)) ≡ None → MayStand tables (new_project tables project parent display)
project_stands tables project parent display consistent there live fresh late =
    let node : Node = new_project tables project parent display in
    let new : IsNew tables node = new_is tables Project parent display (Some project) consistent refl in
    let nodes = first_of-None _ _ late in
    let changes = first_of-None _ _ nodes.1 in
    let holds = first_of-None _ _ changes.1 in
    let counted : count_folders (added node tables.nodes) parent ≡ count_folders tables.nodes parent + 0 = count_added (is_active_child Folder parent) node tables.nodes new.free in
    let few : count_folders tables.nodes parent ≤ 300 = folders_few tables parent consistent in
    record {
      new = new;
      number = refl;
      parent = there;
      holds = not_refused (is_project parent) (Hierarchy 0 0 Parent) holds.0;
      live = live;
      shallow = refl;
      name = no_namesakes node tables.nodes new.free refl;
      project = project_alone tables project node refl new.free fresh;
      folders = omega (arith, counted, few);
      nodes = within_limit (length (added node tables.nodes)) Nodes nodes.0;
      changes = within_limit (tables.org.changes + 1) Changes changes.0;
    }

project_formed : (tables : Tables) (project : List ℕ) (parent : NodeId) (display : List ℕ) → Consistent tables → exists tables parent ≡ true → IsProjectId project → IsProjectDisplay display → IsNodeFact (new_project tables project parent display)
project_formed tables project parent display consistent there id shown = record { id = next_formed tables consistent; parent = existing_formed tables parent consistent there; form = (id, shown) }

pub create_project_fits : (tables : Tables) (moment : Moment) (project : List ℕ) (name : NodeName) (display : List ℕ) → Consistent tables → IsProjectId project → IsProjectDisplay display
    → first_refusal ((create_project project name display).rules moment tables) nothing_asked ≡ None
    → Leads tables ((create_project project name display).changes moment tables) ((create_project project name display).after moment tables)
create_project_fits tables moment project name display consistent id shown fits =
    let are : Fine ((create_project project name display).rules moment tables) nothing_asked = fine ((create_project project name display).rules moment tables) nothing_asked fits in
    go (resolve tables name) refl (first_of-None (missing tables name) [] are.names).0 are.active (first_of-None (taken_project_id tables project) [] are.fresh).0 are.late
  where
    go : (o : Option NodeId) → resolve tables name ≡ o → missing tables name ≡ None → first_of (option_map_or (λ parent. inactive tables name parent ∷ []) o []) ≡ None → taken_project_id tables project ≡ None
        → first_of (option_map_or (λ parent. late_project_rules tables parent (new_project tables project parent display)) o []) ≡ None
        → Leads tables (option_map_or (λ parent. added_changes tables (new_project tables project parent display)) o []) (option_map_or (λ parent. with_node_added tables (new_project tables project parent display)) o tables)
    go None is there live fresh late = absurd (not_missing tables name is there)
    go (Some parent) is there live fresh late =
        let found : exists tables parent ≡ true = resolved_exists tables name parent is in
        leads_there tables (new_project tables project parent display) consistent (project_formed tables project parent display consistent found id shown)
        (project_stands tables project parent display consistent found (parent_live tables name parent (first_of-None _ _ live).0) fresh late)
