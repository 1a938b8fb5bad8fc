-- The parts as they are, and what follows from them for the tables.
use Rattle.std.proofs.Common.{◌≡◌, ℕ, ◌⊎◌, inl, inr, List, [], ◌∷◌, filter, None, refl, sym, ap, ◌∙◌, append-nil}
use Rattle.std.specs.Prelude.{not}
use Rattle.std.specs.Ordering.{is_eq}
use Rattle.iam_text.specs.Put.{put, placed}
use Rattle.iam_types.specs.declared.allow.AllowPolicy.{AllowPolicy}
use Rattle.iam_types.specs.declared.boundary.Boundary.{Boundary}
use Rattle.iam_types.specs.declared.boundary.BoundaryBinding.{BoundaryBinding}
use Rattle.iam_types.specs.declared.deny.DenyPolicy.{DenyPolicy}
use Rattle.iam_types.specs.declared.fact.Fact.{Fact}
use Rattle.iam_types.specs.declared.fact.Fact.TheVariants as fact
use Rattle.iam_types.specs.declared.group.Edge.{Edge}
use Rattle.iam_types.specs.declared.node.Node.{Node}
use Rattle.iam_types.specs.declared.node.Org.{Org}
use Rattle.iam_types.specs.declared.role.Role.{Role}
use Rattle.iam_types.specs.declared.tables.Tables.{Tables}
use Rattle.iam_types.specs.declared.tag.TagBinding.{TagBinding}
use Rattle.iam_types.specs.declared.tag.TagKey.{TagKey}
use Rattle.iam_types.specs.declared.tag.TagValue.{TagValue}
use Rattle.iam_model.specs.Facts.{fact_order, facts_of, sections_with, tables_with}
use Rattle.iam_model.specs.Part.{Part, order_in, rows_in, table_of}
use Rattle.iam_model.specs.Parts.{allow_part, bound_part, boundary_part, deny_part, edge_part, group_part, key_part, node_part, org_part, role_part, tag_part, value_part}
use Rattle.iam_model.specs.Sections.{all_facts, Ascending}
use Rattle.iam_model.proofs.Parted.{AreSections, IsPart, cut_all, cut_wrapped, left_by, put_all, put_wrapped, rows_back, rows_found, section_is}

-- a fact is none of the part's, or one of its rows
abbrev Owns : {A : Type 0} → Part A → Fact → Type 0
Owns {A} part fact = (part.out fact ≡ None) ⊎ ((row : A) × (fact ≡ part.wrap row))

own_allow : (f : Fact) → Owns allow_part f
own_allow (fact.Allow row) = inr (row, refl)
own_allow other = inl refl

pub is_allow : IsPart AllowPolicy allow_part
is_allow = record { back = λ row. refl; own = own_allow; named = λ row. refl; keyed = λ row. refl }

own_bound : (f : Fact) → Owns bound_part f
own_bound (fact.Bound row) = inr (row, refl)
own_bound other = inl refl

pub is_bound : IsPart BoundaryBinding bound_part
is_bound = record { back = λ row. refl; own = own_bound; named = λ row. refl; keyed = λ row. refl }

own_boundary : (f : Fact) → Owns boundary_part f
own_boundary (fact.Boundary row) = inr (row, refl)
own_boundary other = inl refl

pub is_boundary : IsPart Boundary boundary_part
is_boundary = record { back = λ row. refl; own = own_boundary; named = λ row. refl; keyed = λ row. refl }

own_deny : (f : Fact) → Owns deny_part f
own_deny (fact.Deny row) = inr (row, refl)
own_deny other = inl refl

pub is_deny : IsPart DenyPolicy deny_part
is_deny = record { back = λ row. refl; own = own_deny; named = λ row. refl; keyed = λ row. refl }

own_edge : (f : Fact) → Owns edge_part f
own_edge (fact.Edge row) = inr (row, refl)
own_edge other = inl refl

pub is_edge : IsPart Edge edge_part
is_edge = record { back = λ row. refl; own = own_edge; named = λ row. refl; keyed = λ row. refl }

own_group : (f : Fact) → Owns group_part f
own_group (fact.Group row) = inr (row, refl)
own_group other = inl refl

pub is_group : IsPart (List ℕ) group_part
is_group = record { back = λ row. refl; own = own_group; named = λ row. refl; keyed = λ row. refl }

own_key : (f : Fact) → Owns key_part f
own_key (fact.Key row) = inr (row, refl)
own_key other = inl refl

pub is_key : IsPart TagKey key_part
is_key = record { back = λ row. refl; own = own_key; named = λ row. refl; keyed = λ row. refl }

own_node : (f : Fact) → Owns node_part f
own_node (fact.Node row) = inr (row, refl)
own_node other = inl refl

pub is_node : IsPart Node node_part
is_node = record { back = λ row. refl; own = own_node; named = λ row. refl; keyed = λ row. refl }

own_org : (f : Fact) → Owns org_part f
own_org (fact.Org row) = inr (row, refl)
own_org other = inl refl

pub is_org : IsPart Org org_part
is_org = record { back = λ row. refl; own = own_org; named = λ row. refl; keyed = λ row. refl }

own_role : (f : Fact) → Owns role_part f
own_role (fact.Role row) = inr (row, refl)
own_role other = inl refl

pub is_role : IsPart Role role_part
is_role = record { back = λ row. refl; own = own_role; named = λ row. refl; keyed = λ row. refl }

own_tag : (f : Fact) → Owns tag_part f
own_tag (fact.Tag row) = inr (row, refl)
own_tag other = inl refl

pub is_tag : IsPart TagBinding tag_part
is_tag = record { back = λ row. refl; own = own_tag; named = λ row. refl; keyed = λ row. refl }

own_value : (f : Fact) → Owns value_part f
own_value (fact.Value row) = inr (row, refl)
own_value other = inl refl

pub is_value : IsPart TagValue value_part
is_value = record { back = λ row. refl; own = own_value; named = λ row. refl; keyed = λ row. refl }

pub are_sections : (orgs : List Org) (t : Tables) → AreSections (sections_with orgs t)
are_sections orgs t = (section_is allow_part is_allow t.allows, (section_is bound_part is_bound t.bounds, (section_is boundary_part is_boundary t.boundaries, (section_is deny_part is_deny t.denies, (section_is edge_part is_edge t.edges, (section_is group_part is_group t.groups, (section_is key_part is_key t.keys, (section_is node_part is_node t.nodes, (section_is org_part is_org orgs, (section_is role_part is_role t.roles, (section_is tag_part is_tag t.tags, (section_is value_part is_value t.values, tt))))))))))))

pub ascending : (orgs : List Org) (t : Tables) → Ascending (sections_with orgs t)
ascending orgs t = (refl, (refl, (refl, (refl, (refl, (refl, (refl, (refl, (refl, (refl, (refl, tt)))))))))))

-- ---- found again

pub allow_back : (orgs : List Org) (t : Tables) → rows_in allow_part (all_facts (sections_with orgs t)) ≡ t.allows
allow_back orgs t = rows_found allow_part is_allow (sections_with orgs t) (are_sections orgs t) ∙ append-nil _ ∙ rows_back allow_part is_allow t.allows

pub bound_back : (orgs : List Org) (t : Tables) → rows_in bound_part (all_facts (sections_with orgs t)) ≡ t.bounds
bound_back orgs t = rows_found bound_part is_bound (sections_with orgs t) (are_sections orgs t) ∙ append-nil _ ∙ rows_back bound_part is_bound t.bounds

pub boundary_back : (orgs : List Org) (t : Tables) → rows_in boundary_part (all_facts (sections_with orgs t)) ≡ t.boundaries
boundary_back orgs t = rows_found boundary_part is_boundary (sections_with orgs t) (are_sections orgs t) ∙ append-nil _ ∙ rows_back boundary_part is_boundary t.boundaries

pub deny_back : (orgs : List Org) (t : Tables) → rows_in deny_part (all_facts (sections_with orgs t)) ≡ t.denies
deny_back orgs t = rows_found deny_part is_deny (sections_with orgs t) (are_sections orgs t) ∙ append-nil _ ∙ rows_back deny_part is_deny t.denies

pub edge_back : (orgs : List Org) (t : Tables) → rows_in edge_part (all_facts (sections_with orgs t)) ≡ t.edges
edge_back orgs t = rows_found edge_part is_edge (sections_with orgs t) (are_sections orgs t) ∙ append-nil _ ∙ rows_back edge_part is_edge t.edges

pub group_back : (orgs : List Org) (t : Tables) → rows_in group_part (all_facts (sections_with orgs t)) ≡ t.groups
group_back orgs t = rows_found group_part is_group (sections_with orgs t) (are_sections orgs t) ∙ append-nil _ ∙ rows_back group_part is_group t.groups

pub key_back : (orgs : List Org) (t : Tables) → rows_in key_part (all_facts (sections_with orgs t)) ≡ t.keys
key_back orgs t = rows_found key_part is_key (sections_with orgs t) (are_sections orgs t) ∙ append-nil _ ∙ rows_back key_part is_key t.keys

pub node_back : (orgs : List Org) (t : Tables) → rows_in node_part (all_facts (sections_with orgs t)) ≡ t.nodes
node_back orgs t = rows_found node_part is_node (sections_with orgs t) (are_sections orgs t) ∙ append-nil _ ∙ rows_back node_part is_node t.nodes

pub org_back : (orgs : List Org) (t : Tables) → rows_in org_part (all_facts (sections_with orgs t)) ≡ orgs
org_back orgs t = rows_found org_part is_org (sections_with orgs t) (are_sections orgs t) ∙ append-nil _ ∙ rows_back org_part is_org orgs

pub role_back : (orgs : List Org) (t : Tables) → rows_in role_part (all_facts (sections_with orgs t)) ≡ t.roles
role_back orgs t = rows_found role_part is_role (sections_with orgs t) (are_sections orgs t) ∙ append-nil _ ∙ rows_back role_part is_role t.roles

pub tag_back : (orgs : List Org) (t : Tables) → rows_in tag_part (all_facts (sections_with orgs t)) ≡ t.tags
tag_back orgs t = rows_found tag_part is_tag (sections_with orgs t) (are_sections orgs t) ∙ append-nil _ ∙ rows_back tag_part is_tag t.tags

pub value_back : (orgs : List Org) (t : Tables) → rows_in value_part (all_facts (sections_with orgs t)) ≡ t.values
value_back orgs t = rows_found value_part is_value (sections_with orgs t) (are_sections orgs t) ∙ append-nil _ ∙ rows_back value_part is_value t.values

-- ---- put and cut

pub put_allow : (row : AllowPolicy) (orgs : List Org) (t : Tables) → put fact_order (fact.Allow row) (all_facts (sections_with orgs t)) ≡ all_facts (sections_with orgs (record t { allows = put (order_in allow_part) row t.allows }))
put_allow row orgs t = put_all (fact.Allow row) (sections_with orgs t) (are_sections orgs t) (ascending orgs t) ∙ rw (put_wrapped allow_part is_allow row t.allows) refl

pub put_bound : (row : BoundaryBinding) (orgs : List Org) (t : Tables) → put fact_order (fact.Bound row) (all_facts (sections_with orgs t)) ≡ all_facts (sections_with orgs (record t { bounds = put (order_in bound_part) row t.bounds }))
put_bound row orgs t = put_all (fact.Bound row) (sections_with orgs t) (are_sections orgs t) (ascending orgs t) ∙ rw (put_wrapped bound_part is_bound row t.bounds) refl

pub put_boundary : (row : Boundary) (orgs : List Org) (t : Tables) → put fact_order (fact.Boundary row) (all_facts (sections_with orgs t)) ≡ all_facts (sections_with orgs (record t { boundaries = put (order_in boundary_part) row t.boundaries }))
put_boundary row orgs t = put_all (fact.Boundary row) (sections_with orgs t) (are_sections orgs t) (ascending orgs t) ∙ rw (put_wrapped boundary_part is_boundary row t.boundaries) refl

pub put_deny : (row : DenyPolicy) (orgs : List Org) (t : Tables) → put fact_order (fact.Deny row) (all_facts (sections_with orgs t)) ≡ all_facts (sections_with orgs (record t { denies = put (order_in deny_part) row t.denies }))
put_deny row orgs t = put_all (fact.Deny row) (sections_with orgs t) (are_sections orgs t) (ascending orgs t) ∙ rw (put_wrapped deny_part is_deny row t.denies) refl

pub put_edge : (row : Edge) (orgs : List Org) (t : Tables) → put fact_order (fact.Edge row) (all_facts (sections_with orgs t)) ≡ all_facts (sections_with orgs (record t { edges = put (order_in edge_part) row t.edges }))
put_edge row orgs t = put_all (fact.Edge row) (sections_with orgs t) (are_sections orgs t) (ascending orgs t) ∙ rw (put_wrapped edge_part is_edge row t.edges) refl

pub put_group : (row : List ℕ) (orgs : List Org) (t : Tables) → put fact_order (fact.Group row) (all_facts (sections_with orgs t)) ≡ all_facts (sections_with orgs (record t { groups = put (order_in group_part) row t.groups }))
put_group row orgs t = put_all (fact.Group row) (sections_with orgs t) (are_sections orgs t) (ascending orgs t) ∙ rw (put_wrapped group_part is_group row t.groups) refl

pub put_key : (row : TagKey) (orgs : List Org) (t : Tables) → put fact_order (fact.Key row) (all_facts (sections_with orgs t)) ≡ all_facts (sections_with orgs (record t { keys = put (order_in key_part) row t.keys }))
put_key row orgs t = put_all (fact.Key row) (sections_with orgs t) (are_sections orgs t) (ascending orgs t) ∙ rw (put_wrapped key_part is_key row t.keys) refl

pub put_node : (row : Node) (orgs : List Org) (t : Tables) → put fact_order (fact.Node row) (all_facts (sections_with orgs t)) ≡ all_facts (sections_with orgs (record t { nodes = put (order_in node_part) row t.nodes }))
put_node row orgs t = put_all (fact.Node row) (sections_with orgs t) (are_sections orgs t) (ascending orgs t) ∙ rw (put_wrapped node_part is_node row t.nodes) refl

pub put_org : (row : Org) (orgs : List Org) (t : Tables) → put fact_order (fact.Org row) (all_facts (sections_with orgs t)) ≡ all_facts (sections_with (put (order_in org_part) row orgs) t)
put_org row orgs t = put_all (fact.Org row) (sections_with orgs t) (are_sections orgs t) (ascending orgs t) ∙ rw (put_wrapped org_part is_org row orgs) refl

pub put_role : (row : Role) (orgs : List Org) (t : Tables) → put fact_order (fact.Role row) (all_facts (sections_with orgs t)) ≡ all_facts (sections_with orgs (record t { roles = put (order_in role_part) row t.roles }))
put_role row orgs t = put_all (fact.Role row) (sections_with orgs t) (are_sections orgs t) (ascending orgs t) ∙ rw (put_wrapped role_part is_role row t.roles) refl

pub put_tag : (row : TagBinding) (orgs : List Org) (t : Tables) → put fact_order (fact.Tag row) (all_facts (sections_with orgs t)) ≡ all_facts (sections_with orgs (record t { tags = put (order_in tag_part) row t.tags }))
put_tag row orgs t = put_all (fact.Tag row) (sections_with orgs t) (are_sections orgs t) (ascending orgs t) ∙ rw (put_wrapped tag_part is_tag row t.tags) refl

pub put_value : (row : TagValue) (orgs : List Org) (t : Tables) → put fact_order (fact.Value row) (all_facts (sections_with orgs t)) ≡ all_facts (sections_with orgs (record t { values = put (order_in value_part) row t.values }))
put_value row orgs t = put_all (fact.Value row) (sections_with orgs t) (are_sections orgs t) (ascending orgs t) ∙ rw (put_wrapped value_part is_value row t.values) refl

pub cut_allow : (row : AllowPolicy) (orgs : List Org) (t : Tables) → filter (left_by (fact.Allow row)) (all_facts (sections_with orgs t)) ≡ all_facts (sections_with orgs (record t { allows = filter (λ other. not (is_eq (order_in allow_part row other))) t.allows }))
cut_allow row orgs t = cut_all (fact.Allow row) (sections_with orgs t) (are_sections orgs t) ∙ rw (cut_wrapped allow_part is_allow row t.allows) refl

pub cut_bound : (row : BoundaryBinding) (orgs : List Org) (t : Tables) → filter (left_by (fact.Bound row)) (all_facts (sections_with orgs t)) ≡ all_facts (sections_with orgs (record t { bounds = filter (λ other. not (is_eq (order_in bound_part row other))) t.bounds }))
cut_bound row orgs t = cut_all (fact.Bound row) (sections_with orgs t) (are_sections orgs t) ∙ rw (cut_wrapped bound_part is_bound row t.bounds) refl

pub cut_boundary : (row : Boundary) (orgs : List Org) (t : Tables) → filter (left_by (fact.Boundary row)) (all_facts (sections_with orgs t)) ≡ all_facts (sections_with orgs (record t { boundaries = filter (λ other. not (is_eq (order_in boundary_part row other))) t.boundaries }))
cut_boundary row orgs t = cut_all (fact.Boundary row) (sections_with orgs t) (are_sections orgs t) ∙ rw (cut_wrapped boundary_part is_boundary row t.boundaries) refl

pub cut_deny : (row : DenyPolicy) (orgs : List Org) (t : Tables) → filter (left_by (fact.Deny row)) (all_facts (sections_with orgs t)) ≡ all_facts (sections_with orgs (record t { denies = filter (λ other. not (is_eq (order_in deny_part row other))) t.denies }))
cut_deny row orgs t = cut_all (fact.Deny row) (sections_with orgs t) (are_sections orgs t) ∙ rw (cut_wrapped deny_part is_deny row t.denies) refl

pub cut_edge : (row : Edge) (orgs : List Org) (t : Tables) → filter (left_by (fact.Edge row)) (all_facts (sections_with orgs t)) ≡ all_facts (sections_with orgs (record t { edges = filter (λ other. not (is_eq (order_in edge_part row other))) t.edges }))
cut_edge row orgs t = cut_all (fact.Edge row) (sections_with orgs t) (are_sections orgs t) ∙ rw (cut_wrapped edge_part is_edge row t.edges) refl

pub cut_group : (row : List ℕ) (orgs : List Org) (t : Tables) → filter (left_by (fact.Group row)) (all_facts (sections_with orgs t)) ≡ all_facts (sections_with orgs (record t { groups = filter (λ other. not (is_eq (order_in group_part row other))) t.groups }))
cut_group row orgs t = cut_all (fact.Group row) (sections_with orgs t) (are_sections orgs t) ∙ rw (cut_wrapped group_part is_group row t.groups) refl

pub cut_key : (row : TagKey) (orgs : List Org) (t : Tables) → filter (left_by (fact.Key row)) (all_facts (sections_with orgs t)) ≡ all_facts (sections_with orgs (record t { keys = filter (λ other. not (is_eq (order_in key_part row other))) t.keys }))
cut_key row orgs t = cut_all (fact.Key row) (sections_with orgs t) (are_sections orgs t) ∙ rw (cut_wrapped key_part is_key row t.keys) refl

pub cut_node : (row : Node) (orgs : List Org) (t : Tables) → filter (left_by (fact.Node row)) (all_facts (sections_with orgs t)) ≡ all_facts (sections_with orgs (record t { nodes = filter (λ other. not (is_eq (order_in node_part row other))) t.nodes }))
cut_node row orgs t = cut_all (fact.Node row) (sections_with orgs t) (are_sections orgs t) ∙ rw (cut_wrapped node_part is_node row t.nodes) refl

pub cut_role : (row : Role) (orgs : List Org) (t : Tables) → filter (left_by (fact.Role row)) (all_facts (sections_with orgs t)) ≡ all_facts (sections_with orgs (record t { roles = filter (λ other. not (is_eq (order_in role_part row other))) t.roles }))
cut_role row orgs t = cut_all (fact.Role row) (sections_with orgs t) (are_sections orgs t) ∙ rw (cut_wrapped role_part is_role row t.roles) refl

pub cut_tag : (row : TagBinding) (orgs : List Org) (t : Tables) → filter (left_by (fact.Tag row)) (all_facts (sections_with orgs t)) ≡ all_facts (sections_with orgs (record t { tags = filter (λ other. not (is_eq (order_in tag_part row other))) t.tags }))
cut_tag row orgs t = cut_all (fact.Tag row) (sections_with orgs t) (are_sections orgs t) ∙ rw (cut_wrapped tag_part is_tag row t.tags) refl

pub cut_value : (row : TagValue) (orgs : List Org) (t : Tables) → filter (left_by (fact.Value row)) (all_facts (sections_with orgs t)) ≡ all_facts (sections_with orgs (record t { values = filter (λ other. not (is_eq (order_in value_part row other))) t.values }))
cut_value row orgs t = cut_all (fact.Value row) (sections_with orgs t) (are_sections orgs t) ∙ rw (cut_wrapped value_part is_value row t.values) refl

-- ---- the tables of facts

pub same_head : {X : Type 0} (x y : X) → x ∷ [] ≡ y ∷ [] → x ≡ y
same_head x y h = cc

-- tables are told by their lists
pub same_tables : (a b : Tables) → a.org ≡ b.org → a.allows ≡ b.allows → a.bounds ≡ b.bounds → a.boundaries ≡ b.boundaries → a.denies ≡ b.denies → a.edges ≡ b.edges → a.groups ≡ b.groups → a.keys ≡ b.keys → a.nodes ≡ b.nodes → a.roles ≡ b.roles → a.tags ≡ b.tags → a.values ≡ b.values → a ≡ b
same_tables a b org allows bounds boundaries denies edges groups keys nodes roles tags values =
    let whole : Tables = record { org = a.org; allows = a.allows; bounds = a.bounds; boundaries = a.boundaries; denies = a.denies; edges = a.edges; groups = a.groups; keys = a.keys; nodes = a.nodes; roles = a.roles; tags = a.tags; values = a.values } in
    let same : whole ≡ b = rw (org, allows, bounds, boundaries, denies, edges, groups, keys, nodes, roles, tags, values) refl in
    same

pub told : (a b : Tables) → facts_of a ≡ facts_of b → a ≡ b
told a b same =
    same_tables a b (same_head a.org b.org (sym (org_back (a.org ∷ []) a) ∙ ap (rows_in org_part) same ∙ org_back (b.org ∷ []) b))
    (sym (allow_back (a.org ∷ []) a) ∙ ap (rows_in allow_part) same ∙ allow_back (b.org ∷ []) b)
    (sym (bound_back (a.org ∷ []) a) ∙ ap (rows_in bound_part) same ∙ bound_back (b.org ∷ []) b)
    (sym (boundary_back (a.org ∷ []) a) ∙ ap (rows_in boundary_part) same ∙ boundary_back (b.org ∷ []) b)
    (sym (deny_back (a.org ∷ []) a) ∙ ap (rows_in deny_part) same ∙ deny_back (b.org ∷ []) b)
    (sym (edge_back (a.org ∷ []) a) ∙ ap (rows_in edge_part) same ∙ edge_back (b.org ∷ []) b)
    (sym (group_back (a.org ∷ []) a) ∙ ap (rows_in group_part) same ∙ group_back (b.org ∷ []) b)
    (sym (key_back (a.org ∷ []) a) ∙ ap (rows_in key_part) same ∙ key_back (b.org ∷ []) b)
    (sym (node_back (a.org ∷ []) a) ∙ ap (rows_in node_part) same ∙ node_back (b.org ∷ []) b)
    (sym (role_back (a.org ∷ []) a) ∙ ap (rows_in role_part) same ∙ role_back (b.org ∷ []) b)
    (sym (tag_back (a.org ∷ []) a) ∙ ap (rows_in tag_part) same ∙ tag_back (b.org ∷ []) b)
    (sym (value_back (a.org ∷ []) a) ∙ ap (rows_in value_part) same ∙ value_back (b.org ∷ []) b)

-- the facts of the tables of facts are those in their places
pub tables_placed : (any : Org) (facts : List Fact) → placed fact_order facts ≡ all_facts (sections_with (table_of org_part facts) (tables_with any facts))
tables_placed any [] = refl
tables_placed any (fact.Allow row ∷ facts) = ap (put fact_order (fact.Allow row)) (tables_placed any facts) ∙ put_allow row (table_of org_part facts) (tables_with any facts)
tables_placed any (fact.Bound row ∷ facts) = ap (put fact_order (fact.Bound row)) (tables_placed any facts) ∙ put_bound row (table_of org_part facts) (tables_with any facts)
tables_placed any (fact.Boundary row ∷ facts) = ap (put fact_order (fact.Boundary row)) (tables_placed any facts) ∙ put_boundary row (table_of org_part facts) (tables_with any facts)
tables_placed any (fact.Deny row ∷ facts) = ap (put fact_order (fact.Deny row)) (tables_placed any facts) ∙ put_deny row (table_of org_part facts) (tables_with any facts)
tables_placed any (fact.Edge row ∷ facts) = ap (put fact_order (fact.Edge row)) (tables_placed any facts) ∙ put_edge row (table_of org_part facts) (tables_with any facts)
tables_placed any (fact.Group row ∷ facts) = ap (put fact_order (fact.Group row)) (tables_placed any facts) ∙ put_group row (table_of org_part facts) (tables_with any facts)
tables_placed any (fact.Key row ∷ facts) = ap (put fact_order (fact.Key row)) (tables_placed any facts) ∙ put_key row (table_of org_part facts) (tables_with any facts)
tables_placed any (fact.Node row ∷ facts) = ap (put fact_order (fact.Node row)) (tables_placed any facts) ∙ put_node row (table_of org_part facts) (tables_with any facts)
tables_placed any (fact.Org row ∷ facts) = ap (put fact_order (fact.Org row)) (tables_placed any facts) ∙ put_org row (table_of org_part facts) (tables_with any facts)
tables_placed any (fact.Role row ∷ facts) = ap (put fact_order (fact.Role row)) (tables_placed any facts) ∙ put_role row (table_of org_part facts) (tables_with any facts)
tables_placed any (fact.Tag row ∷ facts) = ap (put fact_order (fact.Tag row)) (tables_placed any facts) ∙ put_tag row (table_of org_part facts) (tables_with any facts)
tables_placed any (fact.Value row ∷ facts) = ap (put fact_order (fact.Value row)) (tables_placed any facts) ∙ put_value row (table_of org_part facts) (tables_with any facts)

-- facts that are, in their places, those of tables give their lists
pub given_back : (facts : List Fact) (t : Tables) → placed fact_order facts ≡ facts_of t → (table_of org_part facts ≡ t.org ∷ []) × (t ≡ tables_with t.org facts)
given_back facts t same =
    let both : all_facts (sections_with (table_of org_part facts) (tables_with t.org facts)) ≡ facts_of t = sym (tables_placed t.org facts) ∙ same in (
      sym (org_back (table_of org_part facts) (tables_with t.org facts)) ∙ ap (rows_in org_part) both ∙ org_back (t.org ∷ []) t,
      same_tables t (tables_with t.org facts) refl
          (sym (allow_back (t.org ∷ []) t) ∙ ap (rows_in allow_part) (sym both) ∙ allow_back (table_of org_part facts) (tables_with t.org facts))
          (sym (bound_back (t.org ∷ []) t) ∙ ap (rows_in bound_part) (sym both) ∙ bound_back (table_of org_part facts) (tables_with t.org facts))
          (sym (boundary_back (t.org ∷ []) t) ∙ ap (rows_in boundary_part) (sym both) ∙ boundary_back (table_of org_part facts) (tables_with t.org facts))
          (sym (deny_back (t.org ∷ []) t) ∙ ap (rows_in deny_part) (sym both) ∙ deny_back (table_of org_part facts) (tables_with t.org facts))
          (sym (edge_back (t.org ∷ []) t) ∙ ap (rows_in edge_part) (sym both) ∙ edge_back (table_of org_part facts) (tables_with t.org facts))
          (sym (group_back (t.org ∷ []) t) ∙ ap (rows_in group_part) (sym both) ∙ group_back (table_of org_part facts) (tables_with t.org facts))
          (sym (key_back (t.org ∷ []) t) ∙ ap (rows_in key_part) (sym both) ∙ key_back (table_of org_part facts) (tables_with t.org facts))
          (sym (node_back (t.org ∷ []) t) ∙ ap (rows_in node_part) (sym both) ∙ node_back (table_of org_part facts) (tables_with t.org facts))
          (sym (role_back (t.org ∷ []) t) ∙ ap (rows_in role_part) (sym both) ∙ role_back (table_of org_part facts) (tables_with t.org facts))
          (sym (tag_back (t.org ∷ []) t) ∙ ap (rows_in tag_part) (sym both) ∙ tag_back (table_of org_part facts) (tables_with t.org facts))
          (sym (value_back (t.org ∷ []) t) ∙ ap (rows_in value_part) (sym both) ∙ value_back (table_of org_part facts) (tables_with t.org facts)),
    )
