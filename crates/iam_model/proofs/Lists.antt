-- The lists of the tables, by the facts that they stand for.
use Rattle.std.proofs.Common.{◌≡◌, inl, inr, false, ◌+◌, List, [], ◌∷◌, ◌++◌, map, length, Some, refl, sym, ap, subst, ◌∙◌, arith}
use Rattle.std.specs.List.{All}
use Rattle.std.specs.Ordering.{is_eq}
use Rattle.std.specs.declared.cmp.Ordering.TheVariants.{Less}
use Rattle.std.proofs.lemmas.List.Elements.{All-cons, All-head, All-tail, All-nil, All-weaker}
use Rattle.iam_text.specs.Put.{put, placed, IsInOrder}
use Rattle.iam_types.specs.declared.allow.AllowPolicy.{AllowPolicy}
use Rattle.iam_types.specs.declared.fact.Fact.{Fact}
use Rattle.iam_types.specs.declared.fact.Fact.TheVariants as fact
use Rattle.iam_types.specs.declared.node.Node.{Node}
use Rattle.iam_types.specs.declared.node.Org.{Org}
use Rattle.iam_types.specs.declared.tables.Tables.{Tables}
use Rattle.iam_model.specs.Consistent.{Consistent, NothingElse}
use Rattle.iam_model.specs.Facts.{AreApart, fact_order, facts_of, same_place, tables_with}
use Rattle.iam_model.specs.Formed.{IsFact, IsNodeFact, IsOrgFact, IsPolicyFact}
use Rattle.iam_model.specs.Part.{AreApartBy, Part, order_in, rows_in, table_of}
use Rattle.iam_model.specs.Parts.{allow_part, bound_part, boundary_part, deny_part, edge_part, group_part, key_part, node_part, org_part, role_part, tag_part, value_part}
use Rattle.iam_model.proofs.Parted.{IsPart, wrap_order}
use Rattle.iam_model.proofs.Parts.{allow_back, bound_back, boundary_back, deny_back, edge_back, group_back, key_back, node_back, org_back, role_back, tag_back, value_back, is_allow, is_bound, is_boundary, is_deny, is_edge, is_group, is_key, is_node, is_org, is_role, is_tag, is_value}
use Rattle.iam_model.proofs.Placing.{All-placed, ordered_apart, put_apart, put_some}

-- what holds of facts holds of the rows of a part among them
pub rows_hold : {A : Type 0} (p : Part A) → IsPart A p → (P : Fact → Type 0) (facts : List Fact) → All P facts → All (λ row. P (p.wrap row)) (rows_in p facts)
rows_hold {A} p is P [] all = All-nil (λ (row : A). P (p.wrap row))
rows_hold {A} p is P (fact ∷ facts) all =
    let more : All (λ (row : A). P (p.wrap row)) (rows_in p facts) = rows_hold p is P facts (All-tail P fact facts all) in
    elim (is.own fact) [
      | inl none ↦ rw none more
      | inr owned ↦
          let out : p.out fact ≡ Some owned.0 = ap p.out owned.1 ∙ is.back owned.0 in
          rw out (All-cons (λ (row : A). P (p.wrap row)) owned.0 (rows_in p facts) (subst P owned.1 (All-head P fact facts all)) more)
    ]

-- ---- what is kept

pub org_formed : (t : Tables) → Consistent t → IsOrgFact t.org
org_formed t consistent = All-head IsOrgFact t.org [] (subst (λ (orgs : List Org). All IsOrgFact orgs) (org_back (t.org ∷ []) t) (rows_hold org_part is_org IsFact (facts_of t) consistent.formed))

pub policies_formed : (t : Tables) → Consistent t → All IsPolicyFact t.allows
policies_formed t consistent = subst (λ (rows : List AllowPolicy). All IsPolicyFact rows) (allow_back (t.org ∷ []) t) (rows_hold allow_part is_allow IsFact (facts_of t) consistent.formed)

pub nodes_formed : (t : Tables) → Consistent t → All IsNodeFact t.nodes
nodes_formed t consistent = subst (λ (rows : List Node). All IsNodeFact rows) (node_back (t.org ∷ []) t) (rows_hold node_part is_node IsFact (facts_of t) consistent.formed)

none : {A : Type 0} (rows : List A) → All (λ row. ⊥) rows → rows ≡ []
none [] all = refl
none {A} (row ∷ rows) all = absurd (All-head (λ (r : A). ⊥) row rows all)

-- no row of a part is kept whose facts are never well formed
none_kept : {A : Type 0} (p : Part A) → IsPart A p → ((row : A) → IsFact (p.wrap row) → ⊥) → (facts : List Fact) → All IsFact facts → (rows : List A) → rows_in p facts ≡ rows → rows ≡ []
none_kept {A} p is never facts formed rows same =
    none rows (subst (λ (rs : List A). All (λ (r : A). ⊥) rs) same (All-weaker (λ (row : A). IsFact (p.wrap row)) (λ (row : A). ⊥) never (rows_in p facts) (rows_hold p is IsFact facts formed)))

pub nothing_else : (t : Tables) → Consistent t → NothingElse t
nothing_else t consistent =
    let formed : All IsFact (facts_of t) = consistent.formed in
    record {
      bounds = none_kept bound_part is_bound (λ row h. h) (facts_of t) formed t.bounds (bound_back (t.org ∷ []) t);
      boundaries = none_kept boundary_part is_boundary (λ row h. h) (facts_of t) formed t.boundaries (boundary_back (t.org ∷ []) t);
      denies = none_kept deny_part is_deny (λ row h. h) (facts_of t) formed t.denies (deny_back (t.org ∷ []) t);
      edges = none_kept edge_part is_edge (λ row h. h) (facts_of t) formed t.edges (edge_back (t.org ∷ []) t);
      groups = none_kept group_part is_group (λ row h. h) (facts_of t) formed t.groups (group_back (t.org ∷ []) t);
      keys = none_kept key_part is_key (λ row h. h) (facts_of t) formed t.keys (key_back (t.org ∷ []) t);
      roles = none_kept role_part is_role (λ row h. h) (facts_of t) formed t.roles (role_back (t.org ∷ []) t);
      tags = none_kept tag_part is_tag (λ row h. h) (facts_of t) formed t.tags (tag_back (t.org ∷ []) t);
      values = none_kept value_part is_value (λ row h. h) (facts_of t) formed t.values (value_back (t.org ∷ []) t);
    }

-- well formed facts give no row of such a part
none_given : {A : Type 0} (p : Part A) → IsPart A p → ((row : A) → IsFact (p.wrap row) → ⊥) → (facts : List Fact) → All IsFact facts → table_of p facts ≡ []
none_given p is never facts formed = ap (placed (order_in p)) (none_kept p is never facts formed (rows_in p facts) refl)

pub nothing_else_given : (facts : List Fact) (org : Org) → All IsFact facts → NothingElse (tables_with org facts)
nothing_else_given facts org formed = record {
  bounds = none_given bound_part is_bound (λ row h. h) facts formed;
  boundaries = none_given boundary_part is_boundary (λ row h. h) facts formed;
  denies = none_given deny_part is_deny (λ row h. h) facts formed;
  edges = none_given edge_part is_edge (λ row h. h) facts formed;
  groups = none_given group_part is_group (λ row h. h) facts formed;
  keys = none_given key_part is_key (λ row h. h) facts formed;
  roles = none_given role_part is_role (λ row h. h) facts formed;
  tags = none_given tag_part is_tag (λ row h. h) facts formed;
  values = none_given value_part is_value (λ row h. h) facts formed;
}

-- the facts of tables of nothing else
pub facts_are_few : (t : Tables) → Consistent t → facts_of t ≡ map (λ policy. fact.Allow policy) t.allows ++ (map (λ node. fact.Node node) t.nodes ++ fact.Org t.org ∷ [])
facts_are_few t consistent =
    let else : NothingElse t = nothing_else t consistent in
    rw (else.bounds, else.boundaries, else.denies, else.edges, else.groups, else.keys, else.roles, else.tags, else.values) refl

-- ---- the one organisation

-- facts apart have rows apart
rows_apart : {A : Type 0} (p : Part A) → IsPart A p → (facts : List Fact) → AreApart facts → AreApartBy (order_in p) (rows_in p facts)
rows_apart p is [] apart = tt
rows_apart {A} p is (fact ∷ facts) apart = elim (is.own fact) [
  | inl none ↦ rw none (rows_apart p is facts apart.1)
  | inr owned ↦
      let out : p.out fact ≡ Some owned.0 = ap p.out owned.1 ∙ is.back owned.0 in
      let others : All (λ (f : Fact). same_place (p.wrap owned.0) f ≡ false) facts = subst (λ (first : Fact). All (λ (f : Fact). same_place first f ≡ false) facts) owned.1 apart.0 in
      let rows : All (λ (other : A). is_eq (order_in p owned.0 other) ≡ false) (rows_in p facts) =
      All-weaker (λ (other : A). same_place (p.wrap owned.0) (p.wrap other) ≡ false) (λ (other : A). is_eq (order_in p owned.0 other) ≡ false) (λ other differs. sym (ap is_eq (wrap_order p is owned.0 other)) ∙ differs) (rows_in p facts)
      (rows_hold p is (λ (f : Fact). same_place (p.wrap owned.0) f ≡ false) facts others) in
      rw out (rows, rows_apart p is facts apart.1)
]

-- facts in order have rows in order
rows_ordered : {A : Type 0} (p : Part A) → IsPart A p → (facts : List Fact) → IsInOrder fact_order facts → IsInOrder (order_in p) (rows_in p facts)
rows_ordered p is [] ordered = tt
rows_ordered {A} p is (fact ∷ facts) ordered = elim (is.own fact) [
  | inl none ↦ rw none (rows_ordered p is facts ordered.1)
  | inr owned ↦
      let out : p.out fact ≡ Some owned.0 = ap p.out owned.1 ∙ is.back owned.0 in
      let others : All (λ (f : Fact). fact_order (p.wrap owned.0) f ≡ Less) facts = subst (λ (first : Fact). All (λ (f : Fact). fact_order first f ≡ Less) facts) owned.1 ordered.0 in
      let rows : All (λ (other : A). order_in p owned.0 other ≡ Less) (rows_in p facts) =
      All-weaker (λ (other : A). fact_order (p.wrap owned.0) (p.wrap other) ≡ Less) (λ (other : A). order_in p owned.0 other ≡ Less) (λ other less. sym (wrap_order p is owned.0 other) ∙ less) (rows_in p facts)
      (rows_hold p is (λ (f : Fact). fact_order (p.wrap owned.0) f ≡ Less) facts others) in
      rw out (rows, rows_ordered p is facts ordered.1)
]

-- the nodes of consistent tables stand in their order
pub nodes_ordered : (t : Tables) → Consistent t → IsInOrder (order_in node_part) t.nodes
nodes_ordered t consistent = subst (λ (rows : List Node). IsInOrder (order_in node_part) rows) (node_back (t.org ∷ []) t) (rows_ordered node_part is_node (facts_of t) consistent.ordered)

-- so in places of their own
pub nodes_apart : (t : Tables) → Consistent t → AreApartBy (order_in node_part) t.nodes
nodes_apart t consistent = ordered_apart (order_in node_part) t.nodes (nodes_ordered t consistent)

-- rows apart that leave one in its place are this one
only_row : {A : Type 0} (p : Part A) (rows : List A) (x : A) → AreApartBy (order_in p) rows → placed (order_in p) rows ≡ x ∷ [] → rows ≡ x ∷ []
only_row p [] x apart same = absurd (cc)
only_row p (row ∷ []) x apart same = same
only_row {A} p (row ∷ next ∷ rows) x apart same =
    let others : List A = placed (order_in p) (next ∷ rows) in
    let behind : All (λ (other : A). is_eq (order_in p row other) ≡ false) others = All-placed (λ (other : A). is_eq (order_in p row other) ≡ false) (order_in p) (next ∷ rows) apart.0 in
    let longer : length (put (order_in p) row others) ≡ length others + 1 = put_apart (order_in p) row others behind in
    let one : length (put (order_in p) row others) ≡ 1 = ap (λ (xs : List A). length xs) same in
    absurd (omega (arith, longer, one, put_some (order_in p) next (placed (order_in p) rows)))

-- facts apart whose places have one organisation have it alone
pub only_org : (facts : List Fact) (org : Org) → AreApart facts → table_of org_part facts ≡ org ∷ [] → rows_in org_part facts ≡ org ∷ []
only_org facts org apart same = only_row org_part (rows_in org_part facts) org (rows_apart org_part is_org facts apart) same
