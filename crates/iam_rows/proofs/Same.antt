-- Well formed facts of one row are the same.
use Rattle.std.proofs.Common.{◌≡◌, ℕ, Bool, List, [], ◌∷◌, map, refl, sym, ap, ◌∙◌}
use Rattle.std.specs.Prelude.{All, Some, None, IsSomeAnd}
use Rattle.std.specs.declared.option.Option.{Option}
use Rattle.std.specs.List.{AllByRecursion as Each}
use Rattle.std.proofs.lemmas.List.Elements.{recursion_from_All}
use Rattle.serde_json.specs.Data.{Data}
use Rattle.serde_json.specs.View.{items_of}
use Rattle.iam_names.specs.Member.{IsMember, member_text}
use Rattle.iam_names.specs.Role.{role_text}
use Rattle.iam_names.specs.declared.member.Member.{Member}
use Rattle.iam_names.specs.Node.{IsNodeId, node_id_text}
use Rattle.iam_names.specs.declared.node.NodeId.{NodeId}
use Rattle.iam_names.specs.declared.role.RoleName.{RoleName}
use Rattle.iam_names.proofs.Told.{member_told, node_id_told, role_told}
use Rattle.iam_types.specs.declared.allow.AllowPolicy.{AllowPolicy}
use Rattle.iam_types.specs.declared.allow.Binding.{Binding}
use Rattle.iam_types.specs.declared.fact.Fact.{Fact}
use Rattle.iam_types.specs.declared.fact.Fact.TheVariants as fact
use Rattle.iam_types.specs.declared.node.Node.{Node}
use Rattle.iam_types.specs.declared.node.Org.{Org}
use Rattle.iam_json_data.specs.Printed.{printed}
use Rattle.iam_json_data.specs.Shown.{member_data, binding_data}
use Rattle.iam_model.specs.Formed.{IsFact}
use Rattle.iam_outer.specs.declared.keeper.Row.{Row}
use Rattle.iam_rows.specs.Finding.{IsFactOf}
use Rattle.iam_rows.specs.Kept.{AreRows, AreFactsOf}
use Rattle.iam_rows.specs.Rows.{HasRow, data_of, node_data, node_members, org_data, policy_data}
use Rattle.iam_rows.proofs.Back.{node_read, org_read, policy_read}
use Rattle.iam_rows.proofs.Formed.{IsKept, all_kept}
use Rattle.iam_rows.proofs.Kept.{plain_binding, without_condition}
use Rattle.iam_rows.proofs.Like.{IsNodeRow, IsOrgRow, IsPolicyRow, one_number, node_meant, org_meant, policy_meant}

-- ---- the organisation

abbrev org_of : ℕ → List ℕ → List ℕ → ℕ → ℕ → Org
org_of n domain customer next changes = record { number = n; domain = domain; customer = customer; next = next; changes = changes }

same_fields : (n m : ℕ) (domain other customer last : List ℕ) (next after changes count : ℕ) → n ≡ m → domain ≡ other → customer ≡ last → next ≡ after → changes ≡ count
    → org_of n domain customer next changes ≡ org_of m other last after count
same_fields n m domain other customer last next after changes count a b c d e = rw (a, b, c, d, e) refl

same_org : (row : Row) (a b : Org) → IsOrgRow row a → IsOrgRow row b → a ≡ b
same_org row a b h g =
    let x = org_read row.body a h.0 h.1.2 in
    let y = org_read row.body b g.0 g.1.2 in
    let shown : org_data a ≡ org_data b = cc (x, y) in
    let number = one_number a.number b.number h.0.formed.number g.0.formed.number (sym h.1.1 ∙ g.1.1) in
    let changes : a.changes ≡ b.changes = cc (shown) in
    let next : a.next ≡ b.next = cc (shown) in
    let domain : a.domain ≡ b.domain = cc (shown) in
    let customer : a.customer ≡ b.customer = cc (shown) in
    same_fields a.number b.number a.domain b.domain a.customer b.customer a.next b.next a.changes b.changes number domain customer next changes

-- ---- policies

-- lists are the same whose things are shown the same, where each is told by what it is shown as
same_list : {A : Type 0} (shown : A → Data) (F : A → Type 0) → ((a b : A) → F a → F b → shown a ≡ shown b → a ≡ b)
    → (xs ys : List A) → Each F xs → Each F ys → items_of (map shown xs) ≡ items_of (map shown ys) → xs ≡ ys
same_list shown F one [] [] f g e = refl
same_list shown F one [] (y ∷ ys) f g e = absurd (cc e)
same_list shown F one (x ∷ xs) [] f g e = absurd (cc e)
same_list shown F one (x ∷ xs) (y ∷ ys) f g e =
    let here : shown x ≡ shown y = cc e in
    let more : items_of (map shown xs) ≡ items_of (map shown ys) = cc e in
    let a = one x y f.0 g.0 here in
    let b = same_list shown F one xs ys f.1 g.1 more in
    cc (a, b)

same_member : (a b : Member) → IsMember a → IsMember b → member_data a ≡ member_data b → a ≡ b
same_member a b f g e = let same : member_text a ≡ member_text b = cc e in member_told a b f g same

same_plain : (role other : RoleName) (members others : List Member) → role ≡ other → members ≡ others → plain_binding role members ≡ plain_binding other others
same_plain role other members others a b = rw (a, b) refl

same_binding : (a b : Binding) → IsKept a → IsKept b → binding_data a ≡ binding_data b → a ≡ b
same_binding a b f g e =
    let plain_a = without_condition a f.3 in
    let plain_b = without_condition b g.3 in
    let shown : binding_data (plain_binding a.role a.members) ≡ binding_data (plain_binding b.role b.members) = sym (ap binding_data plain_a) ∙ e ∙ ap binding_data plain_b in
    let texts : role_text a.role ≡ role_text b.role = cc shown in
    let items : items_of (map member_data a.members) ≡ items_of (map member_data b.members) = cc shown in
    let role = role_told a.role b.role f.0 g.0 texts in
    let members = same_list member_data IsMember same_member a.members b.members f.1 g.1 items in
    plain_a ∙ same_plain a.role b.role a.members b.members role members ∙ sym plain_b

abbrev policy_of : NodeId → List Binding → ℕ → AllowPolicy
policy_of node bindings set = record { node = node; bindings = bindings; set = set }

same_parts : (node last : NodeId) (bindings others : List Binding) (set after : ℕ) → node ≡ last → bindings ≡ others → set ≡ after → policy_of node bindings set ≡ policy_of last others after
same_parts node last bindings others set after a b c = rw (a, b, c) refl

same_policy : (row : Row) (a b : AllowPolicy) → IsPolicyRow row a → IsPolicyRow row b → a ≡ b
same_policy row a b h g =
    let x = policy_read row.body a h.0 h.1.2 in
    let y = policy_read row.body b g.0 g.1.2 in
    let shown : policy_data a ≡ policy_data b = cc (x, y) in
    let set : a.set ≡ b.set = cc shown in
    let items : items_of (map binding_data a.bindings) ≡ items_of (map binding_data b.bindings) = cc shown in
    let bindings = same_list binding_data IsKept same_binding a.bindings b.bindings (all_kept a.bindings h.0.bindings) (all_kept b.bindings g.0.bindings) items in
    let node = node_id_told a.node b.node h.0.node g.0.node (sym h.1.1 ∙ g.1.1) in
    same_parts a.node b.node a.bindings b.bindings a.set b.set node bindings set

-- ---- folders and projects

same_members : (active other : Bool) (display last : List ℕ) (parent above : NodeId) (project id : Option (List ℕ)) → IsNodeId parent → IsNodeId above
    → node_members active display parent project ≡ node_members other last above id → (active ≡ other) × (display ≡ last) × (parent ≡ above) × (project ≡ id)
same_members active other display last parent above None None f g e =
    let names : node_id_text parent ≡ node_id_text above = cc e in (cc e, cc e, node_id_told parent above f g names, refl)
same_members active other display last parent above None (Some id) f g e = absurd (cc e)
same_members active other display last parent above (Some project) None f g e = absurd (cc e)
same_members active other display last parent above (Some project) (Some id) f g e =
    let names : node_id_text parent ≡ node_id_text above = cc e in
    let ids : project ≡ id = cc e in
    (cc e, cc e, node_id_told parent above f g names, ap (λ (i : List ℕ). Some i) ids)

abbrev node_of : NodeId → NodeId → List ℕ → Option (List ℕ) → Bool → Node
node_of id parent display project active = record { id = id; parent = parent; display = display; project = project; active = active }

same_node_parts : (id other parent above : NodeId) (display last : List ℕ) (project given : Option (List ℕ)) (active state : Bool) → id ≡ other → parent ≡ above → display ≡ last → project ≡ given → active ≡ state
    → node_of id parent display project active ≡ node_of other above last given state
same_node_parts id other parent above display last project given active state a b c d e = rw (a, b, c, d, e) refl

same_node : (row : Row) (a b : Node) → IsNodeRow row a → IsNodeRow row b → a ≡ b
same_node row a b h g =
    let x = node_read row.body a h.1.2 in
    let y = node_read row.body b g.1.2 in
    let shown : node_data a ≡ node_data b = cc (x, y) in
    let parts = same_members a.active b.active a.display b.display a.parent b.parent a.project b.project h.0.parent g.0.parent shown in
    let id = node_id_told a.id b.id h.0.id g.0.id (sym h.1.1 ∙ g.1.1) in
    same_node_parts a.id b.id a.parent b.parent a.display b.display a.project b.project a.active b.active id parts.2 parts.1 parts.3 parts.0

-- ---- facts

pub same_fact : (row : Row) (a b : Fact) → IsFactOf row a → IsFactOf row b → a ≡ b
same_fact row (fact.Org x) b h g = org_meant row x h.1.0 (λ kept is. same_org row x kept h is) b g
same_fact row (fact.Node x) b h g = node_meant row x h.1.0 (λ kept is. same_node row x kept h is) b g
same_fact row (fact.Key x) b h g = absurd h.0
same_fact row (fact.Value x) b h g = absurd h.0
same_fact row (fact.Tag x) b h g = absurd h.0
same_fact row (fact.Group x) b h g = absurd h.0
same_fact row (fact.Edge x) b h g = absurd h.0
same_fact row (fact.Role x) b h g = absurd h.0
same_fact row (fact.Allow x) b h g = policy_meant row x h.1.0 (λ kept is. same_policy row x kept h is) b g
same_fact row (fact.Deny x) b h g = absurd h.0
same_fact row (fact.Boundary x) b h g = absurd h.0
same_fact row (fact.Bound x) b h g = absurd h.0

printed_again : (shown : Option Data) (a b : List ℕ) → IsSomeAnd shown (λ body. a ≡ printed body) → a ≡ b → IsSomeAnd shown (λ body. b ≡ printed body)
printed_again None a b h e = h
printed_again (Some body) a b h e = sym e ∙ h

printed_once : (shown : Option Data) (a b : List ℕ) → IsSomeAnd shown (λ body. a ≡ printed body) → IsSomeAnd shown (λ body. b ≡ printed body) → a ≡ b
printed_once None a b h k = absurd h
printed_once (Some body) a b h k = h ∙ sym k

-- a fact has all rows that are the same as one of its rows
pub has_same_row : (fact : Fact) (again row : Row) → HasRow fact again → (again.part ≡ row.part) × (again.name ≡ row.name) × (again.body ≡ row.body) → HasRow fact row
has_same_row fact again row h e = (sym e.0 ∙ h.0, sym e.1 ∙ h.1, printed_again (data_of fact) again.body row.body h.2 e.2)

-- and no other
pub one_row : (fact : Fact) (again row : Row) → HasRow fact again → HasRow fact row → (again.part ≡ row.part) × (again.name ≡ row.name) × (again.body ≡ row.body)
one_row fact again row h k = (h.0 ∙ sym k.0, h.1 ∙ sym k.1, printed_once (data_of fact) again.body row.body h.2 k.2)

same_each : (a b : List Fact) (rows : List Row) → Each IsFact a → Each IsFact b → AreRows a rows → AreRows b rows → a ≡ b
same_each [] [] [] f g h k = refl
same_each [] [] (r ∷ rows) f g h k = refl
same_each [] (y ∷ b) [] f g h k = absurd k
same_each [] (y ∷ b) (r ∷ rows) f g h k = absurd h
same_each (x ∷ a) [] [] f g h k = absurd h
same_each (x ∷ a) [] (r ∷ rows) f g h k = absurd k
same_each (x ∷ a) (y ∷ b) [] f g h k = absurd h
same_each (x ∷ a) (y ∷ b) (r ∷ rows) f g h k =
    let first = same_fact r x y (f.0, h.0) (g.0, k.0) in
    let more = same_each a b rows f.1 g.1 h.1 k.1 in
    cc (first, more)

pub same_facts : (a b : List Fact) (rows : List Row) → All IsFact a → All IsFact b → AreRows a rows → AreRows b rows → a ≡ b
same_facts a b rows f g h k = same_each a b rows (recursion_from_All IsFact a f) (recursion_from_All IsFact b g) h k

pub read_kept : (rows : List Row) (facts : List Fact) → AreFactsOf rows facts → AreRows facts rows
read_kept [] [] are = tt
read_kept [] (f ∷ facts) are = absurd are
read_kept (r ∷ rows) [] are = absurd are
read_kept (r ∷ rows) (f ∷ facts) are = (are.0.1, read_kept rows facts are.1)
