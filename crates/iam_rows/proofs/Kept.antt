-- What is read of the bodies of kept facts, and what of that is well formed.
use Rattle.std.proofs.Common.{◌≡◌, ℕ, Bool, List, [], Option, Some, None, Result, Ok, Err, codes, refl, sym, ap, ◌∙◌, subst, unwrap_or}
use Rattle.std.specs.Prelude.{option_map}
use Rattle.serde_json.specs.Data.{Data, boolean, number, unsigned, string}
use Rattle.iam_names.specs.Member.{IsMember, member_text}
use Rattle.iam_names.specs.Node.{IsNodeId, node_id_text}
use Rattle.iam_names.specs.Role.{IsRoleName, role_text}
use Rattle.iam_names.specs.declared.node.NodeId.{NodeId}
use Rattle.iam_names.specs.declared.member.Member.{Member}
use Rattle.iam_names.specs.declared.role.RoleName.{RoleName}
use Rattle.iam_types.specs.declared.allow.Binding.{Binding}
use Rattle.iam_types.specs.declared.allow.AllowPolicy.{AllowPolicy}
use Rattle.iam_types.specs.declared.allow.Condition.{Condition}
use Rattle.iam_types.specs.declared.node.Node.{Node}
use Rattle.iam_types.specs.declared.node.Org.{Org}
use Rattle.iam_json_data.specs.Printed.{list_data}
use Rattle.iam_json_data.specs.Shown.{member_data, binding_data}
use Rattle.iam_json_data.specs.Reading.{Then, ReadsText, ReadsNumber, ReadsList, ReadsMember, ReadsRequired, present}
use Rattle.iam_json_data.specs.Readers.{ReadsAbsent, ReadsBinding}
use Rattle.std.specs.List.{AllByRecursion as Each}
use Rattle.iam_rows.proofs.Formed.{IsKept}
use Rattle.iam_rows.specs.Rows.{node_data, node_members, org_data, policy_data}
use Rattle.iam_rows.specs.Bodies.{ReadsAnyText, ReadsCounts, ReadsFlag, ReadsNamedNode, ReadsNodeBody, ReadsOwner, ReadsOrgBody, ReadsPolicyBody}
use Rattle.iam_rows.specs.declared.body.AnyText.{AnyText}
use Rattle.iam_rows.specs.declared.body.Counts.{Counts}
use Rattle.iam_rows.specs.declared.body.Flag.{Flag}
use Rattle.iam_rows.specs.declared.body.NamedNode.{NamedNode}
use Rattle.iam_rows.specs.declared.body.NodeBody.{NodeBody}
use Rattle.iam_rows.specs.declared.body.Owner.{Owner}
use Rattle.iam_rows.specs.declared.body.OrgBody.{OrgBody}
use Rattle.iam_rows.specs.declared.body.PolicyBody.{PolicyBody}
use Rattle.iam_names.proofs.Told.{member_told, node_id_told, role_told}
use Rattle.iam_rows.proofs.Telling.{text_told, number_told, items_told, required_told, member_there_told, then_told}

-- ---- the organisation

abbrev any : List ℕ → AnyText
any text = record { text = text }

abbrev read_any : List ℕ → Result AnyText (List ℕ)
read_any text = Ok (any text)

any_text_told : (text : List ℕ) (said : Result AnyText (List ℕ)) → ReadsAnyText (string text) said → said ≡ Ok (any text)
any_text_told text (Ok v) h = let same : v.text ≡ text = cc (h.1) in ap read_any same
any_text_told text (Err path) h = absurd (h.1 (any text) tt refl)

-- the steps of the readers, each by what was read before it
abbrev after_changes : Data → ℕ → Result Counts (List ℕ) → Type 0
after_changes d changes =
    Then (ReadsRequired ReadsNumber (codes "next") (present (codes "next") d)) (λ next said. said ≡ Ok (record { changes = changes; next = next }))

abbrev after_customer : Data → AnyText → Result Owner (List ℕ) → Type 0
after_customer d customer =
    Then (ReadsRequired ReadsAnyText (codes "domain") (present (codes "domain") d)) (λ domain said. said ≡ Ok (record { customer = customer.text; domain = domain.text }))

abbrev after_counts : Data → Counts → Result OrgBody (List ℕ) → Type 0
after_counts d counts = Then (ReadsOwner d) (λ owner said. said ≡ Ok (record { counts = counts; owner = owner }))

abbrev pub counts_of : Org → Counts
counts_of org = record { changes = org.changes; next = org.next }

abbrev pub owner_of : Org → Owner
owner_of org = record { customer = org.customer; domain = org.domain }

abbrev pub body_of : Org → OrgBody
body_of org = record { counts = counts_of org; owner = owner_of org }

counts_told : (org : Org) (said : Result Counts (List ℕ)) → ReadsCounts (org_data org) said → said ≡ Ok (counts_of org)
counts_told org said h =
    then_told (ReadsRequired ReadsNumber (codes "changes") (Some (number (unsigned org.changes)))) (after_changes (org_data org)) org.changes (counts_of org)
    (required_told ReadsNumber (codes "changes") (number (unsigned org.changes)) org.changes (number_told org.changes))
    (then_told (ReadsRequired ReadsNumber (codes "next") (Some (number (unsigned org.next))))
    (λ (next : ℕ) (said : Result Counts (List ℕ)). said ≡ Ok (record { changes = org.changes; next = next })) org.next (counts_of org)
    (required_told ReadsNumber (codes "next") (number (unsigned org.next)) org.next (number_told org.next)) (λ s e. e))
    said h

owner_told : (org : Org) (said : Result Owner (List ℕ)) → ReadsOwner (org_data org) said → said ≡ Ok (owner_of org)
owner_told org said h =
    then_told (ReadsRequired ReadsAnyText (codes "customer") (Some (string org.customer))) (after_customer (org_data org)) (any org.customer) (owner_of org)
    (required_told ReadsAnyText (codes "customer") (string org.customer) (any org.customer) (any_text_told org.customer))
    (then_told (ReadsRequired ReadsAnyText (codes "domain") (Some (string org.domain)))
    (λ (domain : AnyText) (said : Result Owner (List ℕ)). said ≡ Ok (record { customer = org.customer; domain = domain.text })) (any org.domain) (owner_of org)
    (required_told ReadsAnyText (codes "domain") (string org.domain) (any org.domain) (any_text_told org.domain)) (λ s e. e))
    said h

pub org_told : (org : Org) (said : Result OrgBody (List ℕ)) → ReadsOrgBody (org_data org) said → said ≡ Ok (body_of org)
org_told org said h =
    then_told (ReadsCounts (org_data org)) (after_counts (org_data org)) (counts_of org) (body_of org) (counts_told org)
    (then_told (ReadsOwner (org_data org)) (λ (owner : Owner) (said : Result OrgBody (List ℕ)). said ≡ Ok (record { counts = counts_of org; owner = owner })) (owner_of org) (body_of org)
    (owner_told org) (λ s e. e))
    said h

-- ---- nodes

abbrev flag : Bool → Flag
flag is_set = record { is_set = is_set }

abbrev named : NodeId → NamedNode
named node = record { node = node }

flag_told : (is_set : Bool) (said : Result Flag (List ℕ)) → ReadsFlag (boolean is_set) said → said ≡ Ok (flag is_set)
flag_told is_set (Ok v) h = let same : v.is_set ≡ is_set = cc h in ap (λ (b : Bool). Ok (flag b)) same
flag_told is_set (Err path) h = absurd (cc (h.1))

named_told : (node : NodeId) → IsNodeId node → (said : Result NamedNode (List ℕ)) → ReadsNamedNode (string (node_id_text node)) said → said ≡ Ok (named node)
named_told node formed said h =
    text_told (λ (one : NamedNode). IsNodeId one.node) (λ (one : NamedNode). node_id_text one.node)
    (λ a b f g same. ap named (node_id_told a.node b.node f g same)) (named node) formed said h

abbrev node_body : Bool → List ℕ → NodeId → Option (List ℕ) → NodeBody
node_body active display parent project = record { active = active; display = display; parent = parent; project = project }

abbrev after_parent : Data → Bool → List ℕ → NodeId → Result NodeBody (List ℕ) → Type 0
after_parent d active display parent =
    Then (ReadsMember ReadsAnyText (codes "project") (present (codes "project") d)) (λ project said.
    said ≡ Ok (node_body active display parent (option_map (λ (any : AnyText). any.text) project)))

abbrev after_display : Data → Bool → List ℕ → Result NodeBody (List ℕ) → Type 0
after_display d active display =
    Then (ReadsRequired ReadsNamedNode (codes "parent") (present (codes "parent") d)) (λ parent. after_parent d active display parent.node)

abbrev after_active : Data → Bool → Result NodeBody (List ℕ) → Type 0
after_active d active =
    Then (ReadsRequired ReadsAnyText (codes "display") (present (codes "display") d)) (λ display. after_display d active display.text)

-- the project's id, where it is shown
project_told : (active : Bool) (display : List ℕ) (parent : NodeId) (project : Option (List ℕ)) (said : Result NodeBody (List ℕ))
    → after_parent (node_members active display parent project) active display parent said → said ≡ Ok (node_body active display parent project)
project_told active display parent None said h =
    then_told (ReadsMember ReadsAnyText (codes "project") None)
    (λ (project : Option AnyText) (said : Result NodeBody (List ℕ)). said ≡ Ok (node_body active display parent (option_map (λ (any : AnyText). any.text) project)))
    None (node_body active display parent None) (λ s e. e) (λ s e. e) said h
project_told active display parent (Some id) said h =
    then_told (ReadsMember ReadsAnyText (codes "project") (Some (string id)))
    (λ (project : Option AnyText) (said : Result NodeBody (List ℕ)). said ≡ Ok (node_body active display parent (option_map (λ (any : AnyText). any.text) project)))
    (Some (any id)) (node_body active display parent (Some id))
    (member_there_told ReadsAnyText (codes "project") (string id) (any id) (any_text_told id)) (λ s e. e) said h

members_of_node_told : (active : Bool) (display : List ℕ) (parent : NodeId) (project : Option (List ℕ)) → IsNodeId parent → (said : Result NodeBody (List ℕ))
    → ReadsNodeBody (node_members active display parent project) said → said ≡ Ok (node_body active display parent project)
members_of_node_told active display parent project formed said h =
    let d = node_members active display parent project in
    then_told (ReadsRequired ReadsFlag (codes "active") (Some (boolean active))) (λ (read : Flag). after_active d read.is_set) (flag active) (node_body active display parent project)
    (required_told ReadsFlag (codes "active") (boolean active) (flag active) (flag_told active))
    (then_told (ReadsRequired ReadsAnyText (codes "display") (Some (string display))) (λ (read : AnyText). after_display d active read.text) (any display) (node_body active display parent project)
    (required_told ReadsAnyText (codes "display") (string display) (any display) (any_text_told display))
    (then_told (ReadsRequired ReadsNamedNode (codes "parent") (Some (string (node_id_text parent)))) (λ (read : NamedNode). after_parent d active display read.node) (named parent) (node_body active display parent project)
    (required_told ReadsNamedNode (codes "parent") (string (node_id_text parent)) (named parent) (named_told parent formed))
    (project_told active display parent project)))
    said h

abbrev pub body_of_node : Node → NodeBody
body_of_node node = node_body node.active node.display node.parent node.project

pub node_body_told : (node : Node) → IsNodeId node.parent → (said : Result NodeBody (List ℕ)) → ReadsNodeBody (node_data node) said → said ≡ Ok (body_of_node node)
node_body_told node formed said h = members_of_node_told node.active node.display node.parent node.project formed said h

-- ---- bindings

abbrev pub plain_binding : RoleName → List Member → Binding
plain_binding role members = record { role = role; members = members; condition = None }

abbrev pub after_members : Data → RoleName → Option (List Member) → Result Binding (List ℕ) → Type 0
after_members d role members =
    Then (ReadsAbsent (codes "condition") (present (codes "condition") d)) (λ _ said. said ≡ Ok (plain_binding role (unwrap_or members [])))

abbrev pub after_role : Data → RoleName → Result Binding (List ℕ) → Type 0
after_role d role = Then (ReadsMember (ReadsList (ReadsText IsMember member_text)) (codes "members") (present (codes "members") d)) (after_members d role)

members_told : (members : List Member) → Each IsMember members → (said : Result (List Member) (List ℕ)) → ReadsList (ReadsText IsMember member_text) (list_data member_data members) said → said ≡ Ok members
members_told members formed said h =
    items_told (ReadsText IsMember member_text) member_data IsMember (λ a f. text_told IsMember member_text member_told a f) members formed 0 said h

plain_binding_told : (role : RoleName) (members : List Member) → IsRoleName role → Each IsMember members → (said : Result Binding (List ℕ))
    → ReadsBinding (binding_data (plain_binding role members)) said → said ≡ Ok (plain_binding role members)
plain_binding_told role members f g said h =
    let d = binding_data (plain_binding role members) in
    then_told (ReadsRequired (ReadsText IsRoleName role_text) (codes "role") (Some (string (role_text role)))) (after_role d) role (plain_binding role members)
    (required_told (ReadsText IsRoleName role_text) (codes "role") (string (role_text role)) role (text_told IsRoleName role_text role_told role f))
    (then_told (ReadsMember (ReadsList (ReadsText IsMember member_text)) (codes "members") (Some (list_data member_data members))) (after_members d role) (Some members) (plain_binding role members)
    (member_there_told (ReadsList (ReadsText IsMember member_text)) (codes "members") (list_data member_data members) members (members_told members g))
    (then_told (ReadsAbsent (codes "condition") None) (λ _ said. said ≡ Ok (plain_binding role members)) tt (plain_binding role members) (λ s e. e) (λ s e. e)))
    said h

pub without_condition : (binding : Binding) → binding.condition ≡ None → binding ≡ plain_binding binding.role binding.members
without_condition binding e = ap (λ (c : Option Condition). record binding { condition = c }) e

pub binding_told : (binding : Binding) → IsKept binding → (said : Result Binding (List ℕ)) → ReadsBinding (binding_data binding) said → said ≡ Ok binding
binding_told binding kept said h =
    let e = without_condition binding kept.3 in
    plain_binding_told binding.role binding.members kept.0 kept.1 said (subst (λ (b : Binding). ReadsBinding (binding_data b) said) e h) ∙ ap Ok (sym e)

-- ---- the policy

abbrev pub after_bindings : Data → List Binding → Result PolicyBody (List ℕ) → Type 0
after_bindings d bindings =
    Then (ReadsRequired ReadsNumber (codes "set") (present (codes "set") d)) (λ set said. said ≡ Ok (record { bindings = bindings; set = set }))

abbrev pub body_of_policy : AllowPolicy → PolicyBody
body_of_policy policy = record { bindings = policy.bindings; set = policy.set }

pub policy_told : (policy : AllowPolicy) → Each IsKept policy.bindings → (said : Result PolicyBody (List ℕ)) → ReadsPolicyBody (policy_data policy) said → said ≡ Ok (body_of_policy policy)
policy_told policy kept said h =
    let d = policy_data policy in
    then_told (ReadsRequired (ReadsList ReadsBinding) (codes "bindings") (Some (list_data binding_data policy.bindings))) (after_bindings d) policy.bindings (body_of_policy policy)
    (required_told (ReadsList ReadsBinding) (codes "bindings") (list_data binding_data policy.bindings) policy.bindings
    (λ s r. items_told ReadsBinding binding_data IsKept binding_told policy.bindings kept 0 s r))
    (then_told (ReadsRequired ReadsNumber (codes "set") (Some (number (unsigned policy.set))))
    (λ (set : ℕ) (said : Result PolicyBody (List ℕ)). said ≡ Ok (record { bindings = policy.bindings; set = set })) policy.set (body_of_policy policy)
    (required_told ReadsNumber (codes "set") (number (unsigned policy.set)) policy.set (number_told policy.set)) (λ s e. e))
    said h
