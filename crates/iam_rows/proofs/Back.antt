-- Bodies of kept facts are read back.
use Rattle.std.proofs.Common.{◌≡◌, ℕ, ◌<◌, ◌≤◌, ◌^◌, Bool, List, [], ◌∷◌, map, Option, Some, None, Result, Ok, Err, codes, inl, inr, refl, sym, ap, ◌∙◌, subst, arith, false}
use Rattle.std.specs.Prelude.{⊤, option_map}
use Rattle.serde_json.specs.Data.{Data, depth, items_depth}
use Rattle.serde_json.specs.View.{items_of}
use Rattle.serde_json.specs.Read.{read, max_depth}
use Rattle.serde_json.specs.Written.{has_float}
use Rattle.iam_names.specs.Domain.{IsDomain, IsCustomer}
use Rattle.iam_names.specs.Node.{IsNodeId}
use Rattle.iam_names.specs.declared.node.NodeId.{NodeId}
use Rattle.serde_json.specs.Find.{as_object, as_array}
use Rattle.iam_types.specs.declared.allow.Binding.{Binding}
use Rattle.iam_types.specs.declared.allow.AllowPolicy.{AllowPolicy}
use Rattle.iam_types.specs.declared.allow.Condition.{Condition}
use Rattle.iam_types.specs.declared.node.Node.{Node}
use Rattle.iam_types.specs.declared.node.Org.{Org}
use Rattle.iam_json_data.specs.Printed.{printed}
use Rattle.iam_json_data.specs.Shown.{member_data, binding_data}
use Rattle.iam_json_data.specs.Reading.{Gives, Then, ReadsList, ReadsMember, ReadsRequired, present}
use Rattle.iam_json_data.specs.Readers.{ReadsBinding}
use Rattle.iam_json_data.specs.declared.stop.BodyStop.{BodyStop}
use Rattle.iam_json_data.specs.declared.stop.BodyStop.TheVariants as body
use Rattle.iam_json_data.proofs.Floats.{list_without_float, binding_without_float}
use Rattle.iam_json_data.proofs.Given.{IsFormed, binding_is, list_is, object_is, required_is}
use Rattle.std.specs.List.{AllByRecursion as Each}
use Rattle.std.specs.Prelude.{true, All}
use Rattle.std.proofs.lemmas.List.Elements.{All-weaker}
use Rattle.iam_model.specs.Formed.{HasNodeForm, IsNodeFact, IsOrgFact, IsPolicyFact, IsStored}
use Rattle.iam_model.specs.Policies.{has_members}
use Rattle.iam_rows.proofs.Formed.{IsKept, all_kept}
use Rattle.iam_rows.specs.Rows.{node_data, node_members, org_data, policy_data}
use Rattle.iam_rows.specs.Finding.{Guesses, ReadsRow, node_with, org_with, policy_with}
use Rattle.iam_rows.specs.Bodies.{ReadsAnyText, ReadsFlag, ReadsNamedNode, ReadsNode, ReadsNodeBody, ReadsOrgBody, ReadsPolicyBody}
use Rattle.iam_rows.specs.declared.stop.RowStop.{RowStop}
use Rattle.iam_rows.specs.declared.stop.RowStop.TheVariants.{BadRow, OutOfMemory}
use Rattle.iam_rows.specs.declared.body.AnyText.{AnyText}
use Rattle.iam_rows.specs.declared.body.Flag.{Flag}
use Rattle.iam_rows.specs.declared.body.NamedNode.{NamedNode}
use Rattle.iam_rows.specs.declared.body.NodeBody.{NodeBody}
use Rattle.iam_rows.specs.declared.body.OrgBody.{OrgBody}
use Rattle.iam_rows.specs.declared.body.PolicyBody.{PolicyBody}
use Rattle.iam_rows.proofs.Printing.{IsPlain, ArePlain, read-compact_text}
use Rattle.iam_rows.proofs.Kept.{after_bindings, body_of, org_told, body_of_node, node_body_told, body_of_policy, policy_told}

-- ---- what is shown has its members in order, small numbers, and few levels

lists_plain : {A : Type 0} (shown : A → Data) (F : A → Type 0) → ((a : A) → F a → IsPlain (shown a)) → (xs : List A) → Each F xs → ArePlain (items_of (map shown xs))
lists_plain shown F one [] each = tt
lists_plain shown F one (x ∷ xs) each = (one x each.0, lists_plain shown F one xs each.1)

lists_depth : {A : Type 0} (shown : A → Data) (F : A → Type 0) (n : ℕ) → ((a : A) → F a → depth (shown a) ≤ n) → (xs : List A) → Each F xs → items_depth (items_of (map shown xs)) ≤ n
lists_depth shown F n one [] each = omega arith
lists_depth shown F n one (x ∷ xs) each = omega (arith, one x each.0, lists_depth shown F n one xs each.1)

org_plain : (org : Org) → org.next < 2 ^ 64 → org.changes < 2 ^ 64 → IsPlain (org_data org)
org_plain org next changes = (
  (tt, ((refl, tt), ((refl, (refl, tt)), ((refl, (refl, (refl, tt))), ((refl, (refl, (refl, (refl, tt)))), tt))))),
  (changes, (tt, (tt, (next, (omega arith, tt))))),
)

node_plain : (active : Bool) (display : List ℕ) (parent : NodeId) (project : Option (List ℕ)) → IsPlain (node_members active display parent project)
node_plain active display parent None = ((tt, ((refl, tt), ((refl, (refl, tt)), tt))), (tt, (tt, (tt, tt))))
node_plain active display parent (Some id) = (
  (tt, ((refl, tt), ((refl, (refl, tt)), ((refl, (refl, (refl, tt))), tt)))),
  (tt, (tt, (tt, (tt, tt)))),
)

node_depth : (active : Bool) (display : List ℕ) (parent : NodeId) (project : Option (List ℕ)) → depth (node_members active display parent project) ≤ max_depth
node_depth active display parent None = omega arith
node_depth active display parent (Some id) = omega arith

members_without_float : (active : Bool) (display : List ℕ) (parent : NodeId) (project : Option (List ℕ)) → has_float (node_members active display parent project) ≡ false
members_without_float active display parent None = refl
members_without_float active display parent (Some id) = refl

pub node_without_float : (node : Node) → has_float (node_data node) ≡ false
node_without_float node = members_without_float node.active node.display node.parent node.project

without_condition : (P : Data → Type 0) (binding : Binding) → binding.condition ≡ None → P (binding_data (record binding { condition = None })) → P (binding_data binding)
without_condition P binding e h = subst (λ (c : Option Condition). P (binding_data (record binding { condition = c }))) (sym e) h

each_at_all : {A : Type 0} (xs : List A) → Each (λ (_ : A). ⊤) xs
each_at_all [] = tt
each_at_all (x ∷ xs) = (tt, each_at_all xs)

binding_plain : (binding : Binding) → binding.condition ≡ None → IsPlain (binding_data binding)
binding_plain binding e =
    without_condition IsPlain binding e ((tt, ((refl, tt), tt)), (lists_plain member_data (λ _. ⊤) (λ a f. tt) binding.members (each_at_all binding.members), (tt, tt)))

binding_depth : (binding : Binding) → binding.condition ≡ None → depth (binding_data binding) ≤ 2
binding_depth binding e =
    let members = lists_depth member_data (λ _. ⊤) 0 (λ a f. omega arith) binding.members (each_at_all binding.members) in
    without_condition (λ (d : Data). depth d ≤ 2) binding e (omega (arith, members))

policy_plain : (policy : AllowPolicy) → Each IsKept policy.bindings → policy.set < 2 ^ 64 → IsPlain (policy_data policy)
policy_plain policy kept set =
    ((tt, ((refl, tt), tt)), (lists_plain binding_data IsKept (λ b f. binding_plain b f.3) policy.bindings kept, (set, tt)))

policy_depth : (policy : AllowPolicy) → Each IsKept policy.bindings → depth (policy_data policy) ≤ max_depth
policy_depth policy kept =
    let bindings = lists_depth binding_data IsKept 2 (λ b f. binding_depth b f.3) policy.bindings kept in
    omega (arith, bindings)

pub policy_without_float : (policy : AllowPolicy) → has_float (policy_data policy) ≡ false
policy_without_float policy = rw (list_without_float binding_data policy.bindings binding_without_float) refl

-- ---- so their texts are read as them

read_back : (text : List ℕ) (d : Data) → IsPlain d → depth d ≤ max_depth → text ≡ printed d → read text ≡ Some d
unfolding printed
read_back text d plain shallow e = ap read e ∙ read-compact_text d plain shallow

pub org_read : (text : List ℕ) (org : Org) → IsOrgFact org → text ≡ printed (org_data org) → read text ≡ Some (org_data org)
org_read text org kept e = read_back text (org_data org) (org_plain org kept.next kept.changes) (omega arith) e

pub node_read : (text : List ℕ) (node : Node) → text ≡ printed (node_data node) → read text ≡ Some (node_data node)
node_read text node e =
    read_back text (node_data node) (node_plain node.active node.display node.parent node.project) (node_depth node.active node.display node.parent node.project) e

pub policy_read : (text : List ℕ) (policy : AllowPolicy) → IsPolicyFact policy → text ≡ printed (policy_data policy) → read text ≡ Some (policy_data policy)
policy_read text policy kept e =
    let each = all_kept policy.bindings kept.bindings in
    read_back text (policy_data policy) (policy_plain policy each kept.set) (policy_depth policy each) e

-- ---- the organisation of a body

abbrev pub IsOrgIn : ℕ → List ℕ → Org → Type 0
IsOrgIn n text org = IsOrgFact org × (org.number ≡ n) × (text ≡ printed (org_data org))

pub org_body : (text : List ℕ) (n : ℕ) (body : OrgBody) → ReadsRow ReadsOrgBody text (Ok body) → (kept : Org) → IsOrgIn n text kept → body ≡ body_of kept
org_body text n body h kept is =
    let e = org_read text kept is.0 is.2 in
    let same : h.0 ≡ org_data kept = cc (h.1, e) in
    let one = org_told kept (Ok body) (subst (λ (d : Data). ReadsOrgBody d (Ok body)) same h.2) in
    cc one

pub org_refused : (text : List ℕ) (n : ℕ) (stop : RowStop) → ReadsRow ReadsOrgBody text (Err stop) → Guesses IsOrgFact (IsOrgIn n text) (Err stop)
org_refused text n OutOfMemory h = tt
org_refused text n BadRow (inl none) = λ kept is. let e = org_read text kept is.0 is.2 in cc (none, e)
org_refused text n BadRow (inr bad) = λ kept is.
    let e = org_read text kept is.0 is.2 in
    let same : bad.0 ≡ org_data kept = cc (bad.2, e) in
    let one = org_told kept (Err bad.1) (subst (λ (d : Data). ReadsOrgBody d (Err bad.1)) same bad.3) in
    cc one

pub org_guessed : (text : List ℕ) (n : ℕ) (body : OrgBody) → ReadsRow ReadsOrgBody text (Ok body) → (kept : Org) → IsOrgIn n text kept → org_with n body ≡ kept
org_guessed text n body h kept is =
    ap (org_with n) (org_body text n body h kept is) ∙ ap (λ (k : ℕ). org_with k (body_of kept)) (sym is.1)

pub org_other : (text : List ℕ) (n : ℕ) (body : OrgBody) → ReadsRow ReadsOrgBody text (Ok body) → ¬ (IsDomain body.owner.domain × IsCustomer body.owner.customer) → (kept : Org) → IsOrgIn n text kept → ⊥
org_other text n body h not_formed kept is =
    let same = org_body text n body h kept is in
    not_formed (subst (λ (b : OrgBody). IsDomain b.owner.domain × IsCustomer b.owner.customer) (sym same) (is.0.formed.domain, is.0.formed.customer))

-- ---- the folder or project of a body

abbrev pub IsNodeIn : NodeId → List ℕ → Node → Type 0
IsNodeIn id text node = IsNodeFact node × (node.id ≡ id) × (text ≡ printed (node_data node))

node_body : (text : List ℕ) (id : NodeId) (body : NodeBody) → ReadsRow ReadsNodeBody text (Ok body) → (kept : Node) → IsNodeIn id text kept → body ≡ body_of_node kept
node_body text id body h kept is =
    let e = node_read text kept is.2 in
    let same : h.0 ≡ node_data kept = cc (h.1, e) in
    let one = node_body_told kept is.0.parent (Ok body) (subst (λ (d : Data). ReadsNodeBody d (Ok body)) same h.2) in
    cc one

pub node_refused : (text : List ℕ) (id : NodeId) (stop : RowStop) → ReadsRow ReadsNodeBody text (Err stop) → Guesses IsNodeFact (IsNodeIn id text) (Err stop)
node_refused text id OutOfMemory h = tt
node_refused text id BadRow (inl none) = λ kept is. let e = node_read text kept is.2 in cc (none, e)
node_refused text id BadRow (inr bad) = λ kept is.
    let e = node_read text kept is.2 in
    let same : bad.0 ≡ node_data kept = cc (bad.2, e) in
    let one = node_body_told kept is.0.parent (Err bad.1) (subst (λ (d : Data). ReadsNodeBody d (Err bad.1)) same bad.3) in
    cc one

pub node_guessed : (text : List ℕ) (id : NodeId) (body : NodeBody) → ReadsRow ReadsNodeBody text (Ok body) → (kept : Node) → IsNodeIn id text kept → node_with id body ≡ kept
node_guessed text id body h kept is =
    ap (node_with id) (node_body text id body h kept is) ∙ ap (λ (named : NodeId). node_with named (body_of_node kept)) (sym is.1)

-- the project's id is bad behind the other members
pub no_project_read : (d : Data) (active : Flag) (display : AnyText) (parent : NamedNode) (stop : BodyStop)
    → ReadsRequired ReadsFlag (codes "active") (present (codes "active") d) (Ok active)
    → ReadsRequired ReadsAnyText (codes "display") (present (codes "display") d) (Ok display)
    → ReadsRequired ReadsNamedNode (codes "parent") (present (codes "parent") d) (Ok parent)
    → Gives (ReadsMember ReadsAnyText (codes "project") (present (codes "project") d)) (Err stop) → Gives (ReadsNode d) (Err stop)
no_project_read d active display parent body.BadJson a b c bad = absurd bad
no_project_read d active display parent (body.BadField path) a b c bad = inr (active, a, inr (display, b, inr (parent, c, inl bad)))
no_project_read d active display parent body.OutOfMemory a b c bad = tt

-- what is read is well formed where it has the form of its kind
pub node_formed : (text : List ℕ) (id : NodeId) (body : NodeBody) → IsNodeId id → HasNodeForm id.kind body.display body.project → ReadsRow ReadsNodeBody text (Ok body) → IsNodeFact (node_with id body)
node_formed text id body fits form h =
    let inside = object_is (ReadsNode h.0) (as_object h.0) body h.2 in
    let behind = inside.2.2 in
    let same : body ≡ record { active = inside.0.is_set; display = inside.2.0.text; parent = behind.0.node; project = option_map (λ (any : AnyText). any.text) behind.2.0 } = cc (behind.2.2) in
    let parent : body.parent ≡ behind.0.node = ap (λ (b : NodeBody). b.parent) same in
    let read = required_is ReadsNamedNode (codes "parent") (present (codes "parent") h.0) behind.0 behind.1 in
    record { id = fits; parent = subst (λ (node : NodeId). IsNodeId node) (sym parent) read.1.0; form = form }

pub node_other : (text : List ℕ) (id : NodeId) (body : NodeBody) → ReadsRow ReadsNodeBody text (Ok body) → ¬ (HasNodeForm id.kind body.display body.project) → (kept : Node) → IsNodeIn id text kept → ⊥
node_other text id body h no_form kept is =
    let form : HasNodeForm id.kind kept.display kept.project = subst (λ (named : NodeId). HasNodeForm named.kind kept.display kept.project) is.1 is.0.form in
    no_form (subst (λ (b : NodeBody). HasNodeForm id.kind b.display b.project) (sym (node_body text id body h kept is)) form)

-- ---- the policy of a body

abbrev pub IsPolicyIn : NodeId → List ℕ → AllowPolicy → Type 0
IsPolicyIn node text policy = IsPolicyFact policy × (policy.node ≡ node) × (text ≡ printed (policy_data policy))

policy_body : (text : List ℕ) (node : NodeId) (body : PolicyBody) → ReadsRow ReadsPolicyBody text (Ok body) → (kept : AllowPolicy) → IsPolicyIn node text kept → body ≡ body_of_policy kept
policy_body text node body h kept is =
    let e = policy_read text kept is.0 is.2 in
    let same : h.0 ≡ policy_data kept = cc (h.1, e) in
    let one = policy_told kept (all_kept kept.bindings is.0.bindings) (Ok body) (subst (λ (d : Data). ReadsPolicyBody d (Ok body)) same h.2) in
    cc one

pub policy_refused : (text : List ℕ) (node : NodeId) (stop : RowStop) → ReadsRow ReadsPolicyBody text (Err stop) → Guesses IsPolicyFact (IsPolicyIn node text) (Err stop)
policy_refused text node OutOfMemory h = tt
policy_refused text node BadRow (inl none) = λ kept is. let e = policy_read text kept is.0 is.2 in cc (none, e)
policy_refused text node BadRow (inr bad) = λ kept is.
    let e = policy_read text kept is.0 is.2 in
    let same : bad.0 ≡ policy_data kept = cc (bad.2, e) in
    let one = policy_told kept (all_kept kept.bindings is.0.bindings) (Err bad.1) (subst (λ (d : Data). ReadsPolicyBody d (Err bad.1)) same bad.3) in
    cc one

pub policy_guessed : (text : List ℕ) (node : NodeId) (body : PolicyBody) → ReadsRow ReadsPolicyBody text (Ok body) → (kept : AllowPolicy) → IsPolicyIn node text kept → policy_with node body ≡ kept
policy_guessed text node body h kept is =
    ap (policy_with node) (policy_body text node body h kept is) ∙ ap (λ (named : NodeId). policy_with named (body_of_policy kept)) (sym is.1)

-- what is read of bindings is kept where each has members

abbrev pub HasMembers : Binding → Type 0
HasMembers binding = has_members binding ≡ true

stored_where : (bindings : List Binding) → All IsFormed bindings → All HasMembers bindings → All IsStored bindings
stored_where bindings read some = λ k d within. let formed = read k d within in record { role = formed.0; members = formed.1; some = some k d within; unconditional = formed.2 }

abbrev reads_policy : Data → Result PolicyBody (List ℕ) → Type 0
reads_policy d = Then (ReadsRequired (ReadsList ReadsBinding) (codes "bindings") (present (codes "bindings") d)) (after_bindings d)

pub policy_formed : (text : List ℕ) (node : NodeId) (body : PolicyBody) → IsNodeId node → body.set < 2 ^ 64 → ReadsRow ReadsPolicyBody text (Ok body) → All HasMembers body.bindings → IsPolicyFact (policy_with node body)
policy_formed text node body fits set h some =
    let inside = object_is (reads_policy h.0) (as_object h.0) body h.2 in
    let same : body ≡ record { bindings = inside.0; set = inside.2.0 } = cc (inside.2.2) in
    let bindings : body.bindings ≡ inside.0 = ap (λ (b : PolicyBody). b.bindings) same in
    let list = required_is (ReadsList ReadsBinding) (codes "bindings") (present (codes "bindings") h.0) inside.0 inside.1 in
    let read : All IsFormed inside.0 = list_is ReadsBinding IsFormed binding_is (as_array list.0) inside.0 list.1 in
    record { node = fits; bindings = stored_where body.bindings (subst (λ (bs : List Binding). All IsFormed bs) (sym bindings) read) some; set = set }

with_members : (bindings : List Binding) → All IsStored bindings → All HasMembers bindings
with_members bindings all = All-weaker IsStored HasMembers (λ b stored. stored.some) bindings all

-- without members somewhere, no policy is meant
pub policy_other : (text : List ℕ) (node : NodeId) (body : PolicyBody) → ReadsRow ReadsPolicyBody text (Ok body) → ¬ (All HasMembers body.bindings) → (kept : AllowPolicy) → IsPolicyIn node text kept → ⊥
policy_other text node body h not_all kept is =
    let same = policy_body text node body h kept is in
    not_all (subst (λ (b : PolicyBody). All HasMembers b.bindings) (sym same) (with_members kept.bindings is.0.bindings))
