-- The fact that a row means, by its part and its name.
use Rattle.std.proofs.Common.{◌≡◌, ◌≢◌, ℕ, ◌++◌, List, length, Some, None, Result, Ok, Err, codes, refl, sym, ap, ◌∙◌, arith}
use Rattle.std.specs.Fmt.{decimal}
use Rattle.std.proofs.lemmas.Fmt.{decimal_injective}
use Rattle.iam_names.proofs.Told.{node_id_told}
use Rattle.iam_names.specs.Node.{IsNodeId, node_id_text, collection_of}
use Rattle.iam_names.specs.Number.{IsNodeNumber}
use Rattle.iam_names.specs.Reading.{IsRead}
use Rattle.iam_names.specs.declared.node.NodeKind.{NodeKind}
use Rattle.iam_names.specs.declared.node.NodeKind.TheVariants.{Organization, Folder, Project}
use Rattle.iam_names.specs.declared.node.NodeId.{NodeId}
use Rattle.iam_types.specs.declared.allow.AllowPolicy.{AllowPolicy}
use Rattle.iam_types.specs.declared.node.Node.{Node}
use Rattle.iam_types.specs.declared.node.Org.{Org}
use Rattle.iam_types.specs.declared.fact.Fact.{Fact}
use Rattle.iam_types.specs.declared.fact.Fact.TheVariants as fact
use Rattle.iam_outer.specs.declared.keeper.Row.{Row}
use Rattle.iam_model.specs.Formed.{IsOrgFact, IsNodeFact, IsPolicyFact, IsFact}
use Rattle.iam_rows.specs.Rows.{node_data, org_name, org_data, policy_data, IsRow}
use Rattle.iam_rows.specs.Finding.{Guesses, IsFactOf, number_in}
use Rattle.iam_rows.specs.declared.stop.RowStop.{RowStop}
use Rattle.iam_rows.specs.declared.stop.RowStop.TheVariants.{BadRow, OutOfMemory}
use Rattle.iam_rows.proofs.Back.{IsNodeIn, IsOrgIn, IsPolicyIn}

pub number_of_name : (text : List ℕ) (node : NodeId) → IsRead IsNodeId node_id_text text (Some node) → IsRead IsNodeNumber org_name text (number_in node.kind node.number)
number_of_name text node h = go node.kind refl
  where
    go : (kind : NodeKind) → node.kind ≡ kind → IsRead IsNodeNumber org_name text (number_in kind node.number)
    go Organization is = (h.0, h.1 ∙ ap (λ (k : NodeKind). collection_of k ++ decimal node.number) is)
    go Folder is = λ n f named.
        let one = node_id_told node (record { kind = Organization; number = n }) h.0 f (sym h.1 ∙ named) in
        let kinds : node.kind ≡ Organization = ap (λ (id : NodeId). id.kind) one in
        absurd (cc (kinds, is))
    go Project is = λ n f named.
        let one = node_id_told node (record { kind = Organization; number = n }) h.0 f (sym h.1 ∙ named) in
        let kinds : node.kind ≡ Organization = ap (λ (id : NodeId). id.kind) one in
        absurd (cc (kinds, is))

pub no_number : (text : List ℕ) → IsRead IsNodeId node_id_text text None → IsRead IsNodeNumber org_name text None
no_number text none = λ n f. none (record { kind = Organization; number = n }) f

pub one_number : (m n : ℕ) → IsNodeNumber m → IsNodeNumber n → org_name m ≡ org_name n → m ≡ n
one_number m n f g e =
    let same : decimal m ≡ decimal n = cc e in
    decimal_injective m n (omega (arith, f.1)) (omega (arith, g.1)) same

-- ---- organisations

abbrev pub IsOrgRow : Row → Org → Type 0
IsOrgRow row org = IsOrgFact org × IsRow (codes "org") (org_name org.number) (org_data org) row

pub org_named : (row : Row) (n : ℕ) (r : Result Org RowStop) → IsNodeNumber n → row.name ≡ org_name n → Guesses IsOrgFact (IsOrgIn n row.body) r → Guesses IsOrgFact (IsOrgRow row) r
org_named row n (Ok found) f e h = (h.0, λ kept is. h.1 kept (is.0, one_number kept.number n is.0.formed.number f (sym is.1.1 ∙ e), is.1.2))
org_named row n (Err BadRow) f e h = λ kept is. h kept (is.0, one_number kept.number n is.0.formed.number f (sym is.1.1 ∙ e), is.1.2)
org_named row n (Err OutOfMemory) f e h = tt

pub no_org : (row : Row) → IsRead IsNodeNumber org_name row.name None → (kept : Org) → IsOrgRow row kept → ⊥
no_org row none kept is = none kept.number is.0.formed.number is.1.1

-- ---- folders and projects

abbrev pub IsNodeRow : Row → Node → Type 0
IsNodeRow row node = IsNodeFact node × IsRow (codes "node") (node_id_text node.id) (node_data node) row

pub node_named : (row : Row) (id : NodeId) (r : Result Node RowStop) → IsNodeId id → row.name ≡ node_id_text id → Guesses IsNodeFact (IsNodeIn id row.body) r → Guesses IsNodeFact (IsNodeRow row) r
node_named row id (Ok found) f e h = (h.0, λ kept is. h.1 kept (is.0, node_id_told kept.id id is.0.id f (sym is.1.1 ∙ e), is.1.2))
node_named row id (Err BadRow) f e h = λ kept is. h kept (is.0, node_id_told kept.id id is.0.id f (sym is.1.1 ∙ e), is.1.2)
node_named row id (Err OutOfMemory) f e h = tt

pub no_node : (row : Row) → IsRead IsNodeId node_id_text row.name None → (kept : Node) → IsNodeRow row kept → ⊥
no_node row none kept is = none kept.id is.0.id is.1.1

-- ---- policies

abbrev pub IsPolicyRow : Row → AllowPolicy → Type 0
IsPolicyRow row policy = IsPolicyFact policy × IsRow (codes "allow") (node_id_text policy.node) (policy_data policy) row

pub policy_named : (row : Row) (node : NodeId) (r : Result AllowPolicy RowStop) → IsNodeId node → row.name ≡ node_id_text node → Guesses IsPolicyFact (IsPolicyIn node row.body) r → Guesses IsPolicyFact (IsPolicyRow row) r
policy_named row node (Ok found) f e h = (h.0, λ kept is. h.1 kept (is.0, node_id_told kept.node node is.0.node f (sym is.1.1 ∙ e), is.1.2))
policy_named row node (Err BadRow) f e h = λ kept is. h kept (is.0, node_id_told kept.node node is.0.node f (sym is.1.1 ∙ e), is.1.2)
policy_named row node (Err OutOfMemory) f e h = tt

pub no_policy : (row : Row) → IsRead IsNodeId node_id_text row.name None → (kept : AllowPolicy) → IsPolicyRow row kept → ⊥
no_policy row none kept is = none kept.node is.0.node is.1.1

-- ---- facts by their parts

-- two parts of different names
parts_differ : (part a b : List ℕ) → part ≡ a → part ≡ b → a ≢ b → ⊥
parts_differ part a b e f apart = apart (sym e ∙ f)

org_not_node : codes "org" ≢ codes "node"
org_not_node e = let lengths : length (codes "org") ≡ length (codes "node") = ap length e in omega (arith, lengths)

org_not_allow : codes "org" ≢ codes "allow"
org_not_allow e = let lengths : length (codes "org") ≡ length (codes "allow") = ap length e in omega (arith, lengths)

node_not_allow : codes "node" ≢ codes "allow"
node_not_allow e = let lengths : length (codes "node") ≡ length (codes "allow") = ap length e in omega (arith, lengths)

pub org_meant : (row : Row) (org : Org) → row.part ≡ codes "org" → ((kept : Org) → IsOrgRow row kept → org ≡ kept) → (kept : Fact) → IsFactOf row kept → fact.Org org ≡ kept
org_meant row x part one (fact.Org y) is = ap fact.Org (one y is)
org_meant row x part one (fact.Node y) is = absurd (parts_differ row.part (codes "org") (codes "node") part is.1.0 org_not_node)
org_meant row x part one (fact.Key y) is = absurd is.0
org_meant row x part one (fact.Value y) is = absurd is.0
org_meant row x part one (fact.Tag y) is = absurd is.0
org_meant row x part one (fact.Group y) is = absurd is.0
org_meant row x part one (fact.Edge y) is = absurd is.0
org_meant row x part one (fact.Role y) is = absurd is.0
org_meant row x part one (fact.Allow y) is = absurd (parts_differ row.part (codes "org") (codes "allow") part is.1.0 org_not_allow)
org_meant row x part one (fact.Deny y) is = absurd is.0
org_meant row x part one (fact.Boundary y) is = absurd is.0
org_meant row x part one (fact.Bound y) is = absurd is.0

pub node_meant : (row : Row) (node : Node) → row.part ≡ codes "node" → ((kept : Node) → IsNodeRow row kept → node ≡ kept) → (kept : Fact) → IsFactOf row kept → fact.Node node ≡ kept
node_meant row x part one (fact.Org y) is = absurd (parts_differ row.part (codes "org") (codes "node") is.1.0 part org_not_node)
node_meant row x part one (fact.Node y) is = ap fact.Node (one y is)
node_meant row x part one (fact.Key y) is = absurd is.0
node_meant row x part one (fact.Value y) is = absurd is.0
node_meant row x part one (fact.Tag y) is = absurd is.0
node_meant row x part one (fact.Group y) is = absurd is.0
node_meant row x part one (fact.Edge y) is = absurd is.0
node_meant row x part one (fact.Role y) is = absurd is.0
node_meant row x part one (fact.Allow y) is = absurd (parts_differ row.part (codes "node") (codes "allow") part is.1.0 node_not_allow)
node_meant row x part one (fact.Deny y) is = absurd is.0
node_meant row x part one (fact.Boundary y) is = absurd is.0
node_meant row x part one (fact.Bound y) is = absurd is.0

pub policy_meant : (row : Row) (policy : AllowPolicy) → row.part ≡ codes "allow" → ((kept : AllowPolicy) → IsPolicyRow row kept → policy ≡ kept) → (kept : Fact) → IsFactOf row kept → fact.Allow policy ≡ kept
policy_meant row x part one (fact.Org y) is = absurd (parts_differ row.part (codes "org") (codes "allow") is.1.0 part org_not_allow)
policy_meant row x part one (fact.Node y) is = absurd (parts_differ row.part (codes "node") (codes "allow") is.1.0 part node_not_allow)
policy_meant row x part one (fact.Key y) is = absurd is.0
policy_meant row x part one (fact.Value y) is = absurd is.0
policy_meant row x part one (fact.Tag y) is = absurd is.0
policy_meant row x part one (fact.Group y) is = absurd is.0
policy_meant row x part one (fact.Edge y) is = absurd is.0
policy_meant row x part one (fact.Role y) is = absurd is.0
policy_meant row x part one (fact.Allow y) is = ap fact.Allow (one y is)
policy_meant row x part one (fact.Deny y) is = absurd is.0
policy_meant row x part one (fact.Boundary y) is = absurd is.0
policy_meant row x part one (fact.Bound y) is = absurd is.0

pub org_fact : (row : Row) (org : Org) → row.part ≡ codes "org" → Guesses IsOrgFact (IsOrgRow row) (Ok org) → Guesses IsFact (IsFactOf row) (Ok (fact.Org org))
org_fact row org part h = (h.0, org_meant row org part h.1)

pub node_fact : (row : Row) (node : Node) → row.part ≡ codes "node" → Guesses IsNodeFact (IsNodeRow row) (Ok node) → Guesses IsFact (IsFactOf row) (Ok (fact.Node node))
node_fact row node part h = (h.0, node_meant row node part h.1)

pub policy_fact : (row : Row) (policy : AllowPolicy) → row.part ≡ codes "allow" → Guesses IsPolicyFact (IsPolicyRow row) (Ok policy) → Guesses IsFact (IsFactOf row) (Ok (fact.Allow policy))
policy_fact row policy part h = (h.0, policy_meant row policy part h.1)

-- no fact is meant where its kind's rows mean none
pub no_fact : (row : Row) → ((kept : Org) → IsOrgRow row kept → ⊥) → ((kept : Node) → IsNodeRow row kept → ⊥) → ((kept : AllowPolicy) → IsPolicyRow row kept → ⊥) → (kept : Fact) → IsFactOf row kept → ⊥
no_fact row f g k (fact.Org x) is = f x is
no_fact row f g k (fact.Node x) is = g x is
no_fact row f g k (fact.Key x) is = is.0
no_fact row f g k (fact.Value x) is = is.0
no_fact row f g k (fact.Tag x) is = is.0
no_fact row f g k (fact.Group x) is = is.0
no_fact row f g k (fact.Edge x) is = is.0
no_fact row f g k (fact.Role x) is = is.0
no_fact row f g k (fact.Allow x) is = k x is
no_fact row f g k (fact.Deny x) is = is.0
no_fact row f g k (fact.Boundary x) is = is.0
no_fact row f g k (fact.Bound x) is = is.0

pub org_stopped : (row : Row) (stop : RowStop) → row.part ≡ codes "org" → Guesses IsOrgFact (IsOrgRow row) (Err stop) → Guesses IsFact (IsFactOf row) (Err stop)
org_stopped row BadRow part h = no_fact row h (λ kept is. parts_differ row.part (codes "org") (codes "node") part is.1.0 org_not_node) (λ kept is. parts_differ row.part (codes "org") (codes "allow") part is.1.0 org_not_allow)
org_stopped row OutOfMemory part h = tt

pub node_stopped : (row : Row) (stop : RowStop) → row.part ≡ codes "node" → Guesses IsNodeFact (IsNodeRow row) (Err stop) → Guesses IsFact (IsFactOf row) (Err stop)
node_stopped row BadRow part h = no_fact row (λ kept is. parts_differ row.part (codes "org") (codes "node") is.1.0 part org_not_node) h (λ kept is. parts_differ row.part (codes "node") (codes "allow") part is.1.0 node_not_allow)
node_stopped row OutOfMemory part h = tt

pub policy_stopped : (row : Row) (stop : RowStop) → row.part ≡ codes "allow" → Guesses IsPolicyFact (IsPolicyRow row) (Err stop) → Guesses IsFact (IsFactOf row) (Err stop)
policy_stopped row BadRow part h = no_fact row (λ kept is. parts_differ row.part (codes "org") (codes "allow") is.1.0 part org_not_allow) (λ kept is. parts_differ row.part (codes "node") (codes "allow") is.1.0 part node_not_allow) h
policy_stopped row OutOfMemory part h = tt

pub other_part : (row : Row) → row.part ≢ codes "org" → row.part ≢ codes "node" → row.part ≢ codes "allow" → (kept : Fact) → IsFactOf row kept → ⊥
other_part row not_org not_node not_allow = no_fact row (λ kept is. not_org is.1.0) (λ kept is. not_node is.1.0) (λ kept is. not_allow is.1.0)
