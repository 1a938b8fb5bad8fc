-- Which facts are well formed. Those of the kinds that no command makes yet never are.
use Rattle.std.specs.Prelude.{◌≡◌, ℕ, ◌<◌, ◌^◌, true, List, Some, None, All}
use Rattle.std.specs.declared.option.Option.{Option}
use Rattle.iam_names.specs.Display.{IsFolderDisplay, IsProjectDisplay}
use Rattle.iam_names.specs.Domain.{IsDomain, IsCustomer}
use Rattle.iam_names.specs.Member.{IsMember}
use Rattle.iam_names.specs.Node.{IsNodeId, IsProjectId}
use Rattle.iam_names.specs.Number.{IsNodeNumber}
use Rattle.iam_names.specs.Role.{IsRoleName}
use Rattle.iam_names.specs.declared.node.NodeKind.{NodeKind}
use Rattle.iam_names.specs.declared.node.NodeKind.TheVariants.{Organization, Folder, Project}
use Rattle.iam_types.specs.declared.allow.AllowPolicy.{AllowPolicy}
use Rattle.iam_types.specs.declared.allow.Binding.{Binding}
use Rattle.iam_types.specs.declared.fact.Fact.{Fact}
use Rattle.iam_types.specs.declared.fact.Fact.TheVariants as fact
use Rattle.iam_types.specs.declared.fact.FactChange.{FactChange}
use Rattle.iam_types.specs.declared.fact.FactChange.TheVariants.{Put, Cut}
use Rattle.iam_types.specs.declared.node.Node.{Node}
use Rattle.iam_types.specs.declared.node.Org.{Org}
use Rattle.iam_model.specs.Policies.{has_members}

-- a binding as it is stored: it has members, and no condition yet
pub record IsStored (binding : Binding) : Type 0 where
  pub role : IsRoleName binding.role
  pub members : All IsMember binding.members
  pub some : has_members binding ≡ true
  pub unconditional : binding.condition ≡ None

pub record IsOrg (org : Org) : Type 0 where
  pub number : IsNodeNumber org.number
  pub domain : IsDomain org.domain
  pub customer : IsCustomer org.customer

-- the organisation, whose counts numbers of 64 bits hold
pub record IsOrgFact (org : Org) : Type 0 where
  pub formed : IsOrg org
  pub next : org.next < 2 ^ 64
  pub changes : org.changes < 2 ^ 64

-- a folder without a project's id, or a project with its id; each is shown by a name of its own form
abbrev pub HasNodeForm : NodeKind → List ℕ → Option (List ℕ) → Type 0
HasNodeForm Organization display project = ⊥
HasNodeForm Folder display None = IsFolderDisplay display
HasNodeForm Folder display (Some id) = ⊥
HasNodeForm Project display None = ⊥
HasNodeForm Project display (Some id) = IsProjectId id × IsProjectDisplay display

pub record IsNodeFact (node : Node) : Type 0 where
  pub id : IsNodeId node.id
  pub parent : IsNodeId node.parent
  pub form : HasNodeForm node.id.kind node.display node.project

-- the policy of a node, whose bindings are stored
pub record IsPolicyFact (policy : AllowPolicy) : Type 0 where
  pub node : IsNodeId policy.node
  pub bindings : All IsStored policy.bindings
  pub set : policy.set < 2 ^ 64

abbrev pub IsFact : Fact → Type 0
IsFact (fact.Org org) = IsOrgFact org
IsFact (fact.Node node) = IsNodeFact node
IsFact (fact.Key key) = ⊥
IsFact (fact.Value value) = ⊥
IsFact (fact.Tag binding) = ⊥
IsFact (fact.Group email) = ⊥
IsFact (fact.Edge edge) = ⊥
IsFact (fact.Role role) = ⊥
IsFact (fact.Allow policy) = IsPolicyFact policy
IsFact (fact.Deny policy) = ⊥
IsFact (fact.Boundary boundary) = ⊥
IsFact (fact.Bound binding) = ⊥

abbrev pub IsChange : FactChange → Type 0
IsChange (Put fact) = IsFact fact
IsChange (Cut fact) = IsFact fact
