-- Texts of none of the forms, and the value of a text.
use Rattle.std.proofs.Common.{◌≡◌, ◌≢◌, ℕ, List, ◌++◌, codes, Some, None, Option, refl, sym, ap, ◌∙◌}
use Rattle.std.specs.Fmt.{decimal}
use Rattle.iam_names.specs.Number.{IsNodeNumber}
use Rattle.iam_names.specs.Node.{IsNodeId, IsNodeName, IsProjectId, collection_of, name_of_node, node_id_text, node_text}
use Rattle.iam_names.specs.Reading.{IsRead, IsToldByText, ReadsBack}
use Rattle.iam_names.specs.declared.node.NodeId.{NodeId}
use Rattle.iam_names.specs.declared.node.NodeKind.TheVariants.{Organization as AnOrganization, Folder as AFolder, Project as AProject}
use Rattle.iam_names.specs.declared.node.NodeName.{NodeName}
use Rattle.iam_names.specs.declared.node.NodeName.TheVariants.{Organization, Folder, ProjectNumber, ProjectId}
use Rattle.iam_names.proofs.Told.{node_id_told, node_told}

-- values that are told by their texts are read back
pub read_back : {A : Type 0} (F : A → Type 0) (w : A → List ℕ) → IsToldByText F w → (text : List ℕ) (r : Option A) → IsRead F w text r → ReadsBack F w text r
read_back F w told text None none = λ v formed same. absurd (none v formed same)
read_back F w told text (Some found) is = λ v formed same. ap Some (told found v is.0 formed (sym is.1 ∙ same))

-- ---- nodes by their numbers

pub no_node_id : (text : List ℕ) → IsRead IsNodeNumber (λ n. codes "organizations/" ++ decimal n) text None → IsRead IsNodeNumber (λ n. codes "folders/" ++ decimal n) text None
    → IsRead IsNodeNumber (λ n. codes "projects/" ++ decimal n) text None → IsRead IsNodeId node_id_text text None
no_node_id text organization folder project = λ node formed same.
    elim node.kind as (λ k. text ≡ collection_of k ++ decimal node.number → ⊥) [
      | AnOrganization ↦ λ is. organization node.number formed is
      | AFolder ↦ λ is. folder node.number formed is
      | AProject ↦ λ is. project node.number formed is
    ] same

pub node_id_back : (text : List ℕ) (r : Option NodeId) → IsRead IsNodeId node_id_text text r → ReadsBack IsNodeId node_id_text text r
node_id_back text r read = read_back IsNodeId node_id_text node_id_told text r read

-- ---- nodes as requests name them

named_formed : (node : NodeId) → IsNodeId node → IsNodeName (name_of_node node)
named_formed node formed = elim node.kind as (λ k. IsNodeName (name_of_node (record { kind = k; number = node.number }))) [ AnOrganization ↦ formed | AFolder ↦ formed | AProject ↦ formed ]

named_text : (node : NodeId) → node_id_text node ≡ node_text (name_of_node node)
named_text node =
    elim node.kind as (λ k. node_id_text (record { kind = k; number = node.number }) ≡ node_text (name_of_node (record { kind = k; number = node.number }))) [ AnOrganization ↦ refl | AFolder ↦ refl | AProject ↦ refl ]

pub number_named : (text : List ℕ) (node : NodeId) → IsRead IsNodeId node_id_text text (Some node) → IsRead IsNodeName node_text text (Some (name_of_node node))
number_named text node read = (named_formed node read.0, read.1 ∙ named_text node)

pub no_node_name : (text : List ℕ) → IsRead IsNodeId node_id_text text None → ((id : List ℕ) → IsProjectId id → text ≢ codes "projects/" ++ id) → IsRead IsNodeName node_text text None
no_node_name text none no_id = λ name formed same. go name formed same
  where
    go : (name : NodeName) → IsNodeName name → text ≡ node_text name → ⊥
    go (Organization n) formed same = none (record { kind = AnOrganization; number = n }) formed same
    go (Folder n) formed same = none (record { kind = AFolder; number = n }) formed same
    go (ProjectNumber n) formed same = none (record { kind = AProject; number = n }) formed same
    go (ProjectId id) formed same = no_id id formed same

pub node_name_back : (text : List ℕ) (r : Option NodeName) → IsRead IsNodeName node_text text r → ReadsBack IsNodeName node_text text r
node_name_back text r read = read_back IsNodeName node_text node_told text r read
