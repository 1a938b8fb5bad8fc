-- Well formed names are told by their texts.
use Rattle.std.proofs.Common.{◌≡◌, ◌≢◌, ℕ, ◌≤◌, List, ◌++◌, get_or, refl, sym, ap, ◌∙◌, codes, arith}
use Rattle.std.specs.Prelude.{nat_le, slice_index}
use Rattle.std.proofs.lemmas.Bool.{and_parts, leb-true}
use Rattle.std.proofs.lemmas.List.{append_cancel_left}
use Rattle.std.specs.Fmt.{decimal}
use Rattle.std.proofs.lemmas.Fmt.{decimal_injective}
use Rattle.iam_names.specs.Reading.{IsToldByText}
use Rattle.iam_names.specs.Caller.{IsCaller, caller_text}
use Rattle.iam_names.specs.Member.{IsMember, member_text}
use Rattle.iam_names.specs.Node.{IsNodeId, IsNodeName, IsProjectId, collection_of, name_of_node, node_id_text, node_text}
use Rattle.iam_names.specs.Number.{IsNodeNumber}
use Rattle.iam_names.specs.Permission.{IsPermission, permission_text}
use Rattle.iam_names.specs.Role.{IsRoleName, role_text}
use Rattle.iam_names.specs.declared.caller.Caller.TheVariants as c
use Rattle.iam_names.specs.declared.member.Member.TheVariants as m
use Rattle.iam_names.specs.declared.node.NodeKind.{NodeKind}
use Rattle.iam_names.specs.declared.node.NodeKind.TheVariants.{Organization as AnOrganization, Folder as AFolder, Project as AProject}
use Rattle.iam_names.specs.declared.node.NodeName.TheVariants as n
use Rattle.iam_names.specs.declared.role.RoleName.TheVariants as r
use Rattle.iam_names.proofs.Numbers.{first_digit, written_is_number}

pub permission_told : IsToldByText IsPermission permission_text
permission_told a b f g same = same

-- nodes of one collection, whatever stands behind it
same_collection : (a b : NodeKind) (x y : List ℕ) → collection_of a ++ x ≡ collection_of b ++ y → a ≡ b
same_collection AnOrganization AnOrganization x y same = refl
same_collection AnOrganization AFolder x y same = let first : get_or (codes "organizations/") 0 0 ≡ get_or (codes "folders/") 0 0 = ap (λ (t : List ℕ). get_or t 0 0) same in absurd (omega (arith, first))
same_collection AnOrganization AProject x y same = let first : get_or (codes "organizations/") 0 0 ≡ get_or (codes "projects/") 0 0 = ap (λ (t : List ℕ). get_or t 0 0) same in absurd (omega (arith, first))
same_collection AFolder AnOrganization x y same = let first : get_or (codes "folders/") 0 0 ≡ get_or (codes "organizations/") 0 0 = ap (λ (t : List ℕ). get_or t 0 0) same in absurd (omega (arith, first))
same_collection AFolder AFolder x y same = refl
same_collection AFolder AProject x y same = let first : get_or (codes "folders/") 0 0 ≡ get_or (codes "projects/") 0 0 = ap (λ (t : List ℕ). get_or t 0 0) same in absurd (omega (arith, first))
same_collection AProject AnOrganization x y same = let first : get_or (codes "projects/") 0 0 ≡ get_or (codes "organizations/") 0 0 = ap (λ (t : List ℕ). get_or t 0 0) same in absurd (omega (arith, first))
same_collection AProject AFolder x y same = let first : get_or (codes "projects/") 0 0 ≡ get_or (codes "folders/") 0 0 = ap (λ (t : List ℕ). get_or t 0 0) same in absurd (omega (arith, first))
same_collection AProject AProject x y same = refl

pub node_id_told : IsToldByText IsNodeId node_id_text
node_id_told a b f g same =
    let kinds : a.kind ≡ b.kind = same_collection a.kind b.kind (decimal a.number) (decimal b.number) same in
    let texts : collection_of a.kind ++ decimal a.number ≡ collection_of a.kind ++ decimal b.number = same ∙ ap (λ (k : NodeKind). collection_of k ++ decimal b.number) (sym kinds) in
    let numbers : a.number ≡ b.number = decimal_injective a.number b.number (omega (arith, f)) (omega (arith, g)) (append_cancel_left (collection_of a.kind) (decimal a.number) (decimal b.number) texts) in
    λ i. record { kind = kinds i; number = numbers i }

-- the id of a project is no number
pub no_project_number : (number : ℕ) → IsNodeNumber number → (id : List ℕ) → IsProjectId id → decimal number ≢ id
no_project_number number formed id is same =
    let digits = (written_is_number number formed).0.0 in
    let first = first_digit (decimal number) digits.0 digits.2 in
    let lower = and_parts (nat_le 97 (slice_index id 0)) (nat_le (slice_index id 0) 122) is.1 in
    let above : 97 ≤ slice_index id 0 = leb-true 97 (slice_index id 0) lower.0 in
    let at : get_or (decimal number) 0 0 ≡ get_or id 0 0 = ap (λ (t : List ℕ). get_or t 0 0) same in
    omega (arith, first, above, at)

pub node_told : IsToldByText IsNodeName node_text
node_told (n.Organization a) (n.Organization b) f g same = ap name_of_node (node_id_told (record { kind = AnOrganization; number = a }) (record { kind = AnOrganization; number = b }) f g same)
node_told (n.Organization a) (n.Folder b) f g same = ap name_of_node (node_id_told (record { kind = AnOrganization; number = a }) (record { kind = AFolder; number = b }) f g same)
node_told (n.Organization a) (n.ProjectNumber b) f g same = ap name_of_node (node_id_told (record { kind = AnOrganization; number = a }) (record { kind = AProject; number = b }) f g same)
node_told (n.Organization a) (n.ProjectId b) f g same = let first : get_or (codes "organizations/") 0 0 ≡ get_or (codes "projects/") 0 0 = ap (λ (t : List ℕ). get_or t 0 0) same in absurd (omega (arith, first))
node_told (n.Folder a) (n.Organization b) f g same = ap name_of_node (node_id_told (record { kind = AFolder; number = a }) (record { kind = AnOrganization; number = b }) f g same)
node_told (n.Folder a) (n.Folder b) f g same = ap name_of_node (node_id_told (record { kind = AFolder; number = a }) (record { kind = AFolder; number = b }) f g same)
node_told (n.Folder a) (n.ProjectNumber b) f g same = ap name_of_node (node_id_told (record { kind = AFolder; number = a }) (record { kind = AProject; number = b }) f g same)
node_told (n.Folder a) (n.ProjectId b) f g same = let first : get_or (codes "folders/") 0 0 ≡ get_or (codes "projects/") 0 0 = ap (λ (t : List ℕ). get_or t 0 0) same in absurd (omega (arith, first))
node_told (n.ProjectNumber a) (n.Organization b) f g same = ap name_of_node (node_id_told (record { kind = AProject; number = a }) (record { kind = AnOrganization; number = b }) f g same)
node_told (n.ProjectNumber a) (n.Folder b) f g same = ap name_of_node (node_id_told (record { kind = AProject; number = a }) (record { kind = AFolder; number = b }) f g same)
node_told (n.ProjectNumber a) (n.ProjectNumber b) f g same = ap name_of_node (node_id_told (record { kind = AProject; number = a }) (record { kind = AProject; number = b }) f g same)
node_told (n.ProjectNumber a) (n.ProjectId b) f g same = absurd (no_project_number a f b g (append_cancel_left (codes "projects/") (decimal a) b same))
node_told (n.ProjectId a) (n.Organization b) f g same = let first : get_or (codes "projects/") 0 0 ≡ get_or (codes "organizations/") 0 0 = ap (λ (t : List ℕ). get_or t 0 0) same in absurd (omega (arith, first))
node_told (n.ProjectId a) (n.Folder b) f g same = let first : get_or (codes "projects/") 0 0 ≡ get_or (codes "folders/") 0 0 = ap (λ (t : List ℕ). get_or t 0 0) same in absurd (omega (arith, first))
node_told (n.ProjectId a) (n.ProjectNumber b) f g same = absurd (no_project_number b g a f (sym (append_cancel_left (codes "projects/") a (decimal b) same)))
node_told (n.ProjectId a) (n.ProjectId b) f g same = ap n.ProjectId (append_cancel_left (codes "projects/") a b same)

pub caller_told : IsToldByText IsCaller caller_text
caller_told c.Anonymous c.Anonymous f g same = refl
caller_told c.Anonymous (c.User b) f g same = let first : get_or (codes "anonymous") 0 0 ≡ get_or (codes "user:") 0 0 = ap (λ (t : List ℕ). get_or t 0 0) same in absurd (omega arith)
caller_told (c.User a) c.Anonymous f g same = let first : get_or (codes "user:") 0 0 ≡ get_or (codes "anonymous") 0 0 = ap (λ (t : List ℕ). get_or t 0 0) same in absurd (omega arith)
caller_told (c.User a) (c.User b) f g same = let is : a ≡ b = cc in ap c.User is
caller_told c.Anonymous (c.Service b) f g same = absurd g.0
caller_told c.Anonymous (c.Pooled p s l) f g same = absurd g.0
caller_told (c.User a) (c.Service b) f g same = absurd g.0
caller_told (c.User a) (c.Pooled p s l) f g same = absurd g.0
caller_told (c.Service a) b f g same = absurd f.0
caller_told (c.Pooled p s l) b f g same = absurd f.0

pub member_told : IsToldByText IsMember member_text
member_told (m.User a) (m.User b) f g e = let same : a ≡ b = cc in ap m.User same
member_told (m.User a) (m.Service b) f g e = absurd g.0
member_told (m.User a) (m.Group b) f g e = absurd g.0
member_told (m.User a) (m.Domain b) f g e = absurd g.0
member_told (m.User a) m.AllUsers f g e = absurd g.0
member_told (m.User a) m.AllAuthenticated f g e = absurd g.0
member_told (m.User a) (m.PoolSubject p s) f g e = absurd g.0
member_told (m.User a) (m.PoolGroup p s) f g e = absurd g.0
member_told (m.User a) (m.PoolAll p) f g e = absurd g.0
member_told (m.User a) (m.Deleted b) f g e = absurd g.0
member_told (m.Service a) b f g e = absurd f.0
member_told (m.Group a) b f g e = absurd f.0
member_told (m.Domain a) b f g e = absurd f.0
member_told m.AllUsers b f g e = absurd f.0
member_told m.AllAuthenticated b f g e = absurd f.0
member_told (m.PoolSubject p s) b f g e = absurd f.0
member_told (m.PoolGroup p s) b f g e = absurd f.0
member_told (m.PoolAll p) b f g e = absurd f.0
member_told (m.Deleted a) b f g e = absurd f.0

pub role_told : IsToldByText IsRoleName role_text
role_told (r.Predefined a) (r.Predefined b) f g e = let same : a ≡ b = cc in ap r.Predefined same
role_told (r.Predefined a) (r.OfOrganization n b) f g e = absurd g
role_told (r.Predefined a) (r.OfProject p b) f g e = absurd g
role_told (r.OfOrganization n a) b f g e = absurd f
role_told (r.OfProject p a) b f g e = absurd f
