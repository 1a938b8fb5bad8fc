-- The derived `==` of the types decides `≡`.
use Rattle.std.proofs.Common.{refl, ap}
use Rattle.iam_text.proofs.Exact.{decides_same, decides_both, IsExact, number_exact, text_exact, list_exact, option_exact}
use Rattle.iam_names.specs.declared.node.NodeKind.TheVariants as node_kind
use Rattle.iam_names.specs.contracts.node.NodeKindPartialEq.TheImpl as node_kind_eq
use Rattle.iam_names.specs.declared.node.NodeName.TheVariants as node_name
use Rattle.iam_names.specs.contracts.node.NodeNamePartialEq.TheImpl as node_name_eq
use Rattle.iam_names.specs.declared.pool.Pool.TheVariants as pool
use Rattle.iam_names.specs.contracts.pool.PoolPartialEq.TheImpl as pool_eq
use Rattle.iam_names.specs.declared.caller.Caller.TheVariants as caller
use Rattle.iam_names.specs.contracts.caller.CallerPartialEq.TheImpl as caller_eq
use Rattle.iam_names.specs.declared.member.Member.TheVariants as member
use Rattle.iam_names.specs.contracts.member.MemberPartialEq.TheImpl as member_eq
use Rattle.iam_names.specs.declared.member.Leaf.TheVariants as leaf
use Rattle.iam_names.specs.contracts.member.LeafPartialEq.TheImpl as leaf_eq
use Rattle.iam_names.specs.declared.deny.DenyPrincipal.TheVariants as deny_principal
use Rattle.iam_names.specs.contracts.deny.DenyPrincipalPartialEq.TheImpl as deny_principal_eq
use Rattle.iam_names.specs.declared.principal_set.PrincipalSet.TheVariants as principal_set
use Rattle.iam_names.specs.contracts.principal_set.PrincipalSetPartialEq.TheImpl as principal_set_eq
use Rattle.iam_names.specs.declared.role.RoleName.TheVariants as role_name
use Rattle.iam_names.specs.contracts.role.RoleNamePartialEq.TheImpl as role_name_eq
use Rattle.iam_names.specs.contracts.email.EmailPartialEq.TheImpl as email_eq
use Rattle.iam_names.specs.contracts.permission.PermissionNamePartialEq.TheImpl as permission_eq
use Rattle.iam_names.specs.contracts.permission.PermissionGroupPartialEq.TheImpl as permission_group_eq
use Rattle.iam_names.specs.contracts.node.NodeIdPartialEq.TheImpl as node_id_eq
use Rattle.iam_names.specs.declared.node.NodeId.{NodeId}
use Rattle.iam_names.specs.declared.permission.PermissionGroup.{PermissionGroup}

pub node_kind_exact : IsExact node_kind_eq.ghosts.eq
node_kind_exact node_kind.Organization node_kind.Organization = (λ t. refl, λ e. refl)
node_kind_exact node_kind.Folder node_kind.Folder = (λ t. refl, λ e. refl)
node_kind_exact node_kind.Project node_kind.Project = (λ t. refl, λ e. refl)
node_kind_exact a b = (λ t. cc, λ e. cc)

pub node_id_exact : IsExact node_id_eq.ghosts.eq
node_id_exact a b =
    decides_same _ (λ e i. record { kind = e.0 i; number = e.1 i }) (λ e. (ap (λ (n : NodeId). n.kind) e, ap (λ (n : NodeId). n.number) e))
    (decides_both _ _ (node_kind_exact a.kind b.kind) (number_exact a.number b.number))

pub node_name_exact : IsExact node_name_eq.ghosts.eq
node_name_exact (node_name.Organization a0) (node_name.Organization b0) = decides_same _ (λ e. ap node_name.Organization e) (λ e. cc) (number_exact a0 b0)
node_name_exact (node_name.Folder a0) (node_name.Folder b0) = decides_same _ (λ e. ap node_name.Folder e) (λ e. cc) (number_exact a0 b0)
node_name_exact (node_name.ProjectNumber a0) (node_name.ProjectNumber b0) = decides_same _ (λ e. ap node_name.ProjectNumber e) (λ e. cc) (number_exact a0 b0)
node_name_exact (node_name.ProjectId a0) (node_name.ProjectId b0) = decides_same _ (λ e. ap node_name.ProjectId e) (λ e. cc) (text_exact a0 b0)
node_name_exact a b = (λ t. cc, λ e. cc)

pub email_exact : IsExact email_eq.ghosts.eq
email_exact a b = text_exact a b

pub pool_exact : IsExact pool_eq.ghosts.eq
pool_exact (pool.Workforce a0) (pool.Workforce b0) = decides_same _ (λ e. ap pool.Workforce e) (λ e. cc) (text_exact a0 b0)
pool_exact (pool.Workload a0 a1) (pool.Workload b0 b1) = decides_same _ (λ e. cc) (λ e. (cc, cc)) (decides_both _ _ (number_exact a0 b0) (text_exact a1 b1))
pool_exact a b = (λ t. cc, λ e. cc)

pub caller_exact : IsExact caller_eq.ghosts.eq
caller_exact caller.Anonymous caller.Anonymous = (λ t. refl, λ e. refl)
caller_exact (caller.User a0) (caller.User b0) = decides_same _ (λ e. ap caller.User e) (λ e. cc) (email_exact a0 b0)
caller_exact (caller.Service a0) (caller.Service b0) = decides_same _ (λ e. ap caller.Service e) (λ e. cc) (email_exact a0 b0)
caller_exact (caller.Pooled a0 a1 a2) (caller.Pooled b0 b1 b2) = decides_same _ (λ e. cc) (λ e. (cc, (cc, cc))) (decides_both _ _ (pool_exact a0 b0) (decides_both _ _ (text_exact a1 b1) (list_exact text_exact a2 b2)))
caller_exact a b = (λ t. cc, λ e. cc)

pub member_exact : IsExact member_eq.ghosts.eq
member_exact (member.User a0) (member.User b0) = decides_same _ (λ e. ap member.User e) (λ e. cc) (email_exact a0 b0)
member_exact (member.Service a0) (member.Service b0) = decides_same _ (λ e. ap member.Service e) (λ e. cc) (email_exact a0 b0)
member_exact (member.Group a0) (member.Group b0) = decides_same _ (λ e. ap member.Group e) (λ e. cc) (email_exact a0 b0)
member_exact (member.Domain a0) (member.Domain b0) = decides_same _ (λ e. ap member.Domain e) (λ e. cc) (text_exact a0 b0)
member_exact member.AllUsers member.AllUsers = (λ t. refl, λ e. refl)
member_exact member.AllAuthenticated member.AllAuthenticated = (λ t. refl, λ e. refl)
member_exact (member.PoolSubject a0 a1) (member.PoolSubject b0 b1) = decides_same _ (λ e. cc) (λ e. (cc, cc)) (decides_both _ _ (pool_exact a0 b0) (text_exact a1 b1))
member_exact (member.PoolGroup a0 a1) (member.PoolGroup b0 b1) = decides_same _ (λ e. cc) (λ e. (cc, cc)) (decides_both _ _ (pool_exact a0 b0) (text_exact a1 b1))
member_exact (member.PoolAll a0) (member.PoolAll b0) = decides_same _ (λ e. ap member.PoolAll e) (λ e. cc) (pool_exact a0 b0)
member_exact (member.Deleted a0) (member.Deleted b0) = decides_same _ (λ e. ap member.Deleted e) (λ e. cc) (text_exact a0 b0)
member_exact a b = (λ t. cc, λ e. cc)

pub leaf_exact : IsExact leaf_eq.ghosts.eq
leaf_exact (leaf.User a0) (leaf.User b0) = decides_same _ (λ e. ap leaf.User e) (λ e. cc) (email_exact a0 b0)
leaf_exact (leaf.Service a0) (leaf.Service b0) = decides_same _ (λ e. ap leaf.Service e) (λ e. cc) (email_exact a0 b0)
leaf_exact (leaf.Group a0) (leaf.Group b0) = decides_same _ (λ e. ap leaf.Group e) (λ e. cc) (email_exact a0 b0)
leaf_exact a b = (λ t. cc, λ e. cc)

pub deny_principal_exact : IsExact deny_principal_eq.ghosts.eq
deny_principal_exact (deny_principal.Subject a0) (deny_principal.Subject b0) = decides_same _ (λ e. ap deny_principal.Subject e) (λ e. cc) (email_exact a0 b0)
deny_principal_exact (deny_principal.Service a0) (deny_principal.Service b0) = decides_same _ (λ e. ap deny_principal.Service e) (λ e. cc) (email_exact a0 b0)
deny_principal_exact (deny_principal.Group a0) (deny_principal.Group b0) = decides_same _ (λ e. ap deny_principal.Group e) (λ e. cc) (email_exact a0 b0)
deny_principal_exact deny_principal.Public deny_principal.Public = (λ t. refl, λ e. refl)
deny_principal_exact (deny_principal.Customer a0) (deny_principal.Customer b0) = decides_same _ (λ e. ap deny_principal.Customer e) (λ e. cc) (text_exact a0 b0)
deny_principal_exact (deny_principal.PoolSubject a0 a1) (deny_principal.PoolSubject b0 b1) = decides_same _ (λ e. cc) (λ e. (cc, cc)) (decides_both _ _ (pool_exact a0 b0) (text_exact a1 b1))
deny_principal_exact (deny_principal.PoolGroup a0 a1) (deny_principal.PoolGroup b0 b1) = decides_same _ (λ e. cc) (λ e. (cc, cc)) (decides_both _ _ (pool_exact a0 b0) (text_exact a1 b1))
deny_principal_exact (deny_principal.PoolAll a0) (deny_principal.PoolAll b0) = decides_same _ (λ e. ap deny_principal.PoolAll e) (λ e. cc) (pool_exact a0 b0)
deny_principal_exact a b = (λ t. cc, λ e. cc)

pub principal_set_exact : IsExact principal_set_eq.ghosts.eq
principal_set_exact (principal_set.Node a0) (principal_set.Node b0) = decides_same _ (λ e. ap principal_set.Node e) (λ e. cc) (node_id_exact a0 b0)
principal_set_exact (principal_set.Pool a0) (principal_set.Pool b0) = decides_same _ (λ e. ap principal_set.Pool e) (λ e. cc) (pool_exact a0 b0)
principal_set_exact a b = (λ t. cc, λ e. cc)

pub role_name_exact : IsExact role_name_eq.ghosts.eq
role_name_exact (role_name.Predefined a0) (role_name.Predefined b0) = decides_same _ (λ e. ap role_name.Predefined e) (λ e. cc) (text_exact a0 b0)
role_name_exact (role_name.OfOrganization a0 a1) (role_name.OfOrganization b0 b1) = decides_same _ (λ e. cc) (λ e. (cc, cc)) (decides_both _ _ (number_exact a0 b0) (text_exact a1 b1))
role_name_exact (role_name.OfProject a0 a1) (role_name.OfProject b0 b1) = decides_same _ (λ e. cc) (λ e. (cc, cc)) (decides_both _ _ (text_exact a0 b0) (text_exact a1 b1))
role_name_exact a b = (λ t. cc, λ e. cc)

pub permission_exact : IsExact permission_eq.ghosts.eq
permission_exact a b = text_exact a b

pub permission_group_exact : IsExact permission_group_eq.ghosts.eq
permission_group_exact a b =
    decides_same _ (λ e i. record { host = e.0 i; resource = e.1.0 i; verb = e.1.1 i })
    (λ e. (ap (λ (g : PermissionGroup). g.host) e, (ap (λ (g : PermissionGroup). g.resource) e, ap (λ (g : PermissionGroup). g.verb) e)))
    (decides_both _ _ (text_exact a.host b.host) (decides_both _ _ (option_exact text_exact a.resource b.resource) (option_exact text_exact a.verb b.verb)))
