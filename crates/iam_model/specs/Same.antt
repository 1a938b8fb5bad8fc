-- When two names are the same one.
use Rattle.std.specs.Prelude.{Bool, true, false, ◌&&◌, ◌==◌}
use Rattle.std.specs.Str.{bytes_eq}
use Rattle.iam_names.specs.declared.node.NodeKind.{NodeKind}
use Rattle.iam_names.specs.declared.node.NodeKind.TheVariants.{Organization, Folder, Project}
use Rattle.iam_names.specs.declared.node.NodeId.{NodeId}
use Rattle.iam_names.specs.declared.pool.Pool.{Pool}
use Rattle.iam_names.specs.declared.pool.Pool.TheVariants.{Workforce, Workload}
use Rattle.iam_names.specs.declared.role.RoleName.{RoleName}
use Rattle.iam_names.specs.declared.role.RoleName.TheVariants.{Predefined, OfOrganization, OfProject}

abbrev pub same_kind : NodeKind → NodeKind → Bool
same_kind Organization Organization = true
same_kind Folder Folder = true
same_kind Project Project = true
same_kind a b = false

abbrev pub same_node : NodeId → NodeId → Bool
same_node a b = same_kind a.kind b.kind && (a.number == b.number)

abbrev pub same_pool : Pool → Pool → Bool
same_pool (Workforce a) (Workforce b) = bytes_eq a b
same_pool (Workload project a) (Workload other b) = (project == other) && bytes_eq a b
same_pool a b = false

abbrev pub same_role : RoleName → RoleName → Bool
same_role (Predefined a) (Predefined b) = bytes_eq a b
same_role (OfOrganization number a) (OfOrganization other b) = (number == other) && bytes_eq a b
same_role (OfProject project a) (OfProject other b) = bytes_eq project other && bytes_eq a b
same_role a b = false
