-- The permissions that reads ask for are in the catalogue.
use Rattle.std.specs.Prelude.{IsTrue, codes}
use Rattle.std.proofs.Common.{refl}
use Rattle.iam_names.specs.declared.node.NodeKind.{NodeKind}
use Rattle.iam_names.specs.declared.node.NodeKind.TheVariants.{Organization, Folder, Project}
use Rattle.iam_model.specs.Catalogue.{is_permission, lines, permits}
use Rattle.iam_law.specs.Asked.{permission_at}

pub get_policy_is_known : (kind : NodeKind) → IsTrue (is_permission (permission_at kind (codes "getIamPolicy")))
unfolding lines permits
get_policy_is_known Organization = refl
get_policy_is_known Folder = refl
get_policy_is_known Project = refl

pub get_is_known : (kind : NodeKind) → IsTrue (is_permission (permission_at kind (codes "get")))
unfolding lines permits
get_is_known Organization = refl
get_is_known Folder = refl
get_is_known Project = refl

pub list_folders_is_known : IsTrue (is_permission (permission_at Folder (codes "list")))
unfolding lines permits
list_folders_is_known = refl

pub list_projects_is_known : IsTrue (is_permission (permission_at Project (codes "list")))
unfolding lines permits
list_projects_is_known = refl
