-- The permissions that commands need are in the catalogue.
use Rattle.std.specs.Prelude.{◌≢◌, IsTrue, codes}
use Rattle.std.proofs.Common.{refl}
use Rattle.iam_names.specs.declared.node.NodeKind.{NodeKind}
use Rattle.iam_names.specs.declared.node.NodeKind.TheVariants.{Organization, Folder, Project}
use Rattle.iam_model.specs.Catalogue.{is_permission, lines, permits}
use Rattle.iam_law.specs.Asked.{permission_at}

pub set_is_known : (kind : NodeKind) → IsTrue (is_permission (permission_at kind (codes "setIamPolicy")))
unfolding lines permits
set_is_known Organization = refl
set_is_known Folder = refl
set_is_known Project = refl

pub folder_creation_is_known : IsTrue (is_permission (codes "resourcemanager.folders.create"))
unfolding lines permits
folder_creation_is_known = refl

pub project_creation_is_known : IsTrue (is_permission (codes "resourcemanager.projects.create"))
unfolding lines permits
project_creation_is_known = refl

pub renaming_is_known : IsTrue (is_permission (codes "resourcemanager.folders.update"))
unfolding lines permits
renaming_is_known = refl

pub deletion_is_known : (kind : NodeKind) → kind ≢ Organization → IsTrue (is_permission (permission_at kind (codes "delete")))
unfolding lines permits
deletion_is_known Organization other = absurd (other refl)
deletion_is_known Folder other = refl
deletion_is_known Project other = refl

pub undeletion_is_known : (kind : NodeKind) → kind ≢ Organization → IsTrue (is_permission (permission_at kind (codes "undelete")))
unfolding lines permits
undeletion_is_known Organization other = absurd (other refl)
undeletion_is_known Folder other = refl
undeletion_is_known Project other = refl
