-- Sets of principals that boundary policies are bound to.
use Rattle.std.specs.Prelude.{ℕ, List, ◌++◌, codes}
use Rattle.iam_names.specs.Node.{node_id_text}
use Rattle.iam_names.specs.Pool.{pool_text}
use Rattle.iam_names.specs.declared.principal_set.PrincipalSet.{PrincipalSet}
use Rattle.iam_names.specs.declared.principal_set.PrincipalSet.TheVariants.{Node, Pool}

abbrev pub principal_set_text : PrincipalSet → List ℕ
principal_set_text (Node node) = codes "//cloudresourcemanager.googleapis.com/" ++ node_id_text node
principal_set_text (Pool pool) = codes "//" ++ pool_text pool
