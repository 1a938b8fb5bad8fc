-- Principals of deny policies.
use Rattle.std.specs.Prelude.{ℕ, List, ◌++◌, codes}
use Rattle.iam_names.specs.Pool.{pool_subject_text, pool_group_text, pool_all_text}
use Rattle.iam_names.specs.declared.deny.DenyPrincipal.{DenyPrincipal}
use Rattle.iam_names.specs.declared.deny.DenyPrincipal.TheVariants.{Subject, Service, Group, Public, Customer, PoolSubject, PoolGroup, PoolAll}

abbrev pub deny_principal_text : DenyPrincipal → List ℕ
deny_principal_text (Subject email) = codes "principal://goog/subject/" ++ email
deny_principal_text (Service email) = codes "principal://iam.googleapis.com/projects/-/serviceAccounts/" ++ email
deny_principal_text (Group email) = codes "principalSet://goog/group/" ++ email
deny_principal_text Public = codes "principalSet://goog/public:all"
deny_principal_text (Customer customer) = codes "principalSet://goog/cloudIdentityCustomerId/" ++ customer
deny_principal_text (PoolSubject pool subject) = pool_subject_text pool subject
deny_principal_text (PoolGroup pool group) = pool_group_text pool group
deny_principal_text (PoolAll pool) = pool_all_text pool
