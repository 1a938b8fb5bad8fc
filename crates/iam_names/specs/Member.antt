-- Members of allow policies.
use Rattle.std.specs.Prelude.{ℕ, ◌≤◌, List, ◌++◌, length, codes}
use Rattle.iam_names.specs.Email.{IsEmail}
use Rattle.iam_names.specs.Pool.{pool_subject_text, pool_group_text, pool_all_text}
use Rattle.iam_names.specs.declared.member.Member.{Member}
use Rattle.iam_names.specs.declared.member.Member.TheVariants.{User, Service, Group, Domain, AllUsers, AllAuthenticated, PoolSubject, PoolGroup, PoolAll, Deleted}

abbrev pub member_text : Member → List ℕ
member_text (User email) = codes "user:" ++ email
member_text (Service email) = codes "serviceAccount:" ++ email
member_text (Group email) = codes "group:" ++ email
member_text (Domain domain) = codes "domain:" ++ domain
member_text AllUsers = codes "allUsers"
member_text AllAuthenticated = codes "allAuthenticatedUsers"
member_text (PoolSubject pool subject) = pool_subject_text pool subject
member_text (PoolGroup pool group) = pool_group_text pool group
member_text (PoolAll pool) = pool_all_text pool
member_text (Deleted member) = codes "deleted:" ++ member

-- the forms that are read: users
abbrev pub HasMemberForm : Member → Type 0
HasMemberForm (User email) = IsEmail email
HasMemberForm (Service email) = ⊥
HasMemberForm (Group email) = ⊥
HasMemberForm (Domain domain) = ⊥
HasMemberForm AllUsers = ⊥
HasMemberForm AllAuthenticated = ⊥
HasMemberForm (PoolSubject pool subject) = ⊥
HasMemberForm (PoolGroup pool group) = ⊥
HasMemberForm (PoolAll pool) = ⊥
HasMemberForm (Deleted member) = ⊥

abbrev pub IsMember : Member → Type 0
IsMember member = HasMemberForm member × (length (member_text member) ≤ 256)
