-- Who is held by a member of an allow policy.
use Rattle.std.specs.Prelude.{Bool, true, false, ◌&&◌}
use Rattle.std.specs.List.{list_any}
use Rattle.std.specs.Str.{bytes_eq}
use Rattle.iam_names.specs.Email.{domain_of}
use Rattle.iam_names.specs.declared.caller.Caller.{Caller}
use Rattle.iam_names.specs.declared.caller.Caller.TheVariants.{User as UserCaller, Service as ServiceCaller, Pooled}
use Rattle.iam_names.specs.declared.member.Member.{Member}
use Rattle.iam_names.specs.declared.member.Member.TheVariants.{User, Service, Domain, AllUsers, AllAuthenticated, PoolSubject, PoolGroup, PoolAll}
use Rattle.iam_types.specs.declared.tables.Tables.{Tables}
use Rattle.iam_model.specs.Same.{same_pool}

-- A deleted member holds nobody. Memberships of groups aren't kept yet, so a group holds nobody either.
abbrev pub holds : Tables → Member → Caller → Bool
holds tables AllUsers caller = true
holds tables AllAuthenticated (UserCaller caller) = true
holds tables AllAuthenticated (ServiceCaller caller) = true
holds tables (User email) (UserCaller caller) = bytes_eq email caller
holds tables (Domain domain) (UserCaller caller) = bytes_eq domain (domain_of caller)
holds tables (Service email) (ServiceCaller caller) = bytes_eq email caller
holds tables (PoolSubject pool subject) (Pooled from caller groups) = same_pool pool from && bytes_eq subject caller
holds tables (PoolGroup pool group) (Pooled from caller groups) = same_pool pool from && list_any (λ of_caller. bytes_eq group of_caller) groups
holds tables (PoolAll pool) (Pooled from caller groups) = same_pool pool from
holds tables member caller = false
