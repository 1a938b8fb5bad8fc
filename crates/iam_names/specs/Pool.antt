-- Pools of identities.
use Rattle.std.specs.Prelude.{ℕ, List, ◌++◌, codes}
use Rattle.std.specs.Fmt.{decimal}
use Rattle.iam_names.specs.declared.pool.Pool.{Pool}
use Rattle.iam_names.specs.declared.pool.Pool.TheVariants.{Workforce, Workload}

abbrev pub pool_text : Pool → List ℕ
pool_text (Workforce pool) = codes "iam.googleapis.com/locations/global/workforcePools/" ++ pool
pool_text (Workload project pool) = codes "iam.googleapis.com/projects/" ++ decimal project ++ codes "/locations/global/workloadIdentityPools/" ++ pool

-- one identity of a pool
abbrev pub pool_subject_text : Pool → List ℕ → List ℕ
pool_subject_text pool subject = codes "principal://" ++ pool_text pool ++ codes "/subject/" ++ subject

-- the identities of a group of a pool
abbrev pub pool_group_text : Pool → List ℕ → List ℕ
pool_group_text pool group = codes "principalSet://" ++ pool_text pool ++ codes "/group/" ++ group

-- all identities of a pool
abbrev pub pool_all_text : Pool → List ℕ
pool_all_text pool = codes "principalSet://" ++ pool_text pool ++ codes "/*"
