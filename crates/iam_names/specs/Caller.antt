-- Callers.
use Rattle.std.specs.Prelude.{ℕ, ◌≤◌, List, [], ◌∷◌, ◌++◌, length, codes}
use Rattle.iam_names.specs.Email.{IsEmail}
use Rattle.iam_names.specs.Pool.{pool_subject_text}
use Rattle.iam_names.specs.declared.caller.Caller.{Caller}
use Rattle.iam_names.specs.declared.caller.Caller.TheVariants.{Anonymous, User, Service, Pooled}

-- the groups, the first behind this separator and the others behind `,`
abbrev pub groups_behind : List ℕ → List (List ℕ) → List ℕ
groups_behind separator [] = []
groups_behind separator (group ∷ more) = separator ++ group ++ groups_behind (codes ",") more

abbrev pub caller_text : Caller → List ℕ
caller_text Anonymous = codes "anonymous"
caller_text (User email) = codes "user:" ++ email
caller_text (Service email) = codes "serviceAccount:" ++ email
caller_text (Pooled pool subject groups) = pool_subject_text pool subject ++ groups_behind (codes "#") groups

-- the forms that are read: the anonymous caller and users
abbrev pub HasCallerForm : Caller → Type 0
HasCallerForm Anonymous = Unit {0}
HasCallerForm (User email) = IsEmail email
HasCallerForm (Service email) = ⊥
HasCallerForm (Pooled pool subject groups) = ⊥

abbrev pub IsCaller : Caller → Type 0
IsCaller caller = HasCallerForm caller × (length (caller_text caller) ≤ 256)
