-- What the options of a question of access say.
use Rattle.std.specs.Prelude.{◌≡◌, ◌⊎◌, ℕ, List, ◌++◌, Some, codes}
use Rattle.iam_names.specs.Caller.{IsCaller, caller_text}
use Rattle.iam_names.specs.Email.{IsEmail, domain_of}
use Rattle.iam_names.specs.Node.{IsNodeName, node_text}
use Rattle.iam_names.specs.declared.caller.Caller.{Caller}
use Rattle.iam_names.specs.declared.node.NodeName.{NodeName}
use Rattle.iam_plan.specs.Values.{Values, HasOption}

-- service accounts have emails at such a domain
abbrev pub IsServiceDomain : List ℕ → Type 0
IsServiceDomain domain = (front : List ℕ) × (domain ≡ front ++ codes ".gserviceaccount.com")

-- the caller's text that an email stands for: a service account's by its domain, and else a user's
abbrev pub StandsForText : List ℕ → List ℕ → Type 0
StandsForText email text =
    (IsServiceDomain (domain_of email) × (text ≡ codes "serviceAccount:" ++ email))
    ⊎ ((¬ IsServiceDomain (domain_of email)) × (text ≡ codes "user:" ++ email))

-- an email that stands for the text of this caller
abbrev pub IsEmailOf : List ℕ → Caller → Type 0
IsEmailOf text caller = IsEmail text × StandsForText text (caller_text caller)

-- a principal is the text of a caller, or an email that stands for it
abbrev pub IsPrincipal : List ℕ → Caller → Type 0
IsPrincipal text caller = IsCaller caller × ((text ≡ caller_text caller) ⊎ IsEmailOf text caller)

-- a resource is the full resource name of a node
abbrev pub IsResource : List ℕ → NodeName → Type 0
IsResource text node = IsNodeName node × (text ≡ codes "//cloudresourcemanager.googleapis.com/" ++ node_text node)

-- the options say whose access to what is asked
pub record SaysAccess (values : Values) (principal : Caller) (resource : NodeName) (permission : List ℕ) : Type 0 where
  pub caller : HasOption (codes "principal") values (λ text. IsPrincipal text principal)
  pub node : HasOption (codes "resource") values (λ text. IsResource text resource)
  pub asked : values (codes "permission") ≡ Some permission
