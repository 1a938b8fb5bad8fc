-- Rules that refuse, the order in which they are tried, and the first of them that does.
use Rattle.std.specs.Prelude.{Bool, cond, List, [], ◌∷◌, Some, None, map}
use Rattle.std.specs.declared.option.Option.{Option}
use Rattle.iam_types.specs.declared.refusal.Refusal.{Refusal}

-- the first of these that there is
abbrev pub first_of : {X : Type 0} → List (Option X) → Option X
first_of [] = None
first_of (None ∷ more) = first_of more
first_of (Some first ∷ more) = Some first

-- this refusal, where the test says so
abbrev pub refused_if : Bool → Refusal → Option Refusal
refused_if test refusal = cond test (Some refusal) None

-- What the tables alone refuse: a name that isn't there; a thing that isn't active; a thing to be made that is there already; an etag
-- or a version; roles, permissions, and the limits before that of operators; the limits behind it, and the rules of hierarchy, groups,
-- tags and use.
pub record Rules : Type 0 where
  pub names : List (Option Refusal)
  pub active : List (Option Refusal)
  pub fresh : List (Option Refusal)
  pub early : List (Option Refusal)
  pub middle : List (Option Refusal)
  pub late : List (Option Refusal)

-- What the decision and the conditions refuse: a permission that the caller hasn't; a text that is no condition; one with too many operators.
pub record Asked : Type 0 where
  pub permission : List (Option Refusal)
  pub conditions : List (Option Refusal)
  pub operators : List (Option Refusal)

abbrev pub no_rules : Rules
no_rules = record { names = []; active = []; fresh = []; early = []; middle = []; late = [] }

abbrev pub nothing_asked : Asked
nothing_asked = record { permission = []; conditions = []; operators = [] }

-- the order of refusals, group by group
abbrev pub groups : Rules → Asked → List (List (Option Refusal))
groups rules asked =
    rules.names
    ∷ rules.active
    ∷ rules.fresh
    ∷ asked.permission
    ∷ rules.early
    ∷ asked.conditions
    ∷ rules.middle
    ∷ asked.operators
    ∷ rules.late
    ∷ []

abbrev pub first_refusal : Rules → Asked → Option Refusal
first_refusal rules asked = first_of (map first_of (groups rules asked))
