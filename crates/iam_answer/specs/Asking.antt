-- What a read asks the decision, and what refuses it.
use Rattle.std.specs.Prelude.{ℕ, Bool, true, false, not, List, [], filter}
use Rattle.std.specs.List.{find}
use Rattle.std.specs.declared.option.Option.{Option}
use Rattle.std.specs.Option.{option_map_or}
use Rattle.iam_text.specs.declared.moment.Moment.{Moment}
use Rattle.iam_names.specs.declared.caller.Caller.{Caller}
use Rattle.iam_names.specs.declared.node.NodeId.{NodeId}
use Rattle.iam_types.specs.declared.answer.Answer.{Answer}
use Rattle.iam_types.specs.declared.answer.Answer.TheVariants.{Refused}
use Rattle.iam_types.specs.declared.query.Decision.{Decision}
use Rattle.iam_types.specs.declared.query.Decision.TheVariants.{Allowed, DeniedBoundary, DeniedRule, NotGranted}
use Rattle.iam_types.specs.declared.query.Query.{Query}
use Rattle.iam_types.specs.declared.refusal.Refusal.{Refusal}
use Rattle.iam_types.specs.declared.tables.Tables.{Tables}
use Rattle.iam_model.specs.Catalogue.{is_permission}
use Rattle.iam_model.specs.Refusals.{first_of}
use Rattle.iam_law.specs.Asked.{forbidden, query_on}
use Rattle.iam_law.specs.Decide.{decide}

-- may the caller use the permission on the node, at this moment?
abbrev pub query_of : NodeId → Caller → Moment → List ℕ → Query
query_of node caller moment permission = query_on caller moment [] permission node

abbrev pub allows : Decision → Bool
allows (Allowed node place) = true
allows (DeniedBoundary binding) = false
allows (DeniedRule policy rule) = false
allows NotGranted = false

abbrev pub is_allowed : Tables → NodeId → Caller → Moment → List ℕ → Bool
is_allowed tables node caller moment permission = allows (decide tables (query_of node caller moment permission))

-- those that the decision allows, in the order asked
abbrev pub allowed_of : Tables → NodeId → Caller → Moment → List (List ℕ) → List (List ℕ)
allowed_of tables node caller moment permissions = filter (is_allowed tables node caller moment) permissions

-- the first of these that isn't in the catalogue
abbrev pub first_unknown : List (List ℕ) → Option (List ℕ)
first_unknown permissions = find (λ permission. not (is_permission permission)) permissions

-- the caller hasn't the permission on the node
abbrev pub may_not : Tables → NodeId → Caller → Moment → List ℕ → Option Refusal
may_not tables node caller moment permission = forbidden tables (query_of node caller moment permission)

-- the first of these refusals, else the answer
abbrev pub unless : List (Option Refusal) → Answer → Answer
unless refusals answer = option_map_or (λ refusal. Refused refusal) (first_of refusals) answer
