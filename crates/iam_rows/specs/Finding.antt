-- What is found of a row.
use Rattle.std.specs.Prelude.{◌≡◌, ◌⊎◌, ℕ, List, Option, Some, None, Result, Ok, Err}
use Rattle.serde_json.specs.Data.{Data}
use Rattle.serde_json.specs.Read.{read}
use Rattle.iam_names.specs.declared.node.NodeKind.{NodeKind}
use Rattle.iam_names.specs.declared.node.NodeKind.TheVariants.{Organization, Folder, Project}
use Rattle.iam_names.specs.declared.node.NodeId.{NodeId}
use Rattle.iam_types.specs.declared.allow.AllowPolicy.{AllowPolicy}
use Rattle.iam_types.specs.declared.node.Node.{Node}
use Rattle.iam_types.specs.declared.node.Org.{Org}
use Rattle.iam_types.specs.declared.fact.Fact.{Fact}
use Rattle.iam_outer.specs.declared.keeper.Row.{Row}
use Rattle.iam_rows.specs.declared.stop.RowStop.{RowStop}
use Rattle.iam_rows.specs.declared.stop.RowStop.TheVariants.{BadRow, OutOfMemory}
use Rattle.iam_rows.specs.declared.body.NodeBody.{NodeBody}
use Rattle.iam_rows.specs.declared.body.OrgBody.{OrgBody}
use Rattle.iam_rows.specs.declared.body.PolicyBody.{PolicyBody}
use Rattle.iam_model.specs.Formed.{IsFact}
use Rattle.iam_rows.specs.Rows.{HasRow}

-- a well formed one, and the only one that is meant, where there is one at all
abbrev pub Guesses : {A : Type 0} → (A → Type 0) → (A → Type 0) → Result A RowStop → Type 0
Guesses {A} IsFormed IsMeant (Ok found) = IsFormed found × ((kept : A) → IsMeant kept → found ≡ kept)
Guesses {A} IsFormed IsMeant (Err BadRow) = (kept : A) → IsMeant kept → ⊥
Guesses IsFormed IsMeant (Err OutOfMemory) = Unit {0}

-- the only one that is meant; BadRow exactly where there is none
abbrev pub Finds : {A : Type 0} → (A → Type 0) → Result A RowStop → Type 0
Finds IsMeant = Guesses IsMeant IsMeant

-- a well formed fact that has the row
abbrev pub IsFactOf : Row → Fact → Type 0
IsFactOf row fact = IsFact fact × HasRow fact row

-- what the text of a body is read as
abbrev pub ReadsRow : {A : Type 0} → (Data → Result A (List ℕ) → Type 0) → List ℕ → Result A RowStop → Type 0
ReadsRow reads text (Ok value) = (d : Data) × (read text ≡ Some d) × reads d (Ok value)
ReadsRow reads text (Err BadRow) = (read text ≡ None) ⊎ ((d : Data) × (path : List ℕ) × (read text ≡ Some d) × reads d (Err path))
ReadsRow reads text (Err OutOfMemory) = Unit {0}

-- the number of an organisation
abbrev pub number_in : NodeKind → ℕ → Option ℕ
number_in Organization number = Some number
number_in Folder number = None
number_in Project number = None

-- the organisation of this number and body
abbrev pub org_with : ℕ → OrgBody → Org
org_with n body = record { number = n; domain = body.owner.domain; customer = body.owner.customer; next = body.counts.next; changes = body.counts.changes }

-- the node of this number and body
abbrev pub node_with : NodeId → NodeBody → Node
node_with id body = record { id = id; parent = body.parent; display = body.display; project = body.project; active = body.active }

-- the policy of this node, by its body
abbrev pub policy_with : NodeId → PolicyBody → AllowPolicy
policy_with node body = record { node = node; bindings = body.bindings; set = body.set }
