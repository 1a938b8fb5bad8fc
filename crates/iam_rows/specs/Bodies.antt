-- What the bodies of rows are read as.
use Rattle.std.specs.Prelude.{◌≡◌, ⊤, ℕ, List, [], Some, None, Result, Ok, Err, codes, option_map}
use Rattle.serde_json.specs.Data.{Data}
use Rattle.serde_json.specs.Find.{as_bool}
use Rattle.iam_names.specs.Node.{IsNodeId, node_id_text}
use Rattle.iam_json_data.specs.Reading.{Then, ReadsText, ReadsNumber, ReadsList, ReadsMember, ReadsRequired, present}
use Rattle.iam_json_data.specs.Readers.{ReadsObject, ReadsBinding}
use Rattle.iam_rows.specs.declared.body.AnyText.{AnyText}
use Rattle.iam_rows.specs.declared.body.Counts.{Counts}
use Rattle.iam_rows.specs.declared.body.Flag.{Flag}
use Rattle.iam_rows.specs.declared.body.NamedNode.{NamedNode}
use Rattle.iam_rows.specs.declared.body.NodeBody.{NodeBody}
use Rattle.iam_rows.specs.declared.body.Owner.{Owner}
use Rattle.iam_rows.specs.declared.body.OrgBody.{OrgBody}
use Rattle.iam_rows.specs.declared.body.PolicyBody.{PolicyBody}

-- any text
abbrev pub ReadsAnyText : Data → Result AnyText (List ℕ) → Type 0
ReadsAnyText = ReadsText (λ _. ⊤) (λ any. any.text)

-- true or false
abbrev pub ReadsFlag : Data → Result Flag (List ℕ) → Type 0
ReadsFlag d (Ok flag) = as_bool d ≡ Some flag.is_set
ReadsFlag d (Err path) = (path ≡ []) × (as_bool d ≡ None)

-- the name of a node, with its number
abbrev pub ReadsNamedNode : Data → Result NamedNode (List ℕ) → Type 0
ReadsNamedNode = ReadsText (λ named. IsNodeId named.node) (λ named. node_id_text named.node)

abbrev pub ReadsCounts : Data → Result Counts (List ℕ) → Type 0
ReadsCounts d =
    Then (ReadsRequired ReadsNumber (codes "changes") (present (codes "changes") d)) (λ changes.
    Then (ReadsRequired ReadsNumber (codes "next") (present (codes "next") d)) (λ next said.
    said ≡ Ok (record { changes = changes; next = next })))

abbrev pub ReadsOwner : Data → Result Owner (List ℕ) → Type 0
ReadsOwner d =
    Then (ReadsRequired ReadsAnyText (codes "customer") (present (codes "customer") d)) (λ customer.
    Then (ReadsRequired ReadsAnyText (codes "domain") (present (codes "domain") d)) (λ domain said.
    said ≡ Ok (record { customer = customer.text; domain = domain.text })))

abbrev pub ReadsOrgBody : Data → Result OrgBody (List ℕ) → Type 0
ReadsOrgBody = ReadsObject (λ d.
    Then (ReadsCounts d) (λ counts. Then (ReadsOwner d) (λ owner said. said ≡ Ok (record { counts = counts; owner = owner }))))

abbrev pub ReadsPolicyBody : Data → Result PolicyBody (List ℕ) → Type 0
ReadsPolicyBody = ReadsObject (λ d.
    Then (ReadsRequired (ReadsList ReadsBinding) (codes "bindings") (present (codes "bindings") d)) (λ bindings.
    Then (ReadsRequired ReadsNumber (codes "set") (present (codes "set") d)) (λ set said.
    said ≡ Ok (record { bindings = bindings; set = set }))))

-- the members of a node
abbrev pub ReadsNode : Data → Result NodeBody (List ℕ) → Type 0
ReadsNode d =
    Then (ReadsRequired ReadsFlag (codes "active") (present (codes "active") d)) (λ active.
    Then (ReadsRequired ReadsAnyText (codes "display") (present (codes "display") d)) (λ display.
    Then (ReadsRequired ReadsNamedNode (codes "parent") (present (codes "parent") d)) (λ parent.
    Then (ReadsMember ReadsAnyText (codes "project") (present (codes "project") d)) (λ project said.
    said ≡ Ok (record { active = active.is_set; display = display.text; parent = parent.node; project = option_map (λ any. any.text) project })))))

abbrev pub ReadsNodeBody : Data → Result NodeBody (List ℕ) → Type 0
ReadsNodeBody = ReadsObject ReadsNode
