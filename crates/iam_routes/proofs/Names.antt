-- The node that a segment names in a collection.
use Rattle.std.proofs.Common.{rules, ◌≡◌, ◌≢◌, ℕ, zero, suc, ◌+◌, ◌<◌, true, List, [], ◌∷◌, ◌++◌, length, length-append, get_or, None, IsUtf8, codes, refl, sym, ap, ◌∙◌, subst, arith}
use Rattle.std.specs.List.{list_all}
use Rattle.std.specs.Str.{IsAscii}
use Rattle.std.proofs.lemmas.Bool.{and_parts}
use Rattle.std.proofs.lemmas.Bool.Decides.{nat_tests}
use Rattle.std.proofs.lemmas.List.{append-nil}
use Rattle.std.proofs.lemmas.Fmt.{IsAscii-decimal, decimal_nonempty}
use Rattle.std.proofs.lemmas.Str.{IsUtf8-from_ascii, IsUtf8-append}
use Rattle.std.specs.Fmt.{decimal}
use Rattle.percent_encoding.specs.Percent.{percent_decode}
use Rattle.iam_names.specs.Bytes.{is_label_byte}
use Rattle.iam_names.specs.Node.{collection_of, IsNodeName, node_text}
use Rattle.iam_names.specs.Reading.{IsRead}
use Rattle.iam_names.specs.declared.node.NodeKind.{NodeKind}
use Rattle.iam_names.specs.declared.node.NodeKind.TheVariants as kinds
use Rattle.iam_names.specs.declared.node.NodeName.{NodeName}
use Rattle.iam_names.specs.declared.node.NodeName.TheVariants.{Organization, Folder, ProjectNumber, ProjectId}
use Rattle.iam_routes.specs.Places.{decoded_name}
use Rattle.iam_routes.specs.Routes.{Names}

label_byte_is_ascii : (byte : ℕ) → is_label_byte byte ≡ true → byte < 128
label_byte_is_ascii byte may = grind (arith, nat_tests)

label_is_ascii : (text : List ℕ) → list_all is_label_byte text ≡ true → IsAscii text
label_is_ascii [] all i = omega arith
label_is_ascii (byte ∷ text) all zero = label_byte_is_ascii byte (and_parts (is_label_byte byte) (list_all is_label_byte text) all).0
label_is_ascii (byte ∷ text) all (suc i) = label_is_ascii text (and_parts (is_label_byte byte) (list_all is_label_byte text) all).1 i

node_is_text : (node : NodeName) → IsNodeName node → IsUtf8 (node_text node)
node_is_text (Organization n) formed = IsUtf8-append (codes "organizations/") (decimal n) (search rules) (IsUtf8-from_ascii (decimal n) (IsAscii-decimal n (omega arith)))
node_is_text (Folder n) formed = IsUtf8-append (codes "folders/") (decimal n) (search rules) (IsUtf8-from_ascii (decimal n) (IsAscii-decimal n (omega arith)))
node_is_text (ProjectNumber n) formed = IsUtf8-append (codes "projects/") (decimal n) (search rules) (IsUtf8-from_ascii (decimal n) (IsAscii-decimal n (omega arith)))
node_is_text (ProjectId id) formed = IsUtf8-append (codes "projects/") id (search rules) (IsUtf8-from_ascii id (label_is_ascii id formed.0.2))

-- bytes that are no text name no node
pub names_no_text : (kind : NodeKind) (segment bytes : List ℕ) → bytes ≡ decoded_name kind segment → ¬ IsUtf8 bytes → (part : List ℕ) → ¬ (Names kind segment part)
names_no_text kind segment bytes decoded bad part named =
    bad (subst IsUtf8 (sym named.2 ∙ named.3 ∙ sym decoded) (node_is_text named.0 named.1))

-- and neither does a text that is no name
pub names_no_node : (kind : NodeKind) (segment text : List ℕ) → text ≡ decoded_name kind segment → IsRead IsNodeName node_text text None → (part : List ℕ) → ¬ (Names kind segment part)
names_no_node kind segment text decoded none part named = none named.0 named.1 (decoded ∙ sym named.3 ∙ named.2)

-- a segment gives one part
pub names_one : (kind : NodeKind) (segment part other : List ℕ) → Names kind segment part → Names kind segment other → part ≡ other
names_one kind segment part other named also = named.3 ∙ sym also.3

-- a parameter isn't empty
nothing_behind : (front back : List ℕ) → 0 < length back → front ++ back ≡ front → ⊥
nothing_behind front back some same =
    let sizes : length front + length back ≡ length front = sym (length-append front back) ∙ ap length same in omega arith

other_letter : (a b : List ℕ) → get_or a 0 0 ≢ get_or b 0 0 → a ≡ b → ⊥
other_letter a b apart same = apart (ap (λ (t : List ℕ). get_or t 0 0) same)

only_collection : (kind : NodeKind) (node : NodeName) → IsNodeName node → node_text node ≡ collection_of kind → ⊥
only_collection kinds.Organization (Organization n) formed = nothing_behind (codes "organizations/") (decimal n) (decimal_nonempty n (omega arith))
only_collection kinds.Organization (Folder n) formed = other_letter (node_text (Folder n)) (codes "organizations/") (λ e. omega arith)
only_collection kinds.Organization (ProjectNumber n) formed = other_letter (node_text (ProjectNumber n)) (codes "organizations/") (λ e. omega arith)
only_collection kinds.Organization (ProjectId id) formed = other_letter (node_text (ProjectId id)) (codes "organizations/") (λ e. omega arith)
only_collection kinds.Folder (Organization n) formed = other_letter (node_text (Organization n)) (codes "folders/") (λ e. omega arith)
only_collection kinds.Folder (Folder n) formed = nothing_behind (codes "folders/") (decimal n) (decimal_nonempty n (omega arith))
only_collection kinds.Folder (ProjectNumber n) formed = other_letter (node_text (ProjectNumber n)) (codes "folders/") (λ e. omega arith)
only_collection kinds.Folder (ProjectId id) formed = other_letter (node_text (ProjectId id)) (codes "folders/") (λ e. omega arith)
only_collection kinds.Project (Organization n) formed = other_letter (node_text (Organization n)) (codes "projects/") (λ e. omega arith)
only_collection kinds.Project (Folder n) formed = other_letter (node_text (Folder n)) (codes "projects/") (λ e. omega arith)
only_collection kinds.Project (ProjectNumber n) formed = nothing_behind (codes "projects/") (decimal n) (decimal_nonempty n (omega arith))
only_collection kinds.Project (ProjectId id) formed = let some = formed.0.0 in nothing_behind (codes "projects/") id (omega arith)

pub names_some : (kind : NodeKind) (segment part : List ℕ) → Names kind segment part → segment ≢ []
unfolding percent_decode
names_some kind segment part named none =
    only_collection kind named.0 named.1
    (sym named.2 ∙ named.3 ∙ ap (λ s. collection_of kind ++ percent_decode s) none ∙ append-nil (collection_of kind))

-- ---- the kinds of nodes in a collection

-- a folder stands in its collection by its number
pub folder_in : (node : NodeName) (behind : List ℕ) → node_text node ≡ collection_of kinds.Folder ++ behind → (number : ℕ) × (node ≡ Folder number)
folder_in (Organization n) behind is = absurd (other_letter (node_text (Organization n)) (collection_of kinds.Folder ++ behind) (λ e. omega arith) is)
folder_in (Folder n) behind is = (n, refl)
folder_in (ProjectNumber n) behind is = absurd (other_letter (node_text (ProjectNumber n)) (collection_of kinds.Folder ++ behind) (λ e. omega arith) is)
folder_in (ProjectId id) behind is = absurd (other_letter (node_text (ProjectId id)) (collection_of kinds.Folder ++ behind) (λ e. omega arith) is)

-- an organisation stands in no other collection
pub no_organization_in : (kind : NodeKind) → kind ≢ kinds.Organization → (node : NodeName) (behind : List ℕ) → node_text node ≡ collection_of kind ++ behind → (number : ℕ) → node ≢ Organization number
no_organization_in kinds.Organization other node behind is number same = other refl
no_organization_in kinds.Folder other node behind is number same =
    other_letter (node_text (Organization number)) (collection_of kinds.Folder ++ behind) (λ e. omega arith) (ap node_text (sym same) ∙ is)
no_organization_in kinds.Project other node behind is number same =
    other_letter (node_text (Organization number)) (collection_of kinds.Project ++ behind) (λ e. omega arith) (ap node_text (sym same) ∙ is)
