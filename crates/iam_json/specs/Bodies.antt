-- The bodies of requests.
use Rattle.std.specs.Prelude.{◌≡◌, ◌≢◌, ℕ, ◌<◌, ◌^◌, List, [], Option, Some, None, unwrap_or, option_map, Result, Ok, Err, codes}
use Rattle.serde_json.specs.Data.{Data, no_items}
use Rattle.serde_json.specs.Find.{as_str, as_array}
use Rattle.iam_names.specs.Permission.{IsPermission, permission_text}
use Rattle.iam_types.specs.declared.allow.Binding.{Binding}
use Rattle.iam_json_data.specs.Etag.{etag_text_of}
use Rattle.iam_json_data.specs.Reading.{Then, ReadsText, ReadsNumber, ReadsList, ReadsMember, ReadsRequired, present}
use Rattle.iam_json_data.specs.Readers.{ReadsObject, ReadsBinding}
use Rattle.iam_json.specs.declared.policy.Etag.{Etag}
use Rattle.iam_json.specs.declared.policy.NoItems.{NoItems}
use Rattle.iam_json.specs.declared.policy.GivenOptions.{GivenOptions}
use Rattle.iam_json.specs.declared.policy.GivenPolicy.{GivenPolicy}

-- something is read, and this is made of it
abbrev pub Made : {A B : Type 0} → (A → B) → (Result A (List ℕ) → Type 0) → Result B (List ℕ) → Type 0
Made {A} make reads (Ok made) = (value : A) × reads (Ok value) × (made ≡ make value)
Made make reads (Err path) = reads (Err path)

-- the text of a number of 64 bits
abbrev pub ReadsEtag : Data → Result Etag (List ℕ) → Type 0
ReadsEtag d (Ok etag) = (etag.number < 2 ^ 64) × (as_str d ≡ Some (etag_text_of etag.number))
ReadsEtag d (Err path) = (path ≡ []) × ((number : ℕ) → number < 2 ^ 64 → as_str d ≢ Some (etag_text_of number))

-- an empty list
abbrev pub ReadsNoItems : Data → Result NoItems (List ℕ) → Type 0
ReadsNoItems d (Ok nothing) = as_array d ≡ Some no_items
ReadsNoItems d (Err path) = (path ≡ []) × (as_array d ≢ Some no_items)

-- a number that is 0 where it is absent
abbrev pub ReadsVersion : List ℕ → Data → Result ℕ (List ℕ) → Type 0
ReadsVersion name d = Made (λ given. unwrap_or given 0) (ReadsMember ReadsNumber name (present name d))

-- the permissions of a test
abbrev pub ReadsTest : Data → Result (List (List ℕ)) (List ℕ) → Type 0
ReadsTest = ReadsObject (λ d. ReadsRequired (ReadsList (ReadsText IsPermission permission_text)) (codes "permissions") (present (codes "permissions") d))

-- how a policy is to be read
abbrev pub ReadsOptions : Data → Result GivenOptions (List ℕ) → Type 0
ReadsOptions = ReadsObject (λ d. Made (λ version. record { version = version }) (ReadsVersion (codes "requestedPolicyVersion") d))

abbrev pub version_of : Option GivenOptions → ℕ
version_of None = 0
version_of (Some options) = options.version

-- the version of a policy's reading
abbrev pub ReadsReading : Data → Result ℕ (List ℕ) → Type 0
ReadsReading = ReadsObject (λ d. Made version_of (ReadsMember ReadsOptions (codes "options") (present (codes "options") d)))

-- the bindings, and no audit configuration
abbrev pub ReadsBindings : Data → Result (List Binding) (List ℕ) → Type 0
ReadsBindings d =
    Then (ReadsMember (ReadsList ReadsBinding) (codes "bindings") (present (codes "bindings") d)) (λ bindings.
    Made (λ _. unwrap_or bindings []) (ReadsMember ReadsNoItems (codes "auditConfigs") (present (codes "auditConfigs") d)))

-- the version, the etag, and the rest
abbrev pub ReadsPolicy : Data → Result GivenPolicy (List ℕ) → Type 0
ReadsPolicy = ReadsObject (λ d.
    Then (ReadsVersion (codes "version") d) (λ version.
    Then (ReadsMember ReadsEtag (codes "etag") (present (codes "etag") d)) (λ etag.
    Made (λ bindings. record { version = version; etag = option_map (λ e. e.number) etag; bindings = bindings }) (ReadsBindings d))))

-- the policy that is to be set
abbrev pub ReadsSetting : Data → Result GivenPolicy (List ℕ) → Type 0
ReadsSetting = ReadsObject (λ d. ReadsRequired ReadsPolicy (codes "policy") (present (codes "policy") d))
