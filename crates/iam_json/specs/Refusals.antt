-- Refusals: the number, code, reason and status of each, and its details.
use Rattle.std.specs.Prelude.{ℕ, List, codes}
use Rattle.serde_json.specs.Data.{Data, boolean, number, unsigned, string, object, no_members, member}
use Rattle.iam_names.specs.Permission.{permission_text}
use Rattle.iam_names.specs.Role.{role_text}
use Rattle.iam_types.specs.declared.refusal.Refusal.{Refusal}
use Rattle.iam_types.specs.declared.refusal.Refusal.TheVariants.{FutureRevision, NotFound, DeniedBoundary, DeniedRule, NotGranted, NotActive, AlreadyExists, EtagMismatch, Version, ConditionForm, ConditionPlace, RoleUnknown, RoleScope, PermissionUnknown, Limit, Hierarchy, GroupCycle, TagRule, InUse}
use Rattle.iam_types.specs.declared.refusal.LimitName.{LimitName}
use Rattle.iam_types.specs.declared.refusal.LimitName.TheVariants.{PolicyMembers, PolicyGroups, SameRoleConditions, Operators, DenyRules, BoundaryRules, BoundaryResources, SetBindings, TagBindings, ChildFolders, PermissionsAsked, RolePermissions, Nodes, Tags, Groups, Edges, Roles, Members as AllMembers, DenyEntries, Boundaries, Bounds, ConditionBytes, Changes}
use Rattle.iam_types.specs.declared.refusal.Fault.{Fault}
use Rattle.iam_types.specs.declared.refusal.Fault.TheVariants.{Parent, Cycle, Depth, SiblingName, NotEmpty}
use Rattle.iam_json.specs.declared.details.Details.{Details}
use Rattle.iam_json.specs.declared.details.Details.TheVariants.{BadHead, BadJson, BadField, NoRoute, BadMethod, BodyTooLarge, NeedLength, BadCaller, Refused, KeeperFault, ClockFault, OutOfMemory}
use Rattle.iam_json_data.specs.Etag.{etag_text_of}
use Rattle.iam_json_data.specs.Printed.{printed}

-- ---- the table

-- how a refusal is called
pub record Called : Type 0 where
  pub number : ℕ
  pub code : ℕ
  pub reason : List ℕ
  pub status : List ℕ

abbrev pub line : ℕ → List ℕ → ℕ → List ℕ → Called
line place reason code status = record { number = place; code = code; reason = reason; status = status }

-- what a refusal in a state is called
abbrev pub refusal_line : Refusal → Called
refusal_line (FutureRevision asked known) = line 9 (codes "FUTURE_REVISION") 400 (codes "INVALID_ARGUMENT")
refusal_line (NotFound name) = line 10 (codes "NOT_FOUND") 404 (codes "NOT_FOUND")
refusal_line (DeniedBoundary binding) = line 11 (codes "DENIED_BOUNDARY") 403 (codes "PERMISSION_DENIED")
refusal_line (DeniedRule policy rule) = line 12 (codes "DENIED_RULE") 403 (codes "PERMISSION_DENIED")
refusal_line (NotGranted permission) = line 13 (codes "NOT_GRANTED") 403 (codes "PERMISSION_DENIED")
refusal_line (NotActive name) = line 14 (codes "NOT_ACTIVE") 400 (codes "FAILED_PRECONDITION")
refusal_line (AlreadyExists name) = line 15 (codes "ALREADY_EXISTS") 409 (codes "ALREADY_EXISTS")
refusal_line (EtagMismatch current) = line 16 (codes "ETAG_MISMATCH") 409 (codes "ABORTED")
refusal_line (Version given) = line 17 (codes "VERSION") 400 (codes "INVALID_ARGUMENT")
refusal_line (ConditionForm kind offset) = line 18 (codes "CONDITION_FORM") 400 (codes "INVALID_ARGUMENT")
refusal_line (ConditionPlace role) = line 19 (codes "CONDITION_PLACE") 400 (codes "INVALID_ARGUMENT")
refusal_line (RoleUnknown role) = line 20 (codes "ROLE_UNKNOWN") 400 (codes "INVALID_ARGUMENT")
refusal_line (RoleScope role) = line 21 (codes "ROLE_SCOPE") 400 (codes "INVALID_ARGUMENT")
refusal_line (PermissionUnknown permission) = line 22 (codes "PERMISSION_UNKNOWN") 400 (codes "INVALID_ARGUMENT")
refusal_line (Limit counted limit which) = line 23 (codes "LIMIT") 429 (codes "RESOURCE_EXHAUSTED")
refusal_line (Hierarchy counted limit which) = line 24 (codes "HIERARCHY") 400 (codes "FAILED_PRECONDITION")
refusal_line GroupCycle = line 25 (codes "GROUP_CYCLE") 400 (codes "FAILED_PRECONDITION")
refusal_line TagRule = line 26 (codes "TAG_RULE") 400 (codes "FAILED_PRECONDITION")
refusal_line (InUse name) = line 27 (codes "IN_USE") 400 (codes "FAILED_PRECONDITION")

-- what each refusal is called
abbrev pub line_of : Details → Called
line_of BadHead = line 1 (codes "BAD_HEAD") 400 (codes "INVALID_ARGUMENT")
line_of BadJson = line 2 (codes "BAD_JSON") 400 (codes "INVALID_ARGUMENT")
line_of (BadField path) = line 3 (codes "BAD_FIELD") 400 (codes "INVALID_ARGUMENT")
line_of NoRoute = line 4 (codes "NO_ROUTE") 404 (codes "NOT_FOUND")
line_of BadMethod = line 5 (codes "BAD_METHOD") 405 (codes "INVALID_ARGUMENT")
line_of (BodyTooLarge declared limit) = line 6 (codes "BODY_TOO_LARGE") 413 (codes "INVALID_ARGUMENT")
line_of NeedLength = line 7 (codes "NEED_LENGTH") 411 (codes "INVALID_ARGUMENT")
line_of BadCaller = line 8 (codes "BAD_CALLER") 401 (codes "UNAUTHENTICATED")
line_of (Refused refusal) = refusal_line refusal
line_of KeeperFault = line 28 (codes "KEEPER_FAULT") 503 (codes "UNAVAILABLE")
line_of ClockFault = line 29 (codes "CLOCK_FAULT") 503 (codes "UNAVAILABLE")
line_of (OutOfMemory stored) = line 30 (codes "OUT_OF_MEMORY") 507 (codes "RESOURCE_EXHAUSTED")

-- ---- details

-- what a limit counts
abbrev pub limit_text : LimitName → List ℕ
limit_text PolicyMembers = codes "POLICY_MEMBERS"
limit_text PolicyGroups = codes "POLICY_GROUPS"
limit_text SameRoleConditions = codes "SAME_ROLE_CONDITIONS"
limit_text Operators = codes "OPERATORS"
limit_text DenyRules = codes "DENY_RULES"
limit_text BoundaryRules = codes "BOUNDARY_RULES"
limit_text BoundaryResources = codes "BOUNDARY_RESOURCES"
limit_text SetBindings = codes "SET_BINDINGS"
limit_text TagBindings = codes "TAG_BINDINGS"
limit_text ChildFolders = codes "CHILD_FOLDERS"
limit_text PermissionsAsked = codes "PERMISSIONS_ASKED"
limit_text RolePermissions = codes "ROLE_PERMISSIONS"
limit_text Nodes = codes "NODES"
limit_text Tags = codes "TAGS"
limit_text Groups = codes "GROUPS"
limit_text Edges = codes "EDGES"
limit_text Roles = codes "ROLES"
limit_text AllMembers = codes "MEMBERS"
limit_text DenyEntries = codes "DENY_ENTRIES"
limit_text Boundaries = codes "BOUNDARIES"
limit_text Bounds = codes "BOUNDS"
limit_text ConditionBytes = codes "CONDITION_BYTES"
limit_text Changes = codes "CHANGES"

abbrev pub fault_text : Fault → List ℕ
fault_text Parent = codes "PARENT"
fault_text Cycle = codes "CYCLE"
fault_text Depth = codes "DEPTH"
fault_text SiblingName = codes "SIBLING_NAME"
fault_text NotEmpty = codes "NOT_EMPTY"

-- one member
abbrev pub only : List ℕ → Data → Data
only name value = object (member name value no_members)

-- two members, in the order of their names
abbrev pub both : List ℕ → Data → List ℕ → Data → Data
both first value second other = object (member first value (member second other no_members))

-- a count, its limit, and what is counted
abbrev pub count_data : ℕ → ℕ → List ℕ → Data
count_data counted limit which =
    object (member (codes "counted") (number (unsigned counted)) (member (codes "limit") (number (unsigned limit)) (member (codes "which") (string which) no_members)))

abbrev pub refusal_details : Refusal → Data
refusal_details (FutureRevision asked known) = both (codes "asked") (number (unsigned asked)) (codes "known") (number (unsigned known))
refusal_details (NotFound name) = only (codes "name") (string name)
refusal_details (DeniedBoundary binding) = only (codes "binding") (string binding)
refusal_details (DeniedRule policy rule) = both (codes "policy") (string policy) (codes "rule") (number (unsigned rule))
refusal_details (NotGranted permission) = only (codes "permission") (string (permission_text permission))
refusal_details (NotActive name) = only (codes "name") (string name)
refusal_details (AlreadyExists name) = only (codes "name") (string name)
refusal_details (EtagMismatch current) = only (codes "current") (string (etag_text_of current))
refusal_details (Version given) = only (codes "given") (number (unsigned given))
refusal_details (ConditionForm kind offset) = both (codes "kind") (string kind) (codes "offset") (number (unsigned offset))
refusal_details (ConditionPlace role) = only (codes "role") (string (role_text role))
refusal_details (RoleUnknown role) = only (codes "role") (string (role_text role))
refusal_details (RoleScope role) = only (codes "role") (string (role_text role))
refusal_details (PermissionUnknown permission) = only (codes "permission") (string permission)
refusal_details (Limit counted limit which) = count_data counted limit (limit_text which)
refusal_details (Hierarchy counted limit which) = count_data counted limit (fault_text which)
refusal_details GroupCycle = object no_members
refusal_details TagRule = object no_members
refusal_details (InUse name) = only (codes "name") (string name)

abbrev pub details_data : Details → Data
details_data BadHead = object no_members
details_data BadJson = object no_members
details_data (BadField path) = only (codes "path") (string path)
details_data NoRoute = object no_members
details_data BadMethod = object no_members
details_data (BodyTooLarge declared limit) = both (codes "declared") (number (unsigned declared)) (codes "limit") (number (unsigned limit))
details_data NeedLength = object no_members
details_data BadCaller = object no_members
details_data (Refused refusal) = refusal_details refusal
details_data KeeperFault = object no_members
details_data ClockFault = object no_members
details_data (OutOfMemory stored) = only (codes "stored") (boolean stored)

-- ---- the body

-- `{"error":{"code":C,"details":{..},"message":REASON,"status":STATUS}}`
abbrev pub call_data : ℕ → List ℕ → List ℕ → Data → Data
call_data code reason status details =
    only (codes "error") (object (member (codes "code") (number (unsigned code)) (member (codes "details") details
    (member (codes "message") (string reason) (member (codes "status") (string status) no_members)))))

abbrev pub line_data : Called → Data → Data
line_data called = call_data called.code called.reason called.status

abbrev pub error_data : Details → Data
error_data details = line_data (line_of details) (details_data details)

abbrev pub error_text : Details → List ℕ
error_text details = printed (error_data details)
