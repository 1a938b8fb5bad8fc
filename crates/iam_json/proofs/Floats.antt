-- What is answered has no floats.
use Rattle.std.proofs.Common.{◌≡◌, false, refl}
use Rattle.serde_json.specs.Data.{Data}
use Rattle.serde_json.specs.Written.{has_float}
use Rattle.iam_types.specs.declared.refusal.Refusal.{Refusal}
use Rattle.iam_types.specs.declared.refusal.Refusal.TheVariants.{FutureRevision, NotFound, DeniedBoundary, DeniedRule, NotGranted, NotActive, AlreadyExists, EtagMismatch, Version, ConditionForm, ConditionPlace, RoleUnknown, RoleScope, PermissionUnknown, Limit, Hierarchy, GroupCycle, TagRule, InUse}
use Rattle.iam_types.specs.declared.answer.Answer.{Answer}
use Rattle.iam_types.specs.declared.answer.Answer.TheVariants.{Refused, Resource, Operation, Folders, Projects, TagBindings, DenyPolicies, Permissions, Policy, Group, Role, Explanation}
use Rattle.iam_types.specs.declared.answer.Resource.{Resource as Thing}
use Rattle.iam_types.specs.declared.answer.Resource.TheVariants as thing
use Rattle.iam_json_data.specs.Shown.{permission_data, binding_data, node_data}
use Rattle.iam_json_data.proofs.Floats.{list_without_float, binding_without_float, node_without_float}
use Rattle.iam_json.specs.declared.details.Details.{Details}
use Rattle.iam_json.specs.declared.details.Details.TheVariants as details
use Rattle.iam_json.specs.Refusals.{Called, line_of, line_data, refusal_line, refusal_details, details_data, error_data}
use Rattle.iam_json.specs.Answers.{answer_data}
use Rattle.iam_json.specs.Resources.{resource_data}

refusal_without_float : (refusal : Refusal) → has_float (refusal_details refusal) ≡ false
refusal_without_float (FutureRevision asked known) = refl
refusal_without_float (NotFound name) = refl
refusal_without_float (DeniedBoundary binding) = refl
refusal_without_float (DeniedRule policy rule) = refl
refusal_without_float (NotGranted permission) = refl
refusal_without_float (NotActive name) = refl
refusal_without_float (AlreadyExists name) = refl
refusal_without_float (EtagMismatch current) = refl
refusal_without_float (Version given) = refl
refusal_without_float (ConditionForm kind offset) = refl
refusal_without_float (ConditionPlace role) = refl
refusal_without_float (RoleUnknown role) = refl
refusal_without_float (RoleScope role) = refl
refusal_without_float (PermissionUnknown permission) = refl
refusal_without_float (Limit counted limit which) = refl
refusal_without_float (Hierarchy counted limit which) = refl
refusal_without_float GroupCycle = refl
refusal_without_float TagRule = refl
refusal_without_float (InUse name) = refl

details_without_float : (d : Details) → has_float (details_data d) ≡ false
details_without_float details.BadHead = refl
details_without_float details.BadJson = refl
details_without_float (details.BadField path) = refl
details_without_float details.NoRoute = refl
details_without_float details.BadMethod = refl
details_without_float (details.BodyTooLarge declared limit) = refl
details_without_float details.NeedLength = refl
details_without_float details.BadCaller = refl
details_without_float (details.Refused refusal) = refusal_without_float refusal
details_without_float details.KeeperFault = refl
details_without_float details.ClockFault = refl
details_without_float (details.OutOfMemory stored) = refl

line_without_float : (called : Called) (d : Data) → has_float d ≡ false → has_float (line_data called d) ≡ false
line_without_float called d h = rw h refl

pub error_without_float : (d : Details) → has_float (error_data d) ≡ false
error_without_float d = line_without_float (line_of d) (details_data d) (details_without_float d)

resource_without_float : (resource : Thing) → has_float (resource_data resource) ≡ false
resource_without_float (thing.Organization number domain customer) = refl
resource_without_float (thing.Node node) = node_without_float node
resource_without_float (thing.TagKey organization key) = refl
resource_without_float (thing.TagValue organization short value) = refl
resource_without_float (thing.TagBinding binding) = refl
resource_without_float (thing.DenyPolicy policy) = refl
resource_without_float (thing.Boundary organization boundary) = refl
resource_without_float (thing.BoundaryBinding organization binding) = refl
resource_without_float thing.Nothing = refl

pub answer_without_float : (answer : Answer) → has_float (answer_data answer) ≡ false
answer_without_float (Refused refusal) = line_without_float (refusal_line refusal) (refusal_details refusal) (refusal_without_float refusal)
answer_without_float (Resource resource) = resource_without_float resource
answer_without_float (Operation revision response) = rw (resource_without_float response) refl
answer_without_float (Folders folders) = rw (list_without_float node_data folders node_without_float) refl
answer_without_float (Projects projects) = rw (list_without_float node_data projects node_without_float) refl
answer_without_float (TagBindings bindings) = refl
answer_without_float (DenyPolicies policies) = refl
answer_without_float (Permissions permissions) = rw (list_without_float permission_data permissions (λ p. refl)) refl
answer_without_float (Policy bindings set version) = rw (list_without_float binding_data bindings binding_without_float) refl
answer_without_float (Group email members) = refl
answer_without_float (Role role) = refl
answer_without_float (Explanation organization explanation) = refl
