-- Answers as JSON.
use Rattle.std.specs.Prelude.{ℕ, List, codes}
use Rattle.serde_json.specs.Data.{Data, number, unsigned, string, object, no_members, member}
use Rattle.iam_types.specs.declared.allow.Binding.{Binding}
use Rattle.iam_types.specs.declared.answer.Answer.{Answer}
use Rattle.iam_types.specs.declared.answer.Answer.TheVariants.{Refused, Resource, Operation, Folders, Projects, TagBindings, DenyPolicies, Permissions, Policy, Group, Role, Explanation}
use Rattle.iam_json_data.specs.Etag.{etag_text_of}
use Rattle.iam_json_data.specs.Printed.{printed, list_data}
use Rattle.iam_json_data.specs.Shown.{permission_data, binding_data, node_data}
use Rattle.iam_json.specs.Refusals.{refusal_line, refusal_details, line_data, only}
use Rattle.iam_json.specs.Resources.{resource_data, operation_data}

abbrev pub policy_data : List Binding → ℕ → ℕ → Data
policy_data bindings set version =
    object (member (codes "bindings") (list_data binding_data bindings) (member (codes "etag") (string (etag_text_of set))
    (member (codes "version") (number (unsigned version)) no_members)))

-- what is answered; the kinds that no call gives yet are `{}`
abbrev pub answer_data : Answer → Data
answer_data (Refused refusal) = line_data (refusal_line refusal) (refusal_details refusal)
answer_data (Resource resource) = resource_data resource
answer_data (Operation revision response) = operation_data revision response
answer_data (Folders folders) = only (codes "folders") (list_data node_data folders)
answer_data (Projects projects) = only (codes "projects") (list_data node_data projects)
answer_data (TagBindings bindings) = object no_members
answer_data (DenyPolicies policies) = object no_members
answer_data (Permissions permissions) = only (codes "permissions") (list_data permission_data permissions)
answer_data (Policy bindings set version) = policy_data bindings set version
answer_data (Group email members) = object no_members
answer_data (Role role) = object no_members
answer_data (Explanation organization explanation) = object no_members

abbrev pub answer_text : Answer → List ℕ
answer_text answer = printed (answer_data answer)
