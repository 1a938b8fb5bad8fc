-- The numbers of the limits.
use Rattle.std.specs.Prelude.{ℕ, nat_lt}
use Rattle.std.specs.declared.option.Option.{Option}
use Rattle.iam_types.specs.declared.refusal.LimitName.{LimitName}
use Rattle.iam_types.specs.declared.refusal.LimitName.TheVariants.{PolicyMembers, PolicyGroups, SameRoleConditions, Operators, DenyRules, BoundaryRules, BoundaryResources, SetBindings, TagBindings, ChildFolders, PermissionsAsked, RolePermissions, Nodes, Tags, Groups, Edges, Roles, Members, DenyEntries, Boundaries, Bounds, ConditionBytes, Changes}
use Rattle.iam_types.specs.declared.refusal.Refusal.{Refusal}
use Rattle.iam_types.specs.declared.refusal.Refusal.TheVariants.{Limit}
use Rattle.iam_model.specs.Refusals.{refused_if}

-- in the order in which they are tried
abbrev pub limit_of : LimitName → ℕ
limit_of PolicyMembers = 1500
limit_of PolicyGroups = 250
limit_of SameRoleConditions = 20
limit_of Operators = 12
limit_of DenyRules = 500
limit_of BoundaryRules = 500
limit_of BoundaryResources = 500
limit_of SetBindings = 10
limit_of TagBindings = 50
limit_of ChildFolders = 300
limit_of PermissionsAsked = 100
limit_of RolePermissions = 100
limit_of Nodes = 10000
limit_of Tags = 1000
limit_of Groups = 1000
limit_of Edges = 20000
limit_of Roles = 2000
limit_of Members = 100000
limit_of DenyEntries = 50000
limit_of Boundaries = 1000
limit_of Bounds = 2000
limit_of ConditionBytes = 16777216
limit_of Changes = 1000000000000000

-- more are counted than the limit lets stand
abbrev pub beyond : ℕ → LimitName → Option Refusal
beyond counted which = refused_if (nat_lt (limit_of which) counted) (Limit counted (limit_of which) which)
