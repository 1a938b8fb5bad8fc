-- The decision. No boundary policies and deny rules are kept yet, so it is that of the allow policies.
use Rattle.std.specs.Prelude.{ℕ, Bool, ◌&&◌, List, map, flat_map}
use Rattle.std.specs.declared.cmp.Ordering.{Ordering}
use Rattle.std.specs.List.{enumerate_from, find, list_any}
use Rattle.std.specs.Option.{option_map_or}
use Rattle.std.specs.Ordering.{nat_cmp, ordering_then}
use Rattle.std.specs.Cmp.Lexicographic.{slice_cmp}
use Rattle.iam_text.specs.Put.{placed}
use Rattle.iam_names.specs.Role.{role_text}
use Rattle.iam_names.specs.declared.node.NodeId.{NodeId}
use Rattle.iam_types.specs.declared.allow.Binding.{Binding}
use Rattle.iam_types.specs.declared.query.Decision.{Decision}
use Rattle.iam_types.specs.declared.query.Decision.TheVariants.{Allowed, NotGranted}
use Rattle.iam_types.specs.declared.query.Query.{Query}
use Rattle.iam_types.specs.declared.tables.Tables.{Tables}
use Rattle.iam_model.specs.Holds.{holds}
use Rattle.iam_model.specs.Nodes.{way_up}
use Rattle.iam_model.specs.Policies.{bindings_at}
use Rattle.iam_model.specs.Roles.{grants}
use Rattle.iam_law.specs.Shown.{lets_grant, shown}

-- ---- the order of bindings

-- by the role's text in bytes, then by place
abbrev pub turn_order : ℕ × Binding → ℕ × Binding → Ordering
turn_order a b = ordering_then (slice_cmp nat_cmp (role_text a.1.role) (role_text b.1.role)) (nat_cmp a.0 b.0)

-- the bindings of a policy with their places, in their turn
abbrev pub in_turn : List Binding → List (ℕ × Binding)
in_turn bindings = placed turn_order (enumerate_from 0 bindings)

-- a binding of a node's policy, at its place there
pub record AllowPlace : Type 0 where
  pub node : NodeId
  pub place : ℕ
  pub binding : Binding

-- the bindings of a node's policy, in their turn
abbrev pub lines_at : Tables → NodeId → List AllowPlace
lines_at tables node = map (λ turn. record { node = node; place = turn.0; binding = turn.1 }) (in_turn (bindings_at tables node))

-- the bindings of these nodes' policies, node by node
abbrev pub allow_lines : Tables → List NodeId → List AllowPlace
allow_lines tables nodes = flat_map (λ node. lines_at tables node) nodes

-- ---- the decision

-- the binding's role grants the permission, a member holds the caller, and its condition lets it
abbrev pub binding_grants : Tables → Query → Binding → Bool
binding_grants tables query binding =
    grants tables binding.role query.permission
    && list_any (λ member. holds tables member query.caller) binding.members
    && lets_grant (shown query binding.condition)

-- from the node to the organisation, then by the role's text in bytes, then by place, the first binding that grants
abbrev pub decide : Tables → Query → Decision
decide tables query =
    option_map_or (λ line. Allowed line.node line.place)
    (find (λ line. binding_grants tables query line.binding) (allow_lines tables (way_up tables.nodes query.node))) NotGranted
