-- The kind of a tree, or its first fault, as a total function, and what the checker answers.
use Rattle.std.specs.Prelude.{ℕ, suc, zero, if◌then◌else◌, List, [], ◌∷◌, map, Result, Ok, Err}
use Rattle.cel_tree.specs.Tree.{size, span_of}
use Rattle.cel_tree.specs.declared.tree.Expr.{Expr, out-Expr}
use Rattle.cel_types.specs.Condition.{Condition}
use Rattle.cel_types.specs.HasKind.{children}
use Rattle.cel_types.specs.Kinds.{is_kind, truth}
use Rattle.cel_types.specs.Nodes.{node_kind}
use Rattle.cel_types.specs.declared.checking.TypeFault.{TypeFault}
use Rattle.cel_types.specs.declared.checking.TypeKind.{TypeKind}
use Rattle.cel_types.specs.declared.checking.TypeKind.TheVariants.{NotBool}
use Rattle.cel_types.specs.declared.kind.Kind.{Kind}
use Rattle.cel_types.specs.declared.kind.Place.{Place}
use Rattle.cel_types.specs.Sight.{Sight, sight_of}

-- a fault at the first byte of a node
abbrev pub fault_at : Expr → TypeKind → TypeFault
fault_at e what = record { offset = (span_of e).from; kind = what }

abbrev pub at_node : Expr → Result Kind TypeKind → Result Kind TypeFault
at_node e (Ok k) = Ok k
at_node e (Err what) = Err (fault_at e what)

-- the kind of a node whose parts have these kinds, or the first fault
abbrev pub from_parts : Sight → Expr → Result (List Kind) TypeFault → Result Kind TypeFault
from_parts sight e (Err fault) = Err fault
from_parts sight e (Ok ks) = at_node e (node_kind sight (out-Expr e) ks)

abbrev pub with_first : Kind → Result (List Kind) TypeFault → Result (List Kind) TypeFault
with_first k (Ok ks) = Ok (k ∷ ks)
with_first k (Err fault) = Err fault

-- all kinds, or the first fault
abbrev pub all_kinds : List (Result Kind TypeFault) → Result (List Kind) TypeFault
all_kinds [] = Ok []
all_kinds (Err fault ∷ others) = Err fault
all_kinds (Ok k ∷ others) = with_first k (all_kinds others)

-- within so many steps down, which are enough for a tree of no more nodes
abbrev pub kind_within : ℕ → Sight → Expr → Result Kind TypeFault
kind_within zero sight e = from_parts sight e (Ok [])
kind_within (suc n) sight e = from_parts sight e (all_kinds (map (kind_within n sight) (children e)))

abbrev pub kind_of : Sight → Expr → Result Kind TypeFault
kind_of sight e = kind_within (size e) sight e

abbrev pub condition_or_fault : Place → Expr → Result Kind TypeFault → Result Condition TypeFault
condition_or_fault place e (Err fault) = Err fault
condition_or_fault place e (Ok k) =
    if is_kind k truth then Ok (record { expr = e; place = place }) else Err (fault_at e NotBool)

-- a condition, or why the tree is none
abbrev pub checked : Place → Expr → Result Condition TypeFault
checked place e = condition_or_fault place e (kind_of (sight_of place) e)
