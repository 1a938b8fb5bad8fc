use Rattle.std.proofs.Common.{◌≡◌, drop}
use Rattle.std.specs.List.{list_all}
use Rattle.cel_types.specs.Kinds.{is_kind}
use Rattle.cel_types.proofs.rows.list_kind.Given as goal

abbrev pub invariant-loop-kind : goal.invariant-loop-kind
invariant-loop-kind l = list_all (λ k. is_kind l.first k) (drop l.kind-index l.rest) ≡ list_all (λ k. is_kind l.first k) l.rest
