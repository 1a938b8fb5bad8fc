use Rattle.std.proofs.Common.{take}
use Rattle.cel_types.proofs.Walk.{OthersSoFar}
use Rattle.cel_types.specs.Sight.{sight_of}
use Rattle.cel_types.proofs.checking.+kinds.Given as goal

abbrev pub invariant-kinds_among-loop-expr : goal.invariant-kinds_among-loop-expr
invariant-kinds_among-loop-expr l = OthersSoFar (sight_of l.place) l.first (take l.expr-index l.rest) l.other
