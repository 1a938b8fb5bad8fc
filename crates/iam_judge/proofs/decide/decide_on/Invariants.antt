use Rattle.std.proofs.Common.{◌≡◌, drop}
use Rattle.iam_judge.specs.Granting.{first_grant}
use Rattle.iam_judge.proofs.decide.decide_on.Given as goal

-- none of the nodes so far grants
abbrev pub invariant-loop-node : goal.invariant-loop-node
invariant-loop-node l = first_grant l.tables l.query (drop l.node-index l.nodes) ≡ first_grant l.tables l.query l.nodes
