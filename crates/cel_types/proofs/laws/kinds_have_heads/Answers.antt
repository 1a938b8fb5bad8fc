use Rattle.cel_types.proofs.Heads.{has_head}
use Rattle.cel_types.proofs.laws.kinds_have_heads.Goals as goal

pub returns : goal.returns
returns c = λ place e k h. has_head h
