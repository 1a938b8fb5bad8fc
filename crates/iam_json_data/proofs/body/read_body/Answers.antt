use Rattle.std.proofs.Common.{arith, refl}
use Rattle.iam_json_data.proofs.Bodies.{body_data-some, body_data-none}
use Rattle.iam_json_data.proofs.body.read_body.Goals as goal

pub returns-in-Ok : goal.returns-in-Ok
returns-in-Ok c = (_, body_data-some c.args.body.now _ (grind arith) c.in-Ok.ensures.ok.0 c.in-Ok.ensures.ok.1, refl)

pub returns-else-is_memory : goal.returns-else-is_memory
returns-else-is_memory c =
    body_data-none c.args.body.now (grind arith)
    (c.in-Err.ensures.err (λ m. absurd (cc (c.is_memory.ensures.1 m, c.if-is_memory.false))))
