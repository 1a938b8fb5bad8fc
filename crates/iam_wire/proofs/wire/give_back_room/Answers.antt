use Rattle.std.proofs.Common.{◌-◌, ℕ, List, take, vec_len, ap, ◌∙◌, arith}
use Rattle.iam_wire.proofs.Held.{given_back}
use Rattle.iam_wire.proofs.wire.give_back_room.Goals as goal

pub returns-clause-same : goal.returns-clause-same
returns-clause-same c =
    let held = c.args.held.now in
    let left = c.len.result - c.args.taken in
    c.truncate.ensures.items
    ∙ ap (λ (items : List ℕ). take left items) c.copy_within.ensures.items
    ∙ given_back held.items c.args.taken left (vec_len held) (omega (arith, held.ok.0)) (omega (arith, held.ok.0)) (omega (arith, c.len.ensures))
