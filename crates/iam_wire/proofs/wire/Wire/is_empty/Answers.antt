use Rattle.std.proofs.Common.{◌≡◌, sym, ◌∙◌, arith, length}
use Rattle.iam_wire.proofs.Held.{is_empty_is}
use Rattle.iam_wire.proofs.wire.Wire.is_empty.Goals as goal

pub returns : goal.returns
returns c =
    let inside = c.self.inside in
    let long : c.len.result ≡ length inside.held.items = omega (arith, c.len.ensures, inside.held.ok.0) in
    let both = is_empty_is inside.held.items inside.taken c.len.result (omega (arith, c.self.invariant, inside.held.ok.0)) long in
    (λ t. sym c.self.view_is ∙ both.0 t, λ e. both.1 (c.self.view_is ∙ e))
