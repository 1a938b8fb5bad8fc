use Rattle.std.proofs.Common.{sym, refl, subst}
use Rattle.iam_routes.specs.Asked.{IsAsked}
use Rattle.iam_routes.specs.declared.given.Asked.{Asked}
use Rattle.iam_routes.proofs.message.asked.Goals as goal

pub returns-in-BadMethod : goal.returns-in-BadMethod
returns-in-BadMethod c =
    let routed = rw (c.in-BadMethod.is, c.as_str-method.ensures.value, c.as_str-target.ensures.value) at c.in_ok-route_of.ensures in
    subst (λ (a : Asked). IsAsked c.args.message.now a) (sym c.refused-in-BadMethod.ensures) ((routed.0, λ has. routed.1 has.0 has.1.0 has.1.1), refl)

pub returns-in-NoRoute : goal.returns-in-NoRoute
returns-in-NoRoute c =
    let routed = rw (c.in-NoRoute.is, c.as_str-target.ensures.value) at c.in_ok-route_of.ensures in
    subst (λ (a : Asked). IsAsked c.args.message.now a) (sym c.refused.ensures) (routed, refl)
