use Rattle.std.proofs.Common.{Ok}
use Rattle.iam_routes.proofs.Calls.{route_is, given_on_line}
use Rattle.iam_routes.proofs.message.call_of.Goals as goal

pub read_call-requires : goal.read_call-requires
read_call-requires c = route_is c.args.message.now.method c.args.message.now.target c.args.route.now c.requires.route

pub given-requires-clause-call : goal.given-requires-clause-call
given-requires-clause-call c =
    let gives = rw (c.in-Ok.is, c.as_slice.ensures) at c.read_call.ensures in
    given_on_line c.args.message.now c.args.route.now (Ok c.in-Ok.call) c.requires.route (λ e. cc e) gives
