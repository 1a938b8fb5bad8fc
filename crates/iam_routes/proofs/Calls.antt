-- The call that a body gives on the line of a message.
use Rattle.std.proofs.Common.{◌≢◌, ℕ, List, Result, Ok, Err, refl, sym, subst}
use Rattle.serde_json.specs.Data.{Data}
use Rattle.iam_wire.specs.declared.message.Message.{Message}
use Rattle.iam_json_data.specs.Body.{BodyGives}
use Rattle.iam_json_data.specs.declared.stop.BodyStop.{BodyStop}
use Rattle.iam_json_data.specs.declared.stop.BodyStop.TheVariants.{BadJson, BadField, OutOfMemory}
use Rattle.iam_json.specs.Calls.{HasParts, IsRoute, ReadsLine, ReadsCall}
use Rattle.iam_json.specs.declared.call.Call.{Call}
use Rattle.iam_json.specs.declared.route.Line.{Line}
use Rattle.iam_json.specs.declared.route.Route.{Route}
use Rattle.iam_routes.specs.Asked.{CallGives}
use Rattle.iam_routes.specs.Query.{pairs_of}
use Rattle.iam_routes.specs.Routed.{IsRouted}
use Rattle.iam_routes.specs.declared.route.Routed.TheVariants.{To}
use Rattle.iam_routes.proofs.Listed.{has_parts}

-- the route of a message has the parts of its line
pub route_is : (method target : List ℕ) (route : Route) → IsRouted method target (To route) → IsRoute route
route_is method target route routed =
    subst (λ (line : Line). HasParts line route.parts) routed.2 (has_parts routed.0 routed.1.on_table routed.1.path.0 route.parts routed.1.path.2)

call_on_line : (method target : List ℕ) (route : Route) (routed : IsRouted method target (To route)) (d : Data) (said : Result Call (List ℕ)) → ReadsCall route d said → ReadsLine routed.0.line route.parts (pairs_of target) d said
call_on_line method target route routed d said reads =
    subst (λ pairs. ReadsLine routed.0.line route.parts pairs d said) routed.3 (subst (λ (line : Line). ReadsLine line route.parts route.pairs d said) (sym routed.2) reads)

-- what the body gives on the route, it gives on the line
pub given_on_line : (message : Message) (route : Route) (said : Result Call BodyStop) → IsRouted message.method message.target (To route) → said ≢ Err OutOfMemory
    → BodyGives (ReadsCall route) message.body said → CallGives message said
given_on_line message route (Ok call) routed free gives =
    (routed.0, (route.parts, routed.1, (gives.0, gives.1, call_on_line message.method message.target route routed gives.0 (Ok call) gives.2)))
given_on_line message route (Err BadJson) routed free gives = (routed.0, (route.parts, routed.1, gives))
given_on_line message route (Err (BadField path)) routed free gives =
    (routed.0, (route.parts, routed.1, (gives.0, gives.1, call_on_line message.method message.target route routed gives.0 (Err path) gives.2)))
given_on_line message route (Err OutOfMemory) routed free gives = absurd (free refl)
