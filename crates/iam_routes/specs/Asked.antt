-- What a message alone gives: the first refusal, else the caller, the floor and the call.
use Rattle.std.specs.Prelude.{◌≡◌, ◌≢◌, ℕ, ◌⊎◌, List, codes, Option, Some, None, Result, Ok, Err}
use Rattle.iam_names.specs.Caller.{caller_text, IsCaller}
use Rattle.iam_names.specs.declared.caller.Caller.{Caller}
use Rattle.iam_names.specs.declared.caller.Caller.TheVariants.{Anonymous}
use Rattle.iam_wire.specs.Fields.{number_of}
use Rattle.iam_wire.specs.Front.{max_digits}
use Rattle.iam_wire.specs.declared.message.Field.{Field}
use Rattle.iam_wire.specs.declared.message.Field.TheVariants.{Absent, One, Bad}
use Rattle.iam_wire.specs.declared.message.Message.{Message}
use Rattle.iam_json_data.specs.Body.{body_data, BodyGives}
use Rattle.iam_json_data.specs.declared.stop.BodyStop.{BodyStop}
use Rattle.iam_json_data.specs.declared.stop.BodyStop.TheVariants as stop
use Rattle.iam_json.specs.Calls.{ReadsLine}
use Rattle.iam_json.specs.Refusals.{line_of}
use Rattle.iam_json.specs.declared.call.Call.{Call}
use Rattle.iam_json.specs.declared.details.Details.{Details}
use Rattle.iam_json.specs.declared.details.Details.TheVariants.{BadHead, BadJson, BadField, NoRoute, BadMethod, BodyTooLarge, NeedLength, BadCaller, Refused as RefusedInState, KeeperFault, ClockFault, OutOfMemory}
use Rattle.iam_routes.specs.Query.{pairs_of}
use Rattle.iam_routes.specs.Routes.{RouteLine, IsOnTable, Reaches}
use Rattle.iam_routes.specs.declared.given.Asked.{Asked}
use Rattle.iam_routes.specs.declared.given.Asked.TheVariants.{Refused, Given}

-- the caller that the header names; without a header it is the anonymous one
abbrev pub NamesCaller : Field → Caller → Type 0
NamesCaller Absent caller = caller ≡ Anonymous
NamesCaller (One text) caller = IsCaller caller × (text ≡ caller_text caller)
NamesCaller Bad caller = ⊥

-- the header asks for a revision of 1 to 19 digits; without a header none is asked for
abbrev pub NamesFloor : Field → Option ℕ → Type 0
NamesFloor Absent floor = floor ≡ None
NamesFloor (One text) floor = (number : ℕ) × (floor ≡ Some number) × (number_of max_digits text ≡ Some number)
NamesFloor Bad floor = ⊥

-- a line of the table has the path and the method
abbrev pub HasRoute : Message → Type 0
HasRoute message = (line : RouteLine) × ((parts : List (List ℕ)) × Reaches message.method message.target line parts)

-- the header names a caller
abbrev pub HasCaller : Message → Type 0
HasCaller message = (caller : Caller) × NamesCaller message.caller caller

-- the header of the floor is good
abbrev pub HasFloor : Message → Type 0
HasFloor message = (floor : Option ℕ) × NamesFloor message.floor floor

-- the parameters and the body, read as those of the line of the message, give this
abbrev pub CallGives : Message → Result Call BodyStop → Type 0
CallGives message said =
    (line : RouteLine)
    × ((parts : List (List ℕ)) × Reaches message.method message.target line parts
    × BodyGives (ReadsLine line.line parts (pairs_of message.target)) message.body said)

abbrev pub floor_name : List ℕ
floor_name = codes "x-iam-min-revision"

-- the body is JSON, and the header of the floor, whose name this is, is bad
abbrev pub LacksFloor : Message → List ℕ → Type 0
LacksFloor message name =
    HasRoute message × (body_data message.body ≢ None) × ¬ (HasFloor message) × (name ≡ floor_name)

-- the refusals that a message alone gives, in their order
abbrev pub IsRefused : Message → Details → Type 0
IsRefused message NoRoute = ¬ (IsOnTable message.target)
IsRefused message BadMethod = IsOnTable message.target × ¬ (HasRoute message)
IsRefused message BadCaller = HasRoute message × ¬ (HasCaller message)
IsRefused message BadJson = HasCaller message × CallGives message (Err stop.BadJson)
IsRefused message (BadField path) =
    HasCaller message × (LacksFloor message path ⊎ (HasFloor message × CallGives message (Err (stop.BadField path))))
IsRefused message BadHead = ⊥
IsRefused message (BodyTooLarge declared limit) = ⊥
IsRefused message NeedLength = ⊥
IsRefused message (RefusedInState refusal) = ⊥
IsRefused message KeeperFault = ⊥
IsRefused message ClockFault = ⊥
IsRefused message (OutOfMemory stored) = ⊥

-- the first refusal, with its number, else the caller, the floor and the call
abbrev pub IsAsked : Message → Asked → Type 0
IsAsked message (Refused reply) = IsRefused message reply.details × (reply.number ≡ (line_of reply.details).number)
IsAsked message (Given caller floor call) = NamesCaller message.caller caller × NamesFloor message.floor floor × CallGives message (Ok call)

-- a message asks one thing
abbrev pub AtMostOneAsking : Type 0
AtMostOneAsking = (message : Message) (asking other : Asked) → IsAsked message asking → IsAsked message other → asking ≡ other
