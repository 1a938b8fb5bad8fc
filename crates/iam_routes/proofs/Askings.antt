-- A message asks one thing.
use Rattle.std.proofs.Common.{◌≡◌, ◌≢◌, ℕ, List, inl, inr, Option, Some, None, Result, Ok, Err, refl, sym, ap, ◌∙◌, subst}
use Rattle.serde_json.specs.Data.{Data}
use Rattle.iam_names.specs.declared.caller.Caller.{Caller}
use Rattle.iam_names.proofs.Told.{caller_told}
use Rattle.iam_wire.specs.declared.message.Field.{Field}
use Rattle.iam_wire.specs.declared.message.Field.TheVariants.{Absent, One, Bad}
use Rattle.iam_wire.specs.declared.message.Message.{Message}
use Rattle.iam_json_data.specs.Body.{body_data, BodyGives}
use Rattle.iam_json_data.specs.declared.stop.BodyStop.{BodyStop}
use Rattle.iam_json_data.specs.declared.stop.BodyStop.TheVariants as stop
use Rattle.iam_json.specs.Calls.{ReadsLine}
use Rattle.iam_json.specs.declared.call.Call.{Call}
use Rattle.iam_json.specs.declared.route.Line.{Line}
use Rattle.iam_json.specs.declared.details.Details.{Details}
use Rattle.iam_json.specs.declared.details.Details.TheVariants.{BadHead, BadJson, BadField, NoRoute, BadMethod, BodyTooLarge, NeedLength, BadCaller, Refused as RefusedInState, KeeperFault, ClockFault, OutOfMemory}
use Rattle.iam_json.proofs.One.{line_one}
use Rattle.iam_json.specs.Refusals.{line_of}
use Rattle.iam_json.specs.declared.reply.ErrorReply.{ErrorReply}
use Rattle.iam_routes.specs.Query.{pairs_of}
use Rattle.iam_routes.specs.Routes.{RouteLine, IsOnTable}
use Rattle.iam_routes.specs.Asked.{NamesCaller, NamesFloor, HasRoute, HasCaller, HasFloor, CallGives, floor_name, IsRefused, IsAsked, AtMostOneAsking}
use Rattle.iam_routes.specs.declared.given.Asked.TheVariants.{Refused, Given}
use Rattle.iam_routes.proofs.Targets.{one_line}

one_caller : (field : Field) (caller other : Caller) → NamesCaller field caller → NamesCaller field other → caller ≡ other
one_caller Absent caller other named also = named ∙ sym also
one_caller (One text) caller other named also = caller_told caller other named.0 also.0 (sym named.1 ∙ also.1)
one_caller Bad caller other named also = absurd named

one_floor : (field : Field) (floor other : Option ℕ) → NamesFloor field floor → NamesFloor field other → floor ≡ other
one_floor Absent floor other named also = named ∙ sym also
one_floor (One text) floor other named also = named.1 ∙ sym named.2 ∙ also.2 ∙ sym also.1
one_floor Bad floor other named also = absurd named

abbrev Pairs : Type 0
Pairs = List (List ℕ × List ℕ)

-- what the parameters and a body give on a line, as far as memory goes
abbrev GivesLine : RouteLine → List (List ℕ) → Pairs → List ℕ → Result Call BodyStop → Type 0
GivesLine line parts pairs body said = BodyGives (ReadsLine line.line parts pairs) body said

-- the line and the parts of one are those of the other
same_line : (message : Message) (said other : Result Call BodyStop) (gives : CallGives message said) (also : CallGives message other) → GivesLine also.0 also.1.0 (pairs_of message.target) message.body said
same_line message said other gives also =
    let same = one_line message.method message.target gives.0 also.0 gives.1.0 also.1.0 gives.1.1 also.1.1 in
    subst (λ (p : List (List ℕ)). GivesLine also.0 p (pairs_of message.target) message.body said) same.1
    (subst (λ (l : RouteLine). GivesLine l gives.1.0 (pairs_of message.target) message.body said) same.0 gives.1.2)

-- the answers of the one data
one_data : (line : Line) (parts : List (List ℕ)) (pairs : Pairs) (body : List ℕ) (d e : Data) (said other : Result Call (List ℕ)) → body_data body ≡ Some d → body_data body ≡ Some e
    → ReadsLine line parts pairs d said → ReadsLine line parts pairs e other → said ≡ other
one_data line parts pairs body d e said other is also h g =
    let both = sym is ∙ also in
    let same : d ≡ e = cc both in
    line_one line parts pairs e said other (subst (λ (x : Data). ReadsLine line parts pairs x said) same h) g

-- the body says one thing, memory apart
said_one : (line : Line) (parts : List (List ℕ)) (pairs : Pairs) (body : List ℕ) (said other : Result Call BodyStop) → said ≢ Err stop.OutOfMemory → other ≢ Err stop.OutOfMemory
    → BodyGives (ReadsLine line parts pairs) body said → BodyGives (ReadsLine line parts pairs) body other → said ≡ other
said_one line parts pairs body (Ok a) (Ok b) free idle h g = let e = one_data line parts pairs body h.0 g.0 (Ok a) (Ok b) h.1 g.1 h.2 g.2 in let same : a ≡ b = cc e in ap Ok same
said_one line parts pairs body (Ok a) (Err stop.BadJson) free idle h g = let both = sym h.1 ∙ g in absurd (cc both)
said_one line parts pairs body (Ok a) (Err (stop.BadField q)) free idle h g = let e = one_data line parts pairs body h.0 g.0 (Ok a) (Err q) h.1 g.1 h.2 g.2 in absurd (cc e)
said_one line parts pairs body (Ok a) (Err stop.OutOfMemory) free idle h g = absurd (idle refl)
said_one line parts pairs body (Err stop.BadJson) (Ok b) free idle h g = let both = sym h ∙ g.1 in absurd (cc both)
said_one line parts pairs body (Err stop.BadJson) (Err stop.BadJson) free idle h g = refl
said_one line parts pairs body (Err stop.BadJson) (Err (stop.BadField q)) free idle h g = let both = sym h ∙ g.1 in absurd (cc both)
said_one line parts pairs body (Err stop.BadJson) (Err stop.OutOfMemory) free idle h g = absurd (idle refl)
said_one line parts pairs body (Err (stop.BadField p)) (Ok b) free idle h g = let e = one_data line parts pairs body h.0 g.0 (Err p) (Ok b) h.1 g.1 h.2 g.2 in absurd (cc e)
said_one line parts pairs body (Err (stop.BadField p)) (Err stop.BadJson) free idle h g = let both = sym h.1 ∙ g in absurd (cc both)
said_one line parts pairs body (Err (stop.BadField p)) (Err (stop.BadField q)) free idle h g = let e = one_data line parts pairs body h.0 g.0 (Err p) (Err q) h.1 g.1 h.2 g.2 in let same : p ≡ q = cc e in cc same
said_one line parts pairs body (Err (stop.BadField p)) (Err stop.OutOfMemory) free idle h g = absurd (idle refl)
said_one line parts pairs body (Err stop.OutOfMemory) other free idle h g = absurd (free refl)

one_call : (message : Message) (said other : Result Call BodyStop) → said ≢ Err stop.OutOfMemory → other ≢ Err stop.OutOfMemory → CallGives message said → CallGives message other → said ≡ other
one_call message said other free idle gives also =
    said_one also.0.line also.1.0 (pairs_of message.target) message.body said other free idle (same_line message said other gives also) also.1.2

-- ---- what is asked, by where it is decided

data Place : Type 0 where
  at_path at_method at_caller at_floor : Place
  at_body : Result Call BodyStop → Place

-- where the body is JSON, the floor is good
abbrev FloorFits : Message → Result Call BodyStop → Type 0
FloorFits message (Ok call) = HasFloor message
FloorFits message (Err stop.BadJson) = Unit {0}
FloorFits message (Err (stop.BadField path)) = HasFloor message
FloorFits message (Err stop.OutOfMemory) = Unit {0}

abbrev IsDecided : Message → Place → Type 0
IsDecided message at_path = ¬ (IsOnTable message.target)
IsDecided message at_method = IsOnTable message.target × ¬ (HasRoute message)
IsDecided message at_caller = HasRoute message × ¬ (HasCaller message)
IsDecided message at_floor = HasCaller message × HasRoute message × (body_data message.body ≢ None) × ¬ (HasFloor message)
IsDecided message (at_body said) = HasCaller message × CallGives message said × (said ≢ Err stop.OutOfMemory) × FloorFits message said

on_table : (message : Message) → HasRoute message → IsOnTable message.target
on_table message has = (has.0, has.1.1.on_table, (has.1.0, has.1.1.path))

has_route : (message : Message) (said : Result Call BodyStop) → CallGives message said → HasRoute message
has_route message said gives = (gives.0, (gives.1.0, gives.1.1))

-- what is said over a good floor isn't said over a bad one
floor_apart : {B : Type 0} (message : Message) (said : Result Call BodyStop) → IsDecided message (at_body said) → IsDecided message at_floor → B
floor_apart message (Ok call) h g = absurd (g.3 h.3)
floor_apart message (Err stop.BadJson) h g = absurd (g.2 h.1.1.2)
floor_apart message (Err (stop.BadField path)) h g = absurd (g.3 h.3)
floor_apart message (Err stop.OutOfMemory) h g = absurd (h.2 refl)

one_place : (message : Message) (place other : Place) → IsDecided message place → IsDecided message other → place ≡ other
one_place message at_path at_path h g = refl
one_place message at_path at_method h g = absurd (h g.0)
one_place message at_path at_caller h g = absurd (h (on_table message g.0))
one_place message at_path at_floor h g = absurd (h (on_table message g.1))
one_place message at_path (at_body said) h g = absurd (h (on_table message (has_route message said g.1)))
one_place message at_method at_path h g = absurd (g h.0)
one_place message at_method at_method h g = refl
one_place message at_method at_caller h g = absurd (h.1 g.0)
one_place message at_method at_floor h g = absurd (h.1 g.1)
one_place message at_method (at_body said) h g = absurd (h.1 (has_route message said g.1))
one_place message at_caller at_path h g = absurd (g (on_table message h.0))
one_place message at_caller at_method h g = absurd (g.1 h.0)
one_place message at_caller at_caller h g = refl
one_place message at_caller at_floor h g = absurd (h.1 g.0)
one_place message at_caller (at_body said) h g = absurd (h.1 g.0)
one_place message at_floor at_path h g = absurd (g (on_table message h.1))
one_place message at_floor at_method h g = absurd (g.1 h.1)
one_place message at_floor at_caller h g = absurd (g.1 h.0)
one_place message at_floor at_floor h g = refl
one_place message at_floor (at_body said) h g = floor_apart message said g h
one_place message (at_body said) at_path h g = absurd (g (on_table message (has_route message said h.1)))
one_place message (at_body said) at_method h g = absurd (g.1 (has_route message said h.1))
one_place message (at_body said) at_caller h g = absurd (g.1 h.0)
one_place message (at_body said) at_floor h g = floor_apart message said h g
one_place message (at_body said) (at_body other) h g = ap at_body (one_call message said other h.2 g.2 h.1 g.1)

-- the refusal that is decided there; none is where a call is given
abbrev details_of : Place → Details
details_of at_path = NoRoute
details_of at_method = BadMethod
details_of at_caller = BadCaller
details_of at_floor = BadField floor_name
details_of (at_body (Ok call)) = KeeperFault
details_of (at_body (Err stop.BadJson)) = BadJson
details_of (at_body (Err (stop.BadField path))) = BadField path
details_of (at_body (Err stop.OutOfMemory)) = KeeperFault

record IsDecidedAt (message : Message) (details : Details) (place : Place) : Type 0 where
  decided : IsDecided message place
  details_are : details ≡ details_of place
  refused : (call : Call) → place ≢ at_body (Ok call)

place_of : (message : Message) (details : Details) → IsRefused message details → (place : Place) × IsDecidedAt message details place
place_of message NoRoute h = (at_path, record { decided = h; details_are = refl; refused = λ call e. cc e })
place_of message BadMethod h = (at_method, record { decided = h; details_are = refl; refused = λ call e. cc e })
place_of message BadCaller h = (at_caller, record { decided = h; details_are = refl; refused = λ call e. cc e })
place_of message BadJson h = (at_body (Err stop.BadJson), record { decided = (h.0, h.1, λ e. cc e, tt); details_are = refl; refused = λ call e. cc e })
place_of message (BadField path) (has, inl lacks) = (at_floor, record { decided = (has, lacks.0, lacks.1, lacks.2); details_are = ap BadField lacks.3; refused = λ call e. cc e })
place_of message (BadField path) (has, inr said) = (at_body (Err (stop.BadField path)), record { decided = (has, said.1, λ e. cc e, said.0); details_are = refl; refused = λ call e. cc e })
place_of message BadHead h = absurd h
place_of message (BodyTooLarge declared limit) h = absurd h
place_of message NeedLength h = absurd h
place_of message (RefusedInState refusal) h = absurd h
place_of message KeeperFault h = absurd h
place_of message ClockFault h = absurd h
place_of message (OutOfMemory stored) h = absurd h

-- a given call is decided at the body
given_place : (message : Message) (caller : Caller) (floor : Option ℕ) (call : Call) → IsAsked message (Given caller floor call) → IsDecided message (at_body (Ok call))
given_place message caller floor call h = ((caller, h.0), h.2, λ e. cc e, (floor, h.1))

-- a message isn't both refused and answered
refused_given : {B : Type 0} (message : Message) (details : Details) (caller : Caller) (floor : Option ℕ) (call : Call) → IsRefused message details → IsAsked message (Given caller floor call) → B
refused_given message details caller floor call h g =
    let place = place_of message details h in
    absurd (place.1.refused call (one_place message place.0 (at_body (Ok call)) place.1.decided (given_place message caller floor call g)))

same_reply : (a b : ErrorReply) → a.details ≡ b.details → a.number ≡ (line_of a.details).number → b.number ≡ (line_of b.details).number → a ≡ b
same_reply a b details number again =
    ap (λ d. record { number = a.number; details = d }) details
    ∙ ap (λ n. record { number = n; details = b.details }) (number ∙ ap (λ d. (line_of d).number) details ∙ sym again)

pub one_asking : AtMostOneAsking
one_asking message (Refused reply) (Refused other) h g =
    let here = place_of message reply.details h.0 in
    let there = place_of message other.details g.0 in
    let same = one_place message here.0 there.0 here.1.decided there.1.decided in
    ap Refused (same_reply reply other (here.1.details_are ∙ ap details_of same ∙ sym there.1.details_are) h.1 g.1)
one_asking message (Refused reply) (Given caller floor call) h g = refused_given message reply.details caller floor call h.0 g
one_asking message (Given caller floor call) (Refused reply) h g = refused_given message reply.details caller floor call g.0 h
one_asking message (Given caller floor call) (Given other low second) h g =
    let place = one_place message (at_body (Ok call)) (at_body (Ok second)) (given_place message caller floor call h) (given_place message other low second g) in
    let calls : call ≡ second = cc place in
    let callers = one_caller message.caller caller other h.0 g.0 in
    let floors = one_floor message.floor floor low h.1 g.1 in
    ap (λ c. Given c floor call) callers ∙ ap (λ f. Given other f call) floors ∙ ap (λ c. Given other low c) calls
