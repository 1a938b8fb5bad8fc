-- What a message asks.
use Rattle.std.specs.Prelude.{◌≡◌, ℕ, ◌<◌, ◌≤◌, List, Option, Some, IfSome}
use Rattle.iam_names.specs.declared.caller.Caller.{Caller}
use Rattle.iam_types.specs.declared.ask.Ask.{Ask}
use Rattle.iam_types.specs.declared.command.Entry.{Entry}
use Rattle.iam_json.specs.declared.call.Call.{Call}
use Rattle.iam_json.specs.declared.call.Call.TheVariants.{Write, Read}
use Rattle.iam_json.specs.declared.reply.ErrorReply.{ErrorReply}
use Rattle.iam_wire.specs.declared.message.Message.{Message}
use Rattle.iam_routes.specs.Asked.{IsAsked}
use Rattle.iam_routes.specs.declared.given.Asked.TheVariants.{Refused, Given}
use Rattle.iam_answer.specs.Replies.{plain_reply}

-- the message alone gives a refusal, and this is its reply
abbrev pub IsRefusedBy : Message → List ℕ → Type 0
IsRefusedBy message reply = (error : ErrorReply) × IsAsked message (Refused error) × (reply ≡ plain_reply error.details)

-- it gives a caller and a call
abbrev pub GivesCall : Message → Type 0
GivesCall message = (caller : Caller) × (floor : Option ℕ) × (call : Call) × IsAsked message (Given caller floor call)

-- a floor, if one is asked for, isn't above this number
abbrev pub IsMet : Option ℕ → ℕ → Type 0
IsMet floor number = IfSome floor (λ least. least ≤ number)

-- the caller asks for this read, and its floor is met by this number
abbrev pub AsksRead : Message → ℕ → Caller → Ask → Type 0
AsksRead message number caller ask = (floor : Option ℕ) × IsMet floor number × IsAsked message (Given caller floor (Read ask))

-- the entry's caller asks for its command, and its floor is met by this number
abbrev pub AsksWrite : Message → ℕ → Entry → Type 0
AsksWrite message number entry = (floor : Option ℕ) × IsMet floor number × IsAsked message (Given entry.caller floor (Write entry.command))

-- it asks for a call, and its floor is above this number
abbrev pub AsksLater : Message → ℕ → ℕ → Type 0
AsksLater message number floor = (caller : Caller) × (call : Call) × IsAsked message (Given caller (Some floor) call) × (number < floor)
