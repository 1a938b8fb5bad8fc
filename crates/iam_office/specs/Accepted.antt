-- How many writes are accepted, by the messages and their replies.
use Rattle.std.specs.Prelude.{ℕ, ◌==◌, ◌||◌, Bool, List, [], ◌∷◌, reverse, sum_by, codes, Some, None, if◌then◌else◌}
use Rattle.std.specs.List.{list_any, starts_with}
use Rattle.std.specs.Str.{bytes_eq}
use Rattle.iam_outer.specs.declared.talk.Step.{Step}
use Rattle.iam_outer.specs.declared.talk.Step.TheVariants.{Plain, Served, NoClock, NoKeeper, NoMemory}
use Rattle.iam_wire.specs.declared.message.Message.{Message}
use Rattle.iam_routes.specs.Routes.{colon, path_of}
use Rattle.iam_answer.specs.Replies.{shows_ok}
use Rattle.iam_office.specs.Turns.{Turn}

-- the verbs by which a line asks without a change
abbrev pub reading_verbs : List (List ℕ)
reading_verbs = codes "testIamPermissions" ∷ codes "getIamPolicy" ∷ codes "troubleshoot" ∷ []

-- the path ends with a `:` and the verb
abbrev pub has_verb : List ℕ → List ℕ → Bool
has_verb path verb = starts_with ◌==◌ (reverse path) (reverse (colon ∷ verb))

-- a message that asks for no change: a GET, or one with such a verb
abbrev pub only_reads : Message → Bool
only_reads message = bytes_eq message.method (codes "GET") || list_any (has_verb (path_of message.target)) reading_verbs

-- a write is accepted where its reply has code 200, or says that it is stored
unfoldable pub accepted_at : Message → Step → List ℕ → ℕ
accepted_at message (Served number moment) reply = if only_reads message then 0 else shows_ok reply
accepted_at message (NoMemory (Some number) moment) reply = 1
accepted_at message (NoMemory None moment) reply = 0
accepted_at message Plain reply = 0
accepted_at message NoClock reply = 0
accepted_at message (NoKeeper moment) reply = 0

abbrev pub accepted_in : List Turn → ℕ
accepted_in turns = sum_by (λ (turn : Turn). accepted_at turn.message turn.step turn.reply) turns
