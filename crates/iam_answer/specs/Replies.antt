-- The bytes of replies.
use Rattle.std.specs.Prelude.{ℕ, ◌==◌, true, false, List, Some, None, codes, if◌then◌else◌}
use Rattle.std.specs.List.{starts_with}
use Rattle.iam_text.specs.declared.moment.Moment.{Moment}
use Rattle.iam_types.specs.declared.answer.Answer.{Answer}
use Rattle.iam_types.specs.declared.answer.Answer.TheVariants.{Refused}
use Rattle.iam_json.specs.Answers.{answer_text}
use Rattle.iam_json.specs.Refusals.{line_of, refusal_line, error_text}
use Rattle.iam_json.specs.declared.details.Details.{Details}
use Rattle.iam_json.specs.declared.details.Details.TheVariants.{KeeperFault, OutOfMemory}
use Rattle.iam_wire.specs.Reply.{bytes_of}

-- a refusal that no state gives shows neither revision nor moment
unfoldable pub plain_reply : Details → List ℕ
plain_reply details = bytes_of (record { code = (line_of details).code; number = None; moment = None; body = error_text details })

-- a write for which the keeper failed shows the moment alone
unfoldable pub keeper_reply : Moment → List ℕ
keeper_reply moment = bytes_of (record { code = (line_of KeeperFault).code; number = None; moment = Some moment; body = error_text KeeperFault })

abbrev pub answer_code : Answer → ℕ
answer_code (Refused refusal) = (refusal_line refusal).code
answer_code answer = 200

-- an answer in the state of this number, at this moment
unfoldable pub served_reply : ℕ → Moment → Answer → List ℕ
served_reply number moment answer = bytes_of (record { code = answer_code answer; number = Some number; moment = Some moment; body = answer_text answer })

-- memory was refused, and nothing was stored
abbrev pub no_memory_reply : List ℕ
no_memory_reply = plain_reply (OutOfMemory false)

-- memory was refused to the answer of the change of this number, which is stored
unfoldable pub stored_reply : ℕ → List ℕ
stored_reply number = bytes_of (record { code = (line_of (OutOfMemory true)).code; number = Some number; moment = None; body = error_text (OutOfMemory true) })

-- a reply of code 200, counted
unfoldable pub shows_ok : List ℕ → ℕ
shows_ok reply = if starts_with ◌==◌ reply (codes "HTTP/1.1 200 ") then 1 else 0
