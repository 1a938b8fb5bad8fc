-- The bytes of a reply (RFC 9112, section 4).
use Rattle.std.specs.Prelude.{ℕ, List, [], ◌++◌, length, codes, Some, None, if◌then◌else◌, ◌==◌}
use Rattle.std.specs.declared.option.Option.{Option}
use Rattle.std.specs.Fmt.{decimal, signed_decimal}
use Rattle.iam_text.specs.declared.moment.Moment.{Moment}
use Rattle.iam_wire.specs.declared.reply.Reply.{Reply}

-- RFC 9110, section 15; 429 is of RFC 6585 and 507 of RFC 4918. Another code has no phrase
abbrev pub phrase_of : ℕ → List ℕ
phrase_of code =
    if code == 200 then codes "OK" else
    if code == 400 then codes "Bad Request" else
    if code == 401 then codes "Unauthorized" else
    if code == 403 then codes "Forbidden" else
    if code == 404 then codes "Not Found" else
    if code == 405 then codes "Method Not Allowed" else
    if code == 409 then codes "Conflict" else
    if code == 411 then codes "Length Required" else
    if code == 413 then codes "Content Too Large" else
    if code == 429 then codes "Too Many Requests" else
    if code == 503 then codes "Service Unavailable" else
    if code == 507 then codes "Insufficient Storage" else
    []

-- the first line and the two fields that each reply has
abbrev pub head_of : ℕ → ℕ → List ℕ
head_of code size =
    codes "HTTP/1.1 " ++ decimal code ++ codes " " ++ phrase_of code
    ++ codes "\r\ncontent-type: application/json\r\ncontent-length: " ++ decimal size ++ codes "\r\n"

abbrev pub revision_line : Option ℕ → List ℕ
revision_line None = []
revision_line (Some number) = codes "x-iam-revision: " ++ decimal number ++ codes "\r\n"

abbrev pub moment_line : Option Moment → List ℕ
moment_line None = []
moment_line (Some moment) = codes "x-iam-moment: " ++ signed_decimal moment.0 ++ codes "\r\n"

-- the head, an empty line and the body
abbrev pub bytes_of : Reply → List ℕ
bytes_of reply =
    head_of reply.code (length reply.body) ++ revision_line reply.number ++ moment_line reply.moment
    ++ codes "\r\n" ++ reply.body
