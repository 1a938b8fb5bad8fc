-- The reply that takes no memory, byte for byte.
use Rattle.std.specs.Prelude.{codes}
use Rattle.std.proofs.Common.{◌≡◌, refl}
use Rattle.std.specs.Fmt.{digits}
use Rattle.json.specs.Print.{escape_byte}
use Rattle.iam_json_data.specs.Printed.{printed}
use Rattle.iam_answer.specs.Replies.{plain_reply, no_memory_reply}

pub fixed_reply : codes "HTTP/1.1 507 Insufficient Storage\r\ncontent-type: application/json\r\ncontent-length: 105\r\n\r\n{\"error\":{\"code\":507,\"details\":{\"stored\":false},\"message\":\"OUT_OF_MEMORY\",\"status\":\"RESOURCE_EXHAUSTED\"}}" ≡ no_memory_reply
unfolding plain_reply printed digits escape_byte
fixed_reply = refl
