-- What stands at the front of bytes (RFC 9112): a message, a proper prefix of one, or a fault.
use Rattle.std.specs.Prelude.{◌≡◌, ℕ, ◌<◌, ◌≤◌, ◌⊎◌, Bool, ◌&&◌, ◌||◌, ◌==◌, not, nat_lt, List, [], ◌∷◌, ◌++◌, length, codes, bytes_eq, Option, Some, None, if◌then◌else◌}
use Rattle.std.specs.List.{list_all, list_any, slice_split}
use Rattle.std.specs.Str.{is_utf8, str_eq_ignore_ascii_case}
use Rattle.httparse.specs.Grammar.{RequestHead, print_request, ReadsRequest, HasNoRequest, MayBecomeRequest, NeverHasRequest, EndsInTarget, trim_ows}
use Rattle.iam_wire.specs.Fields.{fields_of, values_named, appears, number_of}
use Rattle.iam_wire.specs.declared.message.Field.{Field}
use Rattle.iam_wire.specs.declared.message.Field.TheVariants.{Absent, One, Bad}
use Rattle.iam_wire.specs.declared.message.Message.{Message}
use Rattle.iam_wire.specs.declared.fault.FrameFault.{FrameFault}
use Rattle.iam_wire.specs.declared.fault.FrameFault.TheVariants.{BadHead, TooLarge, NeedLength}
use Rattle.iam_wire.specs.declared.fault.Judgement.{Judgement}
use Rattle.iam_wire.specs.declared.fault.Judgement.TheVariants.{Sized, Faulty}

-- bytes of a head, its empty line included
abbrev pub max_head : ℕ
max_head = 16384

abbrev pub max_fields : ℕ
max_fields = 64

abbrev pub max_body : ℕ
max_body = 1048576

-- a length has at most so many digits
abbrev pub max_digits : ℕ
max_digits = 19

abbrev pub comma : ℕ
comma = 44

-- the length of the body, by the values of `content-length`: each has to be the same text as the first
abbrev pub declared_length : List (List ℕ) → Option ℕ
declared_length [] = Some 0
declared_length (value ∷ values) = if list_all (bytes_eq value) values then number_of max_digits value else None

-- the coding that changes nothing
abbrev pub is_identity : List ℕ → Bool
is_identity value = str_eq_ignore_ascii_case value (codes "identity")

-- the option that ends a conversation, with the white space around it
abbrev pub is_close : List ℕ → Bool
is_close option = str_eq_ignore_ascii_case (trim_ows option) (codes "close")

-- options stand between commas
abbrev pub names_close : List ℕ → Bool
names_close value = list_any is_close (slice_split (λ byte. byte == comma) value)

-- version 1.0, or the option `close`
abbrev pub is_last : ℕ → List (List ℕ × List ℕ) → Bool
is_last minor fields = minor == 0 || list_any names_close (values_named (codes "connection") fields)

-- a field of the project, by the values of its name: bad where it is repeated or isn't UTF-8
abbrev pub field_of : List (List ℕ) → Field
field_of [] = Absent
field_of (value ∷ []) = if is_utf8 value then One value else Bad
field_of (value ∷ other ∷ values) = Bad

-- more than max_body bytes come before a body without a length
abbrev pub sized : Bool → ℕ → Judgement
sized coded size = if nat_lt max_body size then Faulty (TooLarge size) else (if coded then Faulty NeedLength else Sized size)

abbrev pub judged_length : Bool → Option ℕ → Judgement
judged_length coded None = Faulty BadHead
judged_length coded (Some size) = sized coded size

-- what the fields of a head of that version say of the body: its length, or the first fault
abbrev pub judged_fields : ℕ → List (List ℕ × List ℕ) → Judgement
judged_fields minor fields =
    if nat_lt max_fields (length fields) then Faulty BadHead else (
    if minor == 1 && not (appears 1 (codes "host") fields) then Faulty BadHead else (
    if not (list_all is_identity (values_named (codes "content-encoding") fields)) then Faulty BadHead else
    judged_length (not (appears 0 (codes "transfer-encoding") fields)) (declared_length (values_named (codes "content-length") fields))))

unfoldable pub judged : RequestHead → Judgement
judged head = judged_fields head.minor (fields_of head)

-- the bytes begin with that head, of at most max_head bytes, and then there is rest
pub record HasHead (bytes : List ℕ) (head : RequestHead) (rest : List ℕ) : Type 0 where
  pub reads : ReadsRequest bytes head rest
  pub small : length (print_request head) ≤ max_head

-- ---- a message

-- the message of a head and a body
abbrev pub message_of : RequestHead → List ℕ → Message
message_of head body = record {
  method = head.method;
  target = head.target;
  caller = field_of (values_named (codes "x-iam-caller") (fields_of head));
  floor = field_of (values_named (codes "x-iam-min-revision") (fields_of head));
  last = is_last head.minor (fields_of head);
  body = body;
}

-- the bytes are that message, and then rest
pub record IsMessage (bytes : List ℕ) (message : Message) (rest : List ℕ) : Type 0 where
  pub head : RequestHead
  pub body : List ℕ
  pub has : HasHead bytes head (body ++ rest)
  pub says : judged head ≡ Sized (length body)
  pub is : message ≡ message_of head body

-- ---- a prefix of one

-- no whole head is there, and some continuation, however long, makes one, or the bytes stop inside its target
pub record IsOpen (bytes : List ℕ) : Type 0 where
  pub short : length bytes < max_head
  pub none : HasNoRequest bytes
  pub may : MayBecomeRequest bytes

-- the head is there, and less than its body
pub record LacksBody (bytes : List ℕ) : Type 0 where
  pub head : RequestHead
  pub rest : List ℕ
  pub has : HasHead bytes head rest
  pub size : ℕ
  pub says : judged head ≡ Sized size
  pub short : length rest < size

-- the bytes are a proper prefix of a message
abbrev pub IsPrefix : List ℕ → Type 0
IsPrefix bytes = IsOpen bytes ⊎ LacksBody bytes

-- ---- a fault

-- no continuation of the bytes makes a head, and they don't stop inside the target of one
pub record IsHopeless (bytes : List ℕ) : Type 0 where
  pub never : NeverHasRequest bytes
  pub apart : ¬ (EndsInTarget bytes)

-- max_head bytes hold no whole head
pub record IsTooLong (bytes : List ℕ) : Type 0 where
  pub long : max_head ≤ length bytes
  pub none : (head : RequestHead) (rest : List ℕ) → ¬ (HasHead bytes head rest)

-- the head is there, and has that fault
pub record SaysFault (bytes : List ℕ) (fault : FrameFault) : Type 0 where
  pub head : RequestHead
  pub rest : List ℕ
  pub has : HasHead bytes head rest
  pub says : judged head ≡ Faulty fault

abbrev pub HasFault : List ℕ → FrameFault → Type 0
HasFault bytes fault = SaysFault bytes fault ⊎ ((fault ≡ BadHead) × (IsHopeless bytes ⊎ IsTooLong bytes))
