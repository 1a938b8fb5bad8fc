-- What the readers of heads and of fronts answer.
use Rattle.std.specs.Prelude.{◌≡◌, ℕ, ◌<◌, ◌≤◌, List, [], ◌∷◌, map, drop, length, codes}
use Rattle.httparse.specs.Grammar.{RequestHead, print_request, ReadsRequest, HasNoRequest, MayBecomeRequest, NeverHasRequest}
use Rattle.httparse.specs.Spans.{header_bytes, span_bytes}
use Rattle.httparse.specs.declared.spans.HeaderSpan.{HeaderSpan}
use Rattle.httparse.specs.declared.spans.RequestSpans.{RequestSpans}
use Rattle.iam_wire.specs.Fields.{fields_of, values_named}
use Rattle.iam_wire.specs.Front.{is_last, field_of, judged_fields, judged, HasHead, IsMessage, IsPrefix, HasFault}
use Rattle.iam_wire.specs.declared.fault.Judgement.TheVariants.{Sized}
use Rattle.iam_wire.specs.declared.fields.Named.{Named}
use Rattle.iam_wire.specs.declared.fields.Named.TheVariants.{Missing, Once, Repeated}
use Rattle.iam_wire.specs.declared.head.Head.{Head}
use Rattle.iam_wire.specs.declared.front.Look.{Look}
use Rattle.iam_wire.specs.declared.front.Look.TheVariants.{Whole, Open, Closed}
use Rattle.iam_wire.specs.declared.front.Front.{Front}
use Rattle.iam_wire.specs.declared.front.Front.TheVariants.{Found, Part, Fault}
use Rattle.iam_wire.specs.declared.message.Message.{Message}
use Rattle.iam_wire.specs.declared.step.Step.{Step}
use Rattle.iam_wire.specs.declared.step.Step.TheVariants as step
use Rattle.iam_wire.specs.declared.wire.Next.{Next}
use Rattle.iam_wire.specs.declared.wire.Next.TheVariants as next

-- the values of the fields of a name, as far as a caller asks
abbrev pub IsNamed : List (List ℕ) → Named → Type 0
IsNamed values Missing = values ≡ []
IsNamed values (Once value) = values ≡ value.now ∷ []
IsNamed values Repeated = 1 < length values

-- the head has what the spans and the headers cover
pub record IsCovered (buf : List ℕ) (spans : RequestSpans) (headers : List HeaderSpan) (found : Head) : Type 0 where
  pub len : found.len ≡ spans.len
  pub method : found.method.now ≡ span_bytes buf spans.method
  pub target : found.target.now ≡ span_bytes buf spans.path
  pub caller : IsNamed (values_named (codes "x-iam-caller") (map (header_bytes buf) headers)) found.caller
  pub floor : IsNamed (values_named (codes "x-iam-min-revision") (map (header_bytes buf) headers)) found.floor
  pub last : found.last ≡ is_last spans.version (map (header_bytes buf) headers)
  pub said : found.said ≡ judged_fields spans.version (map (header_bytes buf) headers)

-- what was found are the parts of the head
pub record ArePartsOf (head : RequestHead) (found : Head) : Type 0 where
  pub len : found.len ≡ length (print_request head)
  pub method : found.method.now ≡ head.method
  pub target : found.target.now ≡ head.target
  pub caller : IsNamed (values_named (codes "x-iam-caller") (fields_of head)) found.caller
  pub floor : IsNamed (values_named (codes "x-iam-min-revision") (fields_of head)) found.floor
  pub last : found.last ≡ is_last head.minor (fields_of head)
  pub said : found.said ≡ judged head

-- the bytes begin with a head, whose parts were found
pub record IsWhole (bytes : List ℕ) (found : Head) : Type 0 where
  pub head : RequestHead
  pub reads : ReadsRequest bytes head (drop found.len bytes)
  pub parts : ArePartsOf head found

-- what one call of the head's reader tells
abbrev pub IsLook : List ℕ → Look → Type 0
IsLook bytes (Whole found) = IsWhole bytes found
IsLook bytes Open = HasNoRequest bytes × MayBecomeRequest bytes
IsLook bytes Closed = NeverHasRequest bytes

-- the head is there, whose parts were found, and the whole of its body
pub record HasWhole (bytes : List ℕ) (found : Head) (size : ℕ) : Type 0 where
  pub head : RequestHead
  pub rest : List ℕ
  pub has : HasHead bytes head rest
  pub parts : ArePartsOf head found
  pub says : judged head ≡ Sized size
  pub whole : size ≤ length rest

abbrev pub IsFront : List ℕ → Front → Type 0
IsFront bytes (Found found size) = HasWhole bytes found size
IsFront bytes Part = IsPrefix bytes
IsFront bytes (Fault fault) = HasFault bytes fault

-- the message has the parts that were found
pub record IsMade (found : Head) (bytes : List ℕ) (message : Message) : Type 0 where
  pub method : message.method ≡ found.method.now
  pub target : message.target ≡ found.target.now
  pub caller : (values : List (List ℕ)) → IsNamed values found.caller → message.caller ≡ field_of values
  pub floor : (values : List (List ℕ)) → IsNamed values found.floor → message.floor ≡ field_of values
  pub last : message.last ≡ found.last
  pub body : message.body ≡ bytes

-- the message at the front, and how many bytes it takes
abbrev pub IsStep : List ℕ → Step → Type 0
IsStep bytes (step.Took size message) = IsMessage bytes message (drop size bytes) × (size ≤ length bytes)
IsStep bytes step.Need = IsPrefix bytes
IsStep bytes (step.Fault fault) = HasFault bytes fault

-- what comes next, by the bytes that were fed and not yet taken, before and after
abbrev pub IsNext : List ℕ → Next → List ℕ → Type 0
IsNext old (next.Message message) new = IsMessage old message new
IsNext old next.Need new = IsPrefix old × (new ≡ old)
IsNext old (next.Fault fault) new = HasFault old fault × (new ≡ old)
IsNext old next.OutOfMemory new = new ≡ old
