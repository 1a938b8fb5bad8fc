-- What stands at the front of bytes: one of three, always, and what more bytes leave of it.
use Rattle.std.proofs.Common.{◌≡◌, ℕ, ◌+◌, ◌<◌, ◌≤◌, ◌⊎◌, inl, inr, Bool, true, false, not, ◌&&◌, codes, Option, Some, None, List, [], ◌++◌, length, take, drop, refl, sym, ap, ◌∙◌, subst, arith, append_assoc, length-append, nat_lt, if◌then◌else◌}
use Rattle.std.proofs.lemmas.Bool.Decides.{leb_tells, Decides-ltb}
use Rattle.std.proofs.lemmas.List.{take-append-drop, length-take}
use Rattle.std.specs.Bool.{◌==◌}
use Rattle.std.specs.List.{list_all}
use Rattle.httparse.specs.Grammar.{RequestHead, print_request, ReadsRequest, HasNoRequest, MayBecomeRequest}
use Rattle.iam_wire.specs.Fields.{fields_of, values_named, appears}
use Rattle.iam_wire.specs.Front.{max_body, max_fields, max_head, is_identity, declared_length, judged, judged_length, HasHead, message_of, IsMessage, IsOpen, IsPrefix, IsHopeless, IsTooLong, HasFault}
use Rattle.iam_wire.specs.declared.fault.FrameFault.{FrameFault}
use Rattle.iam_wire.specs.declared.fault.FrameFault.TheVariants.{BadHead, TooLarge, NeedLength}
use Rattle.iam_wire.specs.declared.fault.Judgement.{Judgement}
use Rattle.iam_wire.specs.declared.fault.Judgement.TheVariants.{Sized, Faulty}
use Rattle.iam_wire.specs.declared.message.Message.{Message}
use Rattle.iam_wire.proofs.Bytes.{same_split, some_head}
use Rattle.iam_wire.proofs.Heads.{may_from_later, may_from_head, never_now, one_head, has_more, has_less}

-- ---- one of the three

pub one_message : (bytes : List ℕ) (message second : Message) (rest left : List ℕ) → IsMessage bytes message rest → IsMessage bytes second left → (message ≡ second) × (rest ≡ left)
one_message bytes message second rest left x y =
    let same = one_head bytes x.head y.head (x.body ++ rest) (y.body ++ left) x.has y.has in
    let said : Sized (length x.body) ≡ Sized (length y.body) = sym x.says ∙ ap judged same.0 ∙ y.says in
    let long : length x.body ≡ length y.body = cc in
    let parts = same_split x.body y.body rest left long same.1 in
    (x.is ∙ ap (λ h. message_of h x.body) same.0 ∙ ap (message_of y.head) parts.0 ∙ sym y.is, parts.1)

no_head : (bytes : List ℕ) → IsHopeless bytes ⊎ IsTooLong bytes → (head : RequestHead) (rest : List ℕ) → HasHead bytes head rest → ⊥
no_head bytes (inl x) head rest has = never_now bytes x.never head rest has.reads
no_head bytes (inr x) head rest has = x.none head rest has

open_alone : (bytes : List ℕ) → IsOpen bytes → IsHopeless bytes ⊎ IsTooLong bytes → ⊥
open_alone bytes still (inl x) =
    elim still.may [
      | inl m ↦ x.never m.0 m.1 [] m.2
      | inr t ↦ x.apart t
    ]
open_alone bytes still (inr x) = omega (arith, still.short, x.long)

pub message_no_prefix : (bytes : List ℕ) (message : Message) (rest : List ℕ) → IsMessage bytes message rest → IsPrefix bytes → ⊥
message_no_prefix bytes message rest x (inl y) = y.none x.head (x.body ++ rest) x.has.reads
message_no_prefix bytes message rest x (inr y) =
    let same = one_head bytes x.head y.head (x.body ++ rest) y.rest x.has y.has in
    let said : Sized (length x.body) ≡ Sized y.size = sym x.says ∙ ap judged same.0 ∙ y.says in
    let sizes : length x.body ≡ y.size = cc in
    omega (arith, sizes, y.short, ap length same.1, length-append x.body rest)

pub message_no_fault : (bytes : List ℕ) (message : Message) (rest : List ℕ) (fault : FrameFault) → IsMessage bytes message rest → HasFault bytes fault → ⊥
message_no_fault bytes message rest fault x (inl y) =
    let same = one_head bytes x.head y.head (x.body ++ rest) y.rest x.has y.has in
    let said : Sized (length x.body) ≡ Faulty fault = sym x.says ∙ ap judged same.0 ∙ y.says in
    cc
message_no_fault bytes message rest fault x (inr y) = no_head bytes y.1 x.head (x.body ++ rest) x.has

pub prefix_no_fault : (bytes : List ℕ) (fault : FrameFault) → IsPrefix bytes → HasFault bytes fault → ⊥
prefix_no_fault bytes fault (inl x) (inl y) = x.none y.head y.rest y.has.reads
prefix_no_fault bytes fault (inl x) (inr y) = open_alone bytes x y.1
prefix_no_fault bytes fault (inr x) (inl y) =
    let same = one_head bytes x.head y.head x.rest y.rest x.has y.has in
    let said : Sized x.size ≡ Faulty fault = sym x.says ∙ ap judged same.0 ∙ y.says in
    cc
prefix_no_fault bytes fault (inr x) (inr y) = no_head bytes y.1 x.head x.rest x.has

pub one_fault : (bytes : List ℕ) (fault other : FrameFault) → HasFault bytes fault → HasFault bytes other → fault ≡ other
one_fault bytes fault other (inl x) (inl y) =
    let same = one_head bytes x.head y.head x.rest y.rest x.has y.has in
    let said : Faulty fault ≡ Faulty other = sym x.says ∙ ap judged same.0 ∙ y.says in
    cc
one_fault bytes fault other (inl x) (inr y) = absurd (no_head bytes y.1 x.head x.rest x.has)
one_fault bytes fault other (inr x) (inl y) = absurd (no_head bytes x.1 y.head y.rest y.has)
one_fault bytes fault other (inr x) (inr y) = x.0 ∙ sym y.0

-- ---- always one

-- a head and the whole of its body are a message
pub message_at : (bytes : List ℕ) (head : RequestHead) (rest : List ℕ) (size : ℕ) → HasHead bytes head rest → judged head ≡ Sized size → size ≤ length rest
    → IsMessage bytes (message_of head (take size rest)) (drop size rest)
message_at bytes head rest size has says whole =
    let long : length (take size rest) ≡ size = omega (arith, length-take size rest, whole) in
    record {
      head = head;
      body = take size rest;
      has = subst (HasHead bytes head) (sym (take-append-drop size rest)) has;
      says = says ∙ ap Sized (sym long);
      is = refl;
    }

abbrev NoMessage : List ℕ → Type 0
NoMessage bytes = (message : Message) (rest : List ℕ) → IsMessage bytes message rest → ⊥

abbrev NoFault : List ℕ → Type 0
NoFault bytes = (fault : FrameFault) → HasFault bytes fault → ⊥

head_settles : (bytes : List ℕ) (head : RequestHead) (rest : List ℕ) (said : Judgement) → HasHead bytes head rest → judged head ≡ said
    → NoMessage bytes → (IsPrefix bytes → ⊥) → NoFault bytes → ⊥
head_settles bytes head rest (Faulty fault) has says no_message no_prefix no_fault = no_fault fault (inl record { head = head; rest = rest; has = has; says = says })
head_settles bytes head rest (Sized size) has says no_message no_prefix no_fault =
    elim (leb_tells size (length rest)) [
      | inl p ↦ no_message (message_of head (take size rest)) (drop size rest) (message_at bytes head rest size has says p.1)
      | inr p ↦ no_prefix (inr record { head = head; rest = rest; has = has; size = size; says = says; short = p.1 })
    ]

few_settle : (bytes : List ℕ) → length bytes < max_head → ((head : RequestHead) (rest : List ℕ) → HasHead bytes head rest → ⊥)
    → (IsPrefix bytes → ⊥) → NoFault bytes → ⊥
few_settle bytes short headless no_prefix no_fault =
    let none : HasNoRequest bytes = λ head rest reads. headless head rest record { reads = reads; small = omega (arith, short, ap length reads.1, length-append (print_request head) rest) } in
    let closed : MayBecomeRequest bytes → ⊥ = λ may. no_prefix (inl record { short = short; none = none; may = may }) in
    no_fault BadHead (inr (refl, inl record { never = λ more head rest reads. closed (may_from_head bytes more head rest none reads); apart = λ w. closed (inr w) }))

pub some_front : (bytes : List ℕ) → NoMessage bytes → (IsPrefix bytes → ⊥) → NoFault bytes → ⊥
some_front bytes no_message no_prefix no_fault =
    let headless : (head : RequestHead) (rest : List ℕ) → HasHead bytes head rest → ⊥ = λ head rest has. head_settles bytes head rest (judged head) has refl no_message no_prefix no_fault in
    elim (leb_tells max_head (length bytes)) [
      | inl p ↦ no_fault BadHead (inr (refl, inr record { long = p.1; none = headless }))
      | inr p ↦ few_settle bytes p.1 headless no_prefix no_fault
    ]

-- ---- more bytes

pub message_more : (bytes more : List ℕ) (message : Message) (rest : List ℕ) → IsMessage bytes message rest → IsMessage (bytes ++ more) message (rest ++ more)
message_more bytes more message rest x = record {
  head = x.head;
  body = x.body;
  has = subst (HasHead (bytes ++ more) x.head) (append_assoc x.body rest more) (has_more bytes more x.head (x.body ++ rest) x.has);
  says = x.says;
  is = x.is;
}

hopeless_more : (bytes more : List ℕ) → IsHopeless bytes → IsHopeless (bytes ++ more)
hopeless_more bytes more x = record {
  never = λ most head rest reads. x.never (more ++ most) head rest (subst (λ s. ReadsRequest s head rest) (append_assoc bytes more most) reads);
  apart = λ w.
      elim (may_from_later bytes more w) [
        | inl m ↦ x.never m.0 m.1 [] m.2
        | inr t ↦ x.apart t
      ];
}

too_long_more : (bytes more : List ℕ) → IsTooLong bytes → IsTooLong (bytes ++ more)
too_long_more bytes more x = record {
  long = omega (arith, length-append bytes more, x.long);
  none = λ head rest has. let less = has_less bytes more head rest has (omega (arith, has.small, x.long)) in x.none head less.0 less.1;
}

pub fault_more : (bytes more : List ℕ) (fault : FrameFault) → HasFault bytes fault → HasFault (bytes ++ more) fault
fault_more bytes more fault (inl x) = inl record { head = x.head; rest = x.rest ++ more; has = has_more bytes more x.head x.rest x.has; says = x.says }
fault_more bytes more fault (inr (is, inl x)) = inr (is, inl (hopeless_more bytes more x))
fault_more bytes more fault (inr (is, inr x)) = inr (is, inr (too_long_more bytes more x))

-- a message takes a byte
pub takes_some : (bytes : List ℕ) (message : Message) (rest : List ℕ) → IsMessage bytes message rest → length rest < length bytes
takes_some bytes message rest x =
    omega (arith, some_head x.head, ap length x.has.reads.1, length-append (print_request x.head) (x.body ++ rest), length-append x.body rest)

-- ---- how long a prefix is

kept_within : (over coded : Bool) (n size : ℕ) → nat_lt max_body n ≡ over → (if over then Faulty (TooLarge n) else (if coded then Faulty NeedLength else Sized n)) ≡ Sized size → size ≤ max_body
kept_within true coded n size test is = absurd (cc is)
kept_within false true n size test is = absurd (cc is)
kept_within false false n size test is =
    let same : n ≡ size = cc is in
    elim (leb_tells n max_body) [
      | inl p ↦ omega (arith, same, p.1)
      | inr p ↦ let both = sym test ∙ (Decides-ltb max_body n).1 p.1 in absurd (cc both)
    ]

length_within : (coded : Bool) (n : Option ℕ) (size : ℕ) → judged_length coded n ≡ Sized size → size ≤ max_body
length_within coded None size is = absurd (cc is)
length_within coded (Some n) size is = kept_within (nat_lt max_body n) coded n size refl is

-- where a head isn't refused for one cause, the next decides
behind : (b : Bool) (said : Judgement) (size : ℕ) → (if b then Faulty BadHead else said) ≡ Sized size → said ≡ Sized size
behind true said size is = absurd (cc is)
behind false said size is = is

size_within : (head : RequestHead) (size : ℕ) → judged head ≡ Sized size → size ≤ max_body
unfolding judged
size_within head size is =
    let fields = fields_of head in
    length_within (not (appears 0 (codes "transfer-encoding") fields)) (declared_length (values_named (codes "content-length") fields)) size
    (behind (not (list_all is_identity (values_named (codes "content-encoding") fields))) _ size
    (behind (head.minor == 1 && not (appears 1 (codes "host") fields)) _ size
    (behind (nat_lt max_fields (length fields)) _ size is)))

pub prefix_short : (bytes : List ℕ) → IsPrefix bytes → length bytes < max_head + max_body
prefix_short bytes (inl still) = omega (arith, still.short)
prefix_short bytes (inr lacks) =
    omega (arith, lacks.has.small, lacks.short, size_within lacks.head lacks.size lacks.says, ap length lacks.has.reads.1, length-append (print_request lacks.head) lacks.rest)
