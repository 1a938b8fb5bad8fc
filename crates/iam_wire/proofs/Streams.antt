-- A text has one list of messages and one end, however it comes.
use Rattle.std.proofs.Common.{◌≡◌, ℕ, suc, zero, ◌<◌, List, [], ◌∷◌, ◌++◌, length, Bool, true, false, inl, inr, refl, sym, ap, ap₂, ◌∙◌, subst, arith, append_assoc, append-nil, IsTrue, IsFalse}
use Rattle.std.specs.Bool.{MatchBool}
use Rattle.std.proofs.lemmas.Bool.{cases_Bool}
use Rattle.iam_wire.specs.Front.{IsMessage, IsPrefix, HasFault}
use Rattle.iam_wire.specs.Stream.{End, at_end, at_last, at_rest, at_fault, EndsAs, Reads, Takes, BeginsWith}
use Rattle.iam_wire.specs.declared.fault.FrameFault.{FrameFault}
use Rattle.iam_wire.specs.declared.message.Message.{Message}
use Rattle.iam_wire.proofs.Heads.{nothing_is_prefix}
use Rattle.iam_wire.proofs.Fronts.{one_message, message_no_prefix, message_no_fault, prefix_no_fault, one_fault, some_front, message_more, fault_more, takes_some}

-- ---- choices by the last message

either : {P Q S T R : Type 0} (b : Bool) → MatchBool b P Q → MatchBool b S T → (P → S → R) → (Q → T → R) → R
either true x y f g = f x y
either false x y f g = g x y

goes_on : (P : Type 0) {Q : Type 0} (b : Bool) → IsFalse b → Q → MatchBool b P Q
goes_on P true other q = absurd cc
goes_on P false other q = q

stops_here : {P : Type 0} (Q : Type 0) (b : Bool) → IsTrue b → P → MatchBool b P Q
stops_here Q true other p = p
stops_here Q false other p = absurd cc

when_on : (P Q : Type 0) (b : Bool) → IsFalse b → MatchBool b P Q → Q
when_on P Q true other x = absurd cc
when_on P Q false other x = x

-- ---- one list and one end

one_end : (bytes : List ℕ) (end last : End) → EndsAs bytes end → EndsAs bytes last → end ≡ last
one_end bytes at_end at_end x y = refl
one_end bytes at_end at_last x y = absurd y
one_end bytes at_end at_rest x y = absurd (y.0 x)
one_end bytes at_end (at_fault f) x y = absurd (prefix_no_fault bytes f (subst IsPrefix (sym x) nothing_is_prefix) y)
one_end bytes at_last last x y = absurd x
one_end bytes at_rest at_end x y = absurd (x.0 y)
one_end bytes at_rest at_last x y = absurd y
one_end bytes at_rest at_rest x y = refl
one_end bytes at_rest (at_fault f) x y = absurd (prefix_no_fault bytes f x.1 y)
one_end bytes (at_fault f) at_end x y = absurd (prefix_no_fault bytes f (subst IsPrefix (sym y) nothing_is_prefix) x)
one_end bytes (at_fault f) at_last x y = absurd y
one_end bytes (at_fault f) at_rest x y = absurd (prefix_no_fault bytes f y.1 x)
one_end bytes (at_fault f) (at_fault g) x y = ap at_fault (one_fault bytes f g x y)

-- no message is where an input ends
no_more : (bytes : List ℕ) (end : End) (message : Message) (rest : List ℕ) → EndsAs bytes end → IsMessage bytes message rest → ⊥
no_more bytes at_end message rest x y = message_no_prefix bytes message rest y (subst IsPrefix (sym x) nothing_is_prefix)
no_more bytes at_last message rest x y = x
no_more bytes at_rest message rest x y = message_no_prefix bytes message rest y x.1
no_more bytes (at_fault f) message rest x y = message_no_fault bytes message rest f y x

pub one_stream : (bytes : List ℕ) (messages others : List Message) (end last : End) → Reads bytes messages end → Reads bytes others last → (messages ≡ others) × (end ≡ last)
one_stream bytes [] [] end last x y = (refl, one_end bytes end last x y)
one_stream bytes [] (n ∷ others) end last x y = absurd (no_more bytes end n y.0 x y.1)
one_stream bytes (m ∷ messages) [] end last x y = absurd (no_more bytes last m x.0 y x.1)
one_stream bytes (m ∷ messages) (n ∷ others) end last x y =
    let same = one_message bytes m n x.0 y.0 x.1 y.1 in
    let other : MatchBool m.last ((others ≡ []) × (last ≡ at_last)) (Reads x.0 others last) =
    subst (λ r. MatchBool m.last ((others ≡ []) × (last ≡ at_last)) (Reads r others last)) (sym same.1) (subst (λ (k : Message). MatchBool k.last ((others ≡ []) × (last ≡ at_last)) (Reads y.0 others last)) (sym same.0) y.2) in
    either m.last x.2 other
    (λ p q. (ap₂ (λ (u : Message) (v : List Message). u ∷ v) same.0 (p.0 ∙ sym q.0), p.1 ∙ sym q.1))
    (λ p q. let r = one_stream x.0 messages others end last p q in (ap₂ (λ (u : Message) (v : List Message). u ∷ v) same.0 r.0, r.1))

-- ---- always a list and an end

abbrev NoStream : List ℕ → Type 0
NoStream bytes = (messages : List Message) (end : End) → Reads bytes messages end → ⊥

message_starts : (bytes : List ℕ) (message : Message) (rest : List ℕ) → IsMessage bytes message rest → NoStream bytes → (NoStream rest → ⊥) → ⊥
message_starts bytes message rest x none goes =
    elim (cases_Bool message.last) [
      | inl t ↦ none (message ∷ []) at_last (rest, x, stops_here _ message.last t (refl, refl))
      | inr f ↦ goes (λ messages end y. none (message ∷ messages) end (rest, x, goes_on _ message.last f y))
    ]

prefix_ends : (bytes : List ℕ) → IsPrefix bytes → NoStream bytes → ⊥
prefix_ends [] x none = none [] at_end refl
prefix_ends (b ∷ bytes) x none = none [] at_rest ((λ same. absurd cc), x)

streams_below : (n : ℕ) (bytes : List ℕ) → length bytes < n → NoStream bytes → ⊥
streams_below zero bytes below none = absurd (omega arith)
streams_below (suc n) bytes below none =
    some_front bytes
    (λ message rest x. message_starts bytes message rest x none (streams_below n rest (omega (arith, below, takes_some bytes message rest x))))
    (λ x. prefix_ends bytes x none)
    (λ fault x. none [] (at_fault fault) x)

pub some_stream : (bytes : List ℕ) → NoStream bytes → ⊥
some_stream bytes none = streams_below (suc (length bytes)) bytes (omega arith) none

-- ---- as it comes

pub taken_more : (bytes more : List ℕ) (messages : List Message) (rest : List ℕ) → Takes bytes messages rest → Takes (bytes ++ more) messages (rest ++ more)
taken_more bytes more [] rest x = ap (λ s. s ++ more) x
taken_more bytes more (m ∷ messages) rest x = (x.0 ++ more, message_more bytes more m x.0 x.1, x.2, taken_more x.0 more messages rest x.3)

pub takes_another : (bytes : List ℕ) (messages : List Message) (rest : List ℕ) (message : Message) (more : List ℕ)
    → Takes bytes messages rest → IsMessage rest message more → IsFalse message.last → Takes bytes (messages ++ message ∷ []) more
takes_another bytes [] rest message more x y goes = (more, subst (λ s. IsMessage s message more) (sym x) y, goes, refl)
takes_another bytes (m ∷ messages) rest message more x y goes = (x.0, x.1, x.2, takes_another x.0 messages rest message more x.3 y goes)

pub reads_rest : (bytes : List ℕ) (messages : List Message) (rest : List ℕ) (others : List Message) (end : End)
    → Takes bytes messages rest → Reads rest others end → Reads bytes (messages ++ others) end
reads_rest bytes [] rest others end x y = subst (λ s. Reads s others end) (sym x) y
reads_rest bytes (m ∷ messages) rest others end x y = (x.0, x.1, goes_on _ m.last x.2 (reads_rest x.0 messages rest others end x.3 y))

pub takes_first : (bytes : List ℕ) (messages : List Message) (rest : List ℕ) (all : List Message) (end : End)
    → Takes bytes messages rest → Reads bytes all end → (others : List Message) × (all ≡ messages ++ others) × Reads rest others end
takes_first bytes [] rest all end x y = (all, refl, subst (λ s. Reads s all end) x y)
takes_first bytes (m ∷ messages) rest [] end x y = absurd (no_more bytes end m x.0 y x.1)
takes_first bytes (m ∷ messages) rest (n ∷ all) end x y =
    let same = one_message bytes n m y.0 x.0 y.1 x.1 in
    let behind : Reads y.0 all end = when_on ((all ≡ []) × (end ≡ at_last)) (Reads y.0 all end) n.last (ap (λ (k : Message). k.last) same.0 ∙ x.2) y.2 in
    let more = takes_first x.0 messages rest all end x.3 (subst (λ s. Reads s all end) same.1 behind) in
    (more.0, ap (λ z. z ∷ all) same.0 ∙ ap (λ zs. m ∷ zs) more.1, more.2)

-- ---- pieces

pub end_as_read : (read : List ℕ) (messages : List Message) (held : List ℕ) (end : End) → Takes read messages held → EndsAs held end → Reads read messages end
end_as_read read messages held end x y = subst (λ ms. Reads read ms end) (append-nil messages) (reads_rest read messages held [] end x y)

pub fault_as_read : (read unread : List ℕ) (messages : List Message) (held : List ℕ) (fault : FrameFault)
    → Takes read messages held → HasFault held fault → Reads (read ++ unread) messages (at_fault fault)
fault_as_read read unread messages held fault x y =
    end_as_read (read ++ unread) messages (held ++ unread) (at_fault fault) (taken_more read unread messages held x) (fault_more held unread fault y)

pub last_as_read : (read unread : List ℕ) (messages : List Message) (held : List ℕ) (message : Message) (rest : List ℕ)
    → Takes read messages held → IsMessage held message rest → IsTrue message.last → Reads (read ++ unread) (messages ++ message ∷ []) at_last
last_as_read read unread messages held message rest x y is =
    reads_rest (read ++ unread) messages (held ++ unread) (message ∷ []) at_last (taken_more read unread messages held x)
    (rest ++ unread, message_more held unread message rest y, stops_here _ message.last is (refl, refl))

either_way : {P Q : Type 0} (b : Bool) → P → Q → MatchBool b P Q
either_way true p q = p
either_way false p q = q

begins : (bytes : List ℕ) (messages : List Message) (rest : List ℕ) → Takes bytes messages rest → BeginsWith bytes messages
begins bytes [] rest x = tt
begins bytes (m ∷ messages) rest x = (x.0, x.1, goes_on _ m.last x.2 (begins x.0 messages rest x.3))

begins_more : (bytes : List ℕ) (messages : List Message) (rest : List ℕ) (message : Message) (more : List ℕ)
    → Takes bytes messages rest → IsMessage rest message more → BeginsWith bytes (messages ++ message ∷ [])
begins_more bytes [] rest message more x y = (more, subst (λ s. IsMessage s message more) (sym x) y, either_way message.last refl tt)
begins_more bytes (m ∷ messages) rest message more x y = (x.0, x.1, goes_on _ m.last x.2 (begins_more x.0 messages rest message more x.3 y))

pub first_as_read : (read unread : List ℕ) (messages : List Message) (held : List ℕ) → Takes read messages held → BeginsWith (read ++ unread) messages
first_as_read read unread messages held x = begins (read ++ unread) messages (held ++ unread) (taken_more read unread messages held x)

pub one_more_as_read : (read unread : List ℕ) (messages : List Message) (held : List ℕ) (message : Message) (rest : List ℕ)
    → Takes read messages held → IsMessage held message rest → BeginsWith (read ++ unread) (messages ++ message ∷ [])
one_more_as_read read unread messages held message rest x y =
    begins_more (read ++ unread) messages (held ++ unread) message (rest ++ unread) (taken_more read unread messages held x) (message_more held unread message rest y)

pub first_of_all : (bytes : List ℕ) (messages all : List Message) (end : End) → BeginsWith bytes messages → Reads bytes all end → (others : List Message) × (all ≡ messages ++ others)
first_of_all bytes [] all end x y = (all, refl)
first_of_all bytes (m ∷ messages) [] end x y = absurd (no_more bytes end m x.0 y x.1)
first_of_all bytes (m ∷ messages) (n ∷ all) end x y =
    let same = one_message bytes n m y.0 x.0 y.1 x.1 in
    let other : MatchBool m.last ((all ≡ []) × (end ≡ at_last)) (Reads x.0 all end) =
    subst (λ r. MatchBool m.last ((all ≡ []) × (end ≡ at_last)) (Reads r all end)) same.1 (subst (λ (k : Message). MatchBool k.last ((all ≡ []) × (end ≡ at_last)) (Reads y.0 all end)) same.0 y.2) in
    either m.last x.2 other
    (λ p q. ([], ap (λ z. z ∷ all) same.0 ∙ ap (λ zs. m ∷ zs) (q.0 ∙ sym p ∙ sym (append-nil messages))))
    (λ p q. let r = first_of_all x.0 messages all end p q in (r.0, ap (λ z. z ∷ all) same.0 ∙ ap (λ zs. m ∷ zs) r.1))

each_way : {P Q S T : Type 0} (b : Bool) → MatchBool b P Q → (P → S) → (Q → T) → MatchBool b S T
each_way true x f g = f x
each_way false x f g = g x

pub reads_begin : (bytes : List ℕ) (messages : List Message) (end : End) → Reads bytes messages end → BeginsWith bytes messages
reads_begin bytes [] end x = tt
reads_begin bytes (m ∷ messages) end x = (x.0, x.1, each_way m.last x.2 (λ p. p.0) (λ q. reads_begin x.0 messages end q))
