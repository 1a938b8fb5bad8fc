-- Where nothing failed, all messages of an input were answered.
use Rattle.std.proofs.Common.{◌≡◌, ◌≢◌, ℕ, suc, ◌<◌, ◌≤◌, Bool, true, false, List, [], ◌∷◌, ◌++◌, length, take, inl, inr, refl, sym, ap, ◌∙◌, subst, arith, length-append, nat_lt, nat_le, if◌then◌else◌}
use Rattle.std.proofs.lemmas.Bool.Decides.{leb_tells}
use Rattle.std.proofs.lemmas.List.{take_all}
use Rattle.std.proofs.Math.Seq.{take-append_seam}
use Rattle.iam_outer.specs.declared.talk.TalkEnd.{TalkEnd}
use Rattle.iam_outer.specs.declared.talk.TalkEnd.TheVariants as talk
use Rattle.iam_wire.specs.Stream.{End, Reads, Takes, at_end, at_last, at_rest, at_fault}
use Rattle.iam_wire.specs.declared.message.Message.{Message}
use Rattle.iam_office.specs.Answering.{Streams}
use Rattle.iam_office.specs.Laws.{AllAreAnswered, IsUndisturbed, given_end}
use Rattle.iam_office.specs.Stops.{Ends, MOST_MESSAGES, StopsAt, end_of, tail_of}
use Rattle.iam_office.specs.declared.stop.Stop.{Stop}
use Rattle.iam_office.specs.declared.stop.Stop.TheVariants.{AtEnd, AtLast, Cut, Fault, Enough, ReadFault, WriteFault, ClockFault, OutOfMemory}

-- it ended as it stopped
undisturbed : (stop : Stop) (end : TalkEnd) → Ends stop end → IsUndisturbed end → end ≡ end_of stop
undisturbed stop end ends quiet = elim ends [
  | inl is ↦ is
  | inr cut ↦ absurd (subst IsUndisturbed cut.1 quiet)
]

never : (stop : Stop) (end : TalkEnd) → Ends stop end → IsUndisturbed end → IsUndisturbed (end_of stop)
never stop end ends quiet = subst IsUndisturbed (undisturbed stop end ends quiet) quiet

-- the choice by a number
below : (messages : List Message) (some other : TalkEnd) → length messages < MOST_MESSAGES → (if nat_lt (length messages) MOST_MESSAGES then some else other) ≡ some
below messages some other few = elim (leb_tells (suc (length messages)) MOST_MESSAGES) [
  | inl p ↦ ap (λ (b : Bool). if b then some else other) p.0
  | inr p ↦ absurd (omega (arith, p.1, few))
]

within : (messages : List Message) (some other : TalkEnd) → length messages ≤ MOST_MESSAGES → (if nat_le (length messages) MOST_MESSAGES then some else other) ≡ some
within messages some other few = elim (leb_tells (length messages) MOST_MESSAGES) [
  | inl p ↦ ap (λ (b : Bool). if b then some else other) p.0
  | inr p ↦ absurd (omega (arith, p.1, few))
]

not_below : (messages : List Message) (some other : TalkEnd) → MOST_MESSAGES ≤ length messages → (if nat_lt (length messages) MOST_MESSAGES then some else other) ≡ other
not_below messages some other many = elim (leb_tells (suc (length messages)) MOST_MESSAGES) [
  | inl p ↦ absurd (omega (arith, p.1, many))
  | inr p ↦ ap (λ (b : Bool). if b then some else other) p.0
]

not_within : (messages : List Message) (some other : TalkEnd) → MOST_MESSAGES < length messages → (if nat_le (length messages) MOST_MESSAGES then some else other) ≡ other
not_within messages some other many = elim (leb_tells (length messages) MOST_MESSAGES) [
  | inl p ↦ absurd (omega (arith, p.1, many))
  | inr p ↦ ap (λ (b : Bool). if b then some else other) p.0
]

-- all messages were answered
whole : Streams → (input : List ℕ) (messages all : List Message) (here last : End) (end some : TalkEnd) → length messages ≤ MOST_MESSAGES → Reads input messages here → Reads input all last → end ≡ some → given_end messages here ≡ some
    → (messages ≡ take MOST_MESSAGES all) × (end ≡ given_end all last)
whole laws input messages all here last end some few reads every is given =
    let same = laws.one input messages all here last reads every in (
      sym (take_all MOST_MESSAGES messages few) ∙ ap (take MOST_MESSAGES) same.0,
      is ∙ sym given ∙ ap (λ ms. given_end ms here) same.0 ∙ ap (given_end all) same.1,
    )

-- so many were answered, and others are left
others_end : (messages others all : List Message) (rest : List ℕ) (last : End) → all ≡ messages ++ others → length messages ≡ MOST_MESSAGES → Reads rest others last → given_end all last ≡ talk.Enough
others_end messages others all rest at_end is many reads = not_below all talk.Done talk.Enough (omega (arith, ap length is, length-append messages others, many))
others_end messages others all rest at_rest is many reads = not_below all talk.Cut talk.Enough (omega (arith, ap length is, length-append messages others, many))
others_end messages others all rest (at_fault fault) is many reads = not_below all talk.BadFrame talk.Enough (omega (arith, ap length is, length-append messages others, many))
others_end messages [] all rest at_last is many reads = absurd reads
others_end messages (m ∷ others) all rest at_last is many reads =
    not_within all talk.Done talk.Enough (omega (arith, ap length is, length-append messages (m ∷ others), many))

most : Streams → (input : List ℕ) (messages all : List Message) (rest : List ℕ) (last : End) (end : TalkEnd) → Takes input messages rest → length messages ≡ MOST_MESSAGES → Reads input all last → end ≡ talk.Enough
    → (messages ≡ take MOST_MESSAGES all) × (end ≡ given_end all last)
most laws input messages all rest last end takes many every is =
    let parts = laws.first input messages rest all last takes every in (
      sym (take-append_seam messages parts.0) ∙ ap (λ n. take n (messages ++ parts.0)) many ∙ ap (take MOST_MESSAGES) (sym parts.1),
      is ∙ sym (others_end messages parts.0 all rest last parts.1 many parts.2),
    )

pub complete : Streams → AllAreAnswered
complete laws AtEnd read unread messages all last end found few ends quiet every =
    whole laws (read ++ unread) messages all at_end last end talk.Done few found.0 every (undisturbed AtEnd end ends quiet) (below messages talk.Done talk.Enough found.1)
complete laws AtLast read unread messages all last end found few ends quiet every =
    whole laws (read ++ unread) messages all at_last last end talk.Done few found every (undisturbed AtLast end ends quiet) (within messages talk.Done talk.Enough few)
complete laws Cut read unread messages all last end found few ends quiet every =
    whole laws (read ++ unread) messages all at_rest last end talk.Cut few found.0 every (undisturbed Cut end ends quiet) (below messages talk.Cut talk.Enough found.1)
complete laws (Fault fault) read unread messages all last end found few ends quiet every =
    whole laws (read ++ unread) messages all (at_fault fault) last end talk.BadFrame few found.0 every (undisturbed (Fault fault) end ends quiet) (below messages talk.BadFrame talk.Enough found.1)
complete laws Enough read unread messages all last end found few ends quiet every =
    most laws (read ++ unread) messages all found.0 last end found.1 found.2 every (undisturbed Enough end ends quiet)
complete laws ReadFault read unread messages all last end found few ends quiet every = absurd (never ReadFault end ends quiet)
complete laws WriteFault read unread messages all last end found few ends quiet every = absurd (never WriteFault end ends quiet)
complete laws ClockFault read unread messages all last end found few ends quiet every = absurd (never ClockFault end ends quiet)
complete laws OutOfMemory read unread messages all last end found few ends quiet every = absurd (never OutOfMemory end ends quiet)
