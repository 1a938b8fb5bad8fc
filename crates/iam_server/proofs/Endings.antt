-- How runs end, and why.
use Rattle.std.proofs.Common.{◌≡◌, ◌∙◌, ℕ, List, Option, Some, None, inl, inr, ap, refl, subst, sym}
use Rattle.iam_outer.specs.Causes.{Rose}
use Rattle.iam_outer.specs.declared.keeper.Row.{Row}
use Rattle.iam_outer.specs.declared.talk.Step.{Step}
use Rattle.iam_outer.specs.declared.talk.TalkEnd.{TalkEnd}
use Rattle.iam_outer.specs.declared.talk.TalkEnd.TheVariants as end
use Rattle.iam_types.specs.declared.tables.Opening.{Opening}
use Rattle.iam_ask.specs.Access.{access_line}
use Rattle.iam_keeping.specs.Opened.{IsLeft}
use Rattle.iam_office.specs.Talks.{Caused}
use Rattle.iam_plan.specs.declared.plan.Plan.{Plan}
use Rattle.iam_plan.specs.declared.plan.Plan.TheVariants.{Apply, Ask}
use Rattle.iam_server.specs.Run.{CameTo, EndsUnopened, EndsWithCause, Outside, WroteLine, status_of}
use Rattle.iam_server.specs.declared.ends.Status.{Status}
use Rattle.iam_server.specs.declared.ends.Status.TheVariants.{Done, Words, Rows, Keeper, ReadFault, WriteFault, ClockFault, Cut, Enough, BadFrame, OutOfMemory}

-- ---- with a conversation

-- the end of the conversation with which a run ends so
abbrev end_of : Status → Option TalkEnd
end_of Done = Some end.Done
end_of Cut = Some end.Cut
end_of BadFrame = Some end.BadFrame
end_of ReadFault = Some end.ReadFault
end_of WriteFault = Some end.WriteFault
end_of ClockFault = Some end.ClockFault
end_of Enough = Some end.Enough
end_of OutOfMemory = Some end.OutOfMemory
end_of status = None

told_end : (e : TalkEnd) → Some e ≡ end_of (status_of e)
told_end end.Done = refl
told_end end.Cut = refl
told_end end.BadFrame = refl
told_end end.ReadFault = refl
told_end end.WriteFault = refl
told_end end.ClockFault = refl
told_end end.Enough = refl
told_end end.OutOfMemory = refl

at_end : (e : TalkEnd) (status other : Status) → status ≡ status_of e → status ≡ other → Some e ≡ end_of other
at_end e status other ends is = told_end e ∙ ap end_of (sym ends ∙ is)

same_end : (a b : TalkEnd) → Some a ≡ Some b → a ≡ b
same_end a b is = cc

no_end : (e : TalkEnd) → Some e ≡ None → ⊥
no_end e is = cc is

-- a conversation has the causes of its end
pub talk_causes : (e : TalkEnd) (status : Status) (k k2 r r2 w w2 c c2 : ℕ) → status ≡ status_of e → Caused e r r2 w w2 c c2 → EndsWithCause status k k2 r r2 w w2 c c2
talk_causes e status k k2 r r2 w w2 c c2 ends causes = record {
  of_keeper = λ is. absurd (no_end e (at_end e status Keeper ends is));
  of_reading = λ is. causes.read (same_end e end.ReadFault (at_end e status ReadFault ends is));
  of_writing = λ is. causes.write (same_end e end.WriteFault (at_end e status WriteFault ends is));
  of_clock = λ is. causes.clock (same_end e end.ClockFault (at_end e status ClockFault ends is));
}

-- ---- without tables

-- a run may end so before its tables are opened
abbrev EndsEarly : Status → Type 0
EndsEarly (Rows fault) = Unit {0}
EndsEarly Keeper = Unit {0}
EndsEarly OutOfMemory = Unit {0}
EndsEarly status = ⊥

ends_early : (opening : Option Opening) (before now : Option (List Row)) (status other : Status) → EndsUnopened opening before now status → status ≡ other → EndsEarly other
ends_early opening before now status other ends is = elim ends.1 [
  | inl refused ↦ subst EndsEarly (sym refused.1 ∙ is) tt
  | inr rest ↦ elim rest [
    | inl failed ↦ subst EndsEarly (sym failed ∙ is) tt
    | inr none ↦ subst EndsEarly (sym none ∙ is) tt
  ]
]

-- only the keeper fails then
pub early_causes : (opening : Option Opening) (before now : Option (List Row)) (status : Status) (k k2 r r2 w w2 c c2 : ℕ) → EndsUnopened opening before now status → (status ≡ Keeper → Rose k k2)
    → EndsWithCause status k k2 r r2 w w2 c c2
early_causes opening before now status k k2 r r2 w w2 c c2 ends keeper = record {
  of_keeper = keeper;
  of_reading = λ is. absurd (ends_early opening before now status ReadFault ends is);
  of_writing = λ is. absurd (ends_early opening before now status WriteFault ends is);
  of_clock = λ is. absurd (ends_early opening before now status ClockFault ends is);
}

-- ---- with a plan

-- without an opening the rows stay as they were
pub same_rows : (before now : Option (List Row)) → IsLeft None before now → now ≡ before
same_rows before now left = elim left [
  | inl same ↦ same
  | inr opened ↦ absurd opened.1
]

-- a run of a plan doesn't end by its words
pub no_words : {L C : Type 0} (plan : Plan) (before now : Outside L C) (status : Status) (trace : List Step) → CameTo plan before now status trace → status ≡ Words → ⊥
no_words (Apply db opening) before now status trace came is = elim came [
  | inl none ↦ ends_early opening before.rows now.rows status Words none.0 is
  | inr talk ↦ no_end talk.talked.0 (at_end talk.talked.0 status Words talk.talked.1 is)
]
no_words (Ask db principal resource permission) before now status trace came is = elim came [
  | inl none ↦ ends_early None before.rows now.rows status Words none.0 is
  | inr told ↦ elim told.told [
    | inl lost ↦ let clash : ClockFault ≡ Words = sym lost.0 ∙ is in cc clash
    | inr line ↦ subst (λ (s : Status). WroteLine s before.taken now.taken (access_line told.tables principal line.0 resource permission)) is line.2
  ]
]
