-- One more message is answered.
use Rattle.std.proofs.Common.{◌≡◌, ℕ, ◌-◌, ◌≤◌, Bool, List, [], ◌∷◌, ◌++◌, Some, None, inl, inr, subst, sym, ◌∙◌, ap, refl, arith, append_assoc, append-nil}
use Rattle.std.specs.declared.option.Option.{Option}
use Rattle.std.proofs.lemmas.List.{take-append-le}
use Rattle.iam_outer.specs.declared.talk.Step.{Step}
use Rattle.iam_outer.specs.declared.talk.Step.TheVariants.{Plain, Served, NoClock, NoKeeper, NoMemory}
use Rattle.iam_types.specs.declared.command.Entry.{Entry}
use Rattle.iam_types.specs.declared.tables.Tables.{Tables}
use Rattle.iam_law.specs.Admit.{admission}
use Rattle.iam_law.specs.History.{state}
use Rattle.iam_model.specs.Commands.{after}
use Rattle.iam_wire.specs.declared.message.Message.{Message}
use Rattle.iam_answer.specs.Answer.{answer_of}
use Rattle.iam_answer.specs.Replies.{served_reply}
use Rattle.iam_office.specs.Asks.{AsksWrite, IsMet}
use Rattle.iam_office.specs.Handled.{Answers}
use Rattle.iam_office.specs.Office.{Number, first, Judged, IsStoredAt}
use Rattle.iam_office.specs.Replied.{Replied, InTurn}
use Rattle.iam_office.specs.Says.{Says, AreSaid, raised}
use Rattle.iam_office.specs.Talks.{Conversed}
use Rattle.iam_office.specs.Turns.{Turn}
use Rattle.iam_office.proofs.Leading.{number_after}

-- ---- a lower least asks less

pub says_lower : (t : Tables) (h : List Entry) (low least : ℕ) (m : Message) (step : Step) (bytes : List ℕ) → low ≤ least → Says t h least m step bytes → Says t h low m step bytes
unfolding Says
says_lower t h low least m Plain bytes le p = p
says_lower t h low least m NoClock bytes le p = p
says_lower t h low least m (NoKeeper x) bytes le p = p
says_lower t h low least m (NoMemory None x) bytes le p = p
says_lower t h low least m (NoMemory (Some n) x) bytes le p = p
says_lower t h low least m (Served n x) bytes le p = (
  p.0,
  p.1,
  elim p.2 [
    | inl floor ↦ inl floor
    | inr (inl read) ↦ inr (inl (read.0, read.1, read.2, omega (arith, read.3), read.4))
    | inr (inr write) ↦ inr (inr write)
  ],
)

-- ---- what may be said stays so when the history grows

-- a floor stays met
pub met_more : (floor : Option ℕ) (low high : ℕ) → low ≤ high → IsMet floor low → IsMet floor high
met_more None low high le met = tt
met_more (Some least) low high le met = omega (arith, le, met)

asks_more : (m : Message) (e : Entry) (t : Tables) (h x : List Entry) → AsksWrite m (Number t h) e → AsksWrite m (Number t (h ++ x)) e
asks_more m e t h x asks = (asks.0, met_more asks.0 (Number t h) (Number t (h ++ x)) (omega (arith, number_after t h x)) asks.1, asks.2)

-- the first entries stay the same
first_same : (t : Tables) (h x : List Entry) (n : ℕ) → n ≤ Number t h → first t n (h ++ x) ≡ first t n h
first_same t h x n le = take-append-le (n - t.org.changes) h x (omega arith)

stored_more : (t : Tables) (h x : List Entry) (n : ℕ) (e : Entry) → IsStoredAt t h n e → IsStoredAt t (h ++ x) n e
unfolding IsStoredAt
stored_more t h x n e p =
    let grown = number_after t h x in
    (p.0, omega (arith, p.1), subst (λ k. admission (state t k) e ≡ None) (sym (first_same t h x (n - 1) (omega (arith, p.1)))) p.2)

pub says_more : (t : Tables) (h x : List Entry) (least : ℕ) (m : Message) (step : Step) (bytes : List ℕ) → Says t h least m step bytes → Says t (h ++ x) least m step bytes
unfolding Says
says_more t h x least m Plain bytes p = p
says_more t h x least m NoClock bytes p = p
says_more t h x least m (NoKeeper y) bytes p = (p.0, asks_more m p.0 t h x p.1, p.2, p.3)
says_more t h x least m (NoMemory None y) bytes p = p
says_more t h x least m (NoMemory (Some n) y) bytes p = (p.0, asks_more m p.0 t h x p.1, p.2, stored_more t h x n p.0 p.3, p.4)
says_more t h x least m (Served n y) bytes p =
    let grown = number_after t h x in
    let same = first_same t h x n p.1 in (
      p.0,
      omega (arith, p.1),
      elim p.2 [
        | inl floor ↦ inl floor
        | inr (inl read) ↦ inr (inl (read.0, read.1, read.2, read.3, read.4 ∙ ap (λ k. served_reply n y (answer_of (state t k) read.1 read.0 y)) (sym same)))
        | inr (inr write) ↦ inr (inr (write.0, asks_more m write.0 t h x write.1, write.2, (write.3.0, subst (λ k. Judged t k write.0 write.3.0) (sym same) write.3.1, write.3.2)))
      ],
    )

-- ---- turns

said_grow : (t : Tables) (h x : List Entry) (least : ℕ) (turns : List Turn) → AreSaid t h least turns → AreSaid t (h ++ x) least turns
unfolding AreSaid
said_grow t h x least [] p = p
said_grow t h x least (turn ∷ turns) p = (says_more t h x least turn.message turn.step turn.reply p.0, said_grow t h x (raised least turn.step) turns p.1)

-- the number of a step is within the history
raised_within : (t : Tables) (h : List Entry) (least top : ℕ) (m : Message) (s : Step) (r : List ℕ) → Says t h least m s r → least ≤ top → Number t h ≤ top → raised least s ≤ top
unfolding Says
raised_within t h least top m Plain r p low le = low
raised_within t h least top m NoClock r p low le = low
raised_within t h least top m (NoKeeper x) r p low le = low
raised_within t h least top m (NoMemory stored x) r p low le = low
raised_within t h least top m (Served n x) r p low le = omega (arith, p.1)

-- one more turn, at a least number that is not below those before
said_one_more : (t : Tables) (h : List Entry) (least top : ℕ) (turns : List Turn) (turn : Turn) (k : List Entry) →
    AreSaid t k least turns → least ≤ top → Number t k ≤ top → AreSaid t h least turns → Says t h top turn.message turn.step turn.reply → AreSaid t h least (turns ++ turn ∷ [])
unfolding AreSaid
said_one_more t h least top [] turn k before low le p says = (says_lower t h least top turn.message turn.step turn.reply low says, tt)
said_one_more t h least top (one ∷ turns) turn k before low le p says =
    (p.0, said_one_more t h (raised least one.step) top turns turn k before.1 (raised_within t k least top one.message one.step one.reply before.0 low le) le p.1 says)

-- ---- where nobody else adds

pub state_in_two : (t : Tables) (es more : List Entry) → state t (es ++ more) ≡ state (state t es) more
state_in_two t [] more = refl
state_in_two t (e ∷ es) more = state_in_two (after t e) es more

in_turn_more : (now : Tables) (turns : List Turn) (turn : Turn) (x y : List Entry) →
    InTurn now turns x → Replied (state now x) turn.message turn.step turn.reply y → InTurn now (turns ++ turn ∷ []) (x ++ y)
unfolding InTurn
in_turn_more now [] turn x y p replied =
    (y, [], ap (λ z. z ++ y) p ∙ sym (append-nil y), subst (λ z. Replied (state now z) turn.message turn.step turn.reply y) p replied, refl)
in_turn_more now (one ∷ turns) turn x y p replied =
    let there : state now x ≡ state (state now p.0) p.1 = ap (state now) p.2 ∙ state_in_two now p.0 p.1 in (
      p.0,
      p.1 ++ y,
      ap (λ k. k ++ y) p.2 ∙ append_assoc p.0 p.1 y,
      p.3,
      in_turn_more (state now p.0) turns turn p.1 y p.4 (subst (λ k. Replied k turn.message turn.step turn.reply y) there replied),
    )

-- ---- the conversation

-- one more message
pub conversed_more : (alone : Bool) (turns : List Turn) (turn : Turn) (t : Tables) (h x y : List Entry) →
    Conversed alone turns t h x → Answers alone turn.message turn.step turn.reply t (h ++ x) y → Conversed alone (turns ++ turn ∷ []) t h (x ++ y)
conversed_more alone turns turn t h x y p q =
    let grown = number_after t h x in (
      subst (λ k. AreSaid t k (Number t h) (turns ++ turn ∷ [])) (append_assoc h x y)
          (said_one_more t ((h ++ x) ++ y) (Number t h) (Number t (h ++ x)) turns turn (h ++ x) p.0 (omega arith) (omega arith) (said_grow t (h ++ x) y (Number t h) turns p.0) q.0),
      λ is. in_turn_more (state t h) turns turn x y (p.1 is) (subst (λ k. Replied k turn.message turn.step turn.reply y) (state_in_two t h x) (q.1 is)),
    )

-- none yet
pub conversed_none : (alone : Bool) (t : Tables) (h : List Entry) → Conversed alone [] t h []
unfolding AreSaid InTurn
conversed_none alone t h = (tt, λ is. refl)
