-- What a floor comes to, and what is answered behind it.
use Rattle.std.proofs.Common.{◌≡◌, ℕ, ◌+◌, ◌<◌, ◌≤◌, Bool, IsTrue, List, [], ◌++◌, Some, None, inl, inr, subst, sym, ◌∙◌, ap, refl, arith, append_assoc, append-nil}
use Rattle.std.specs.Prelude.{Ok, Err}
use Rattle.std.specs.declared.option.Option.{Option}
use Rattle.iam_text.specs.declared.moment.Moment.{Moment}
use Rattle.iam_names.specs.declared.caller.Caller.{Caller}
use Rattle.iam_outer.specs.declared.talk.Step.{Step}
use Rattle.iam_outer.specs.declared.talk.Step.TheVariants.{Served}
use Rattle.iam_types.specs.declared.command.Entry.{Entry}
use Rattle.iam_types.specs.declared.tables.Tables.{Tables}
use Rattle.iam_law.specs.History.{state}
use Rattle.iam_json.specs.declared.call.Call.{Call}
use Rattle.iam_wire.specs.declared.message.Message.{Message}
use Rattle.iam_routes.specs.Asked.{IsAsked}
use Rattle.iam_routes.specs.declared.given.Asked.TheVariants.{Given}
use Rattle.iam_office.specs.Accepted.{accepted_at}
use Rattle.iam_office.specs.Handled.{Answers, Handled, HandledAbove, ReachTold, Reached}
use Rattle.iam_office.specs.Office.{FloorTold, Leads, Number}
use Rattle.iam_office.specs.Replied.{Replied}
use Rattle.iam_office.specs.Replying.{IsUnreached}
use Rattle.iam_office.specs.Says.{Says}
use Rattle.iam_office.specs.declared.floors.Unreached.{Unreached}
use Rattle.iam_office.specs.declared.office.FloorStop.TheVariants as floor_stop
use Rattle.iam_office.specs.declared.floors.Unreached.TheVariants.{Ahead, OutOfMemory}
use Rattle.iam_office.proofs.Answering.{unanswered}
use Rattle.iam_office.proofs.Counting.{count_stays, none_unreached}
use Rattle.iam_office.proofs.Leading.{leads_as, leads_here, leads_on, number_after}
use Rattle.iam_office.proofs.Saying.{says_lower}

-- ---- whether it is reached

-- where none is asked for
pub no_floor : {O T : Type 0} (stands : O → Tables → List Entry → Type 0) (alone : Bool) (o : O) (done : T) → Leads stands o o (ReachTold alone None (Ok done))
no_floor stands alone o done = leads_here stands o (ReachTold alone None (Ok done)) (λ t h. ((tt, λ one. tt), λ one. refl))

reached_told : {T : Type 0} (alone : Bool) (floor : ℕ) (done : T) (t : Tables) (h more : List Entry) → FloorTold alone floor (Ok done) t h more → ReachTold alone (Some floor) (Ok done) t h more
reached_told alone floor done t h more told = (
  (told.0, λ one. let exact = told.1 one in subst (λ (k : List Entry). floor ≤ (state t (h ++ k)).org.changes) (sym exact.0) (subst (λ (k : List Entry). floor ≤ (state t k).org.changes) (sym (append-nil h)) exact.1)),
  λ one. (told.1 one).0,
)

pub floor_reached : {O T : Type 0} (stands : O → Tables → List Entry → Type 0) (alone : Bool) (a b : O) (floor : ℕ) (done : T) → Leads stands a b (FloorTold alone floor (Ok done)) → Leads stands a b (ReachTold alone (Some floor) (Ok done))
floor_reached stands alone a b floor done told = leads_as stands a b (FloorTold alone floor (Ok done)) (ReachTold alone (Some floor) (Ok done)) told (λ t h more is. reached_told alone floor done t h more is)

pub floor_ahead : {O : Type 0} (T : Type 0) (stands : O → Tables → List Entry → Type 0) (alone : Bool) (a b : O) (asked known : ℕ) → Leads stands a b (FloorTold {T = T} alone asked (Err (floor_stop.Ahead known)))
    → Leads stands a b (ReachTold {T = T} alone (Some asked) (Err (Ahead asked known)))
floor_ahead T stands alone a b asked known told =
    leads_as stands a b (FloorTold {T = T} alone asked (Err (floor_stop.Ahead known))) (ReachTold {T = T} alone (Some asked) (Err (Ahead asked known))) told (λ t h more is. (refl, is.0, is.2, is.3, is.4))

-- ---- where it is

-- what is answered behind a floor is answered to the message
answers_on : (alone : Bool) (message : Message) (step : Step) (reply : List ℕ) (t : Tables) (h x y : List Entry) → (IsTrue alone → x ≡ []) → Answers alone message step reply t (h ++ x) y → Answers alone message step reply t h (x ++ y)
answers_on alone message step reply t h x y none p = (
  says_lower t (h ++ (x ++ y)) (Number t h) (Number t (h ++ x)) message step reply (omega (arith, number_after t h x)) (subst (λ k. Says t k (Number t (h ++ x)) message step reply) (append_assoc h x y) p.0),
  λ one. subst (λ (k : List Entry). Replied (state t h) message step reply (k ++ y)) (sym (none one))
      (subst (λ (k : List Entry). Replied (state t k) message step reply y) (ap (λ (k : List Entry). h ++ k) (none one) ∙ append-nil h) (p.1 one)),
)

pub above : {O T : Type 0} (stands : O → Tables → List Entry → Type 0) (accepted : O → ℕ) (alone : Bool) (a b c : O) (floor : Option ℕ) (done : T) (message : Message) (step : Step) (reply : List ℕ) →
    Leads stands a b (ReachTold alone floor (Ok done)) → accepted b ≡ accepted a → HandledAbove stands accepted alone b c floor message step reply → Handled stands accepted alone a c message step reply
above stands accepted alone a b c floor done message step reply told same handled = record {
  answers = leads_on stands a b c (ReachTold alone floor (Ok done)) (λ t h more. Reached alone floor t h → Answers alone message step reply t h more) (Answers alone message step reply) told handled.0
      (λ t h x y reach answers. answers_on alone message step reply t h x y reach.1 (answers reach.0));
  count = omega (arith, handled.1, same);
}

-- ---- where it isn't

ahead : (T : Type 0) (alone : Bool) (message : Message) (caller : Caller) (floor : Option ℕ) (call : Call) (stop : Unreached) (moment : Moment) (step : Step) (bytes : List ℕ) (t : Tables) (h more : List Entry) →
    IsAsked message (Given caller floor call) → IsUnreached stop moment step bytes → ReachTold {T = T} alone floor (Err stop) t h more → Answers alone message step bytes t h more
unfolding Says Replied
ahead T alone message caller floor call (Ahead asked known) moment step bytes t h more is said told =
    let asks : IsAsked message (Given caller (Some asked) call) = subst (λ f. IsAsked message (Given caller f call)) told.0 is in
    elim said [
      | inl served ↦ subst (λ s. Answers alone message s bytes t h more) (sym served.0) (
        (told.2, told.3, inl (asked, (caller, call, asks, told.1), served.1)),
        λ one. let exact = told.4 one in inl (asked, (caller, call, asks, subst (λ n. n < asked) exact.1 told.1), exact.0, exact.1, served.1),
      )
      | inr (inl none) ↦ unanswered alone message (Some moment) step bytes t h more (caller, floor, call, is) none.1 (λ one. (told.4 one).0)
      | inr (inr stored) ↦ absurd (omega (arith, stored.0))
    ]
ahead T alone message caller floor call OutOfMemory moment step bytes t h more is said told = unanswered alone message (Some moment) step bytes t h more (caller, floor, call, is) said told

pub below : {O : Type 0} (T : Type 0) (stands : O → Tables → List Entry → Type 0) (accepted : O → ℕ) (alone : Bool) (a b : O) (message : Message) (caller : Caller) (floor : Option ℕ) (call : Call) (stop : Unreached) (moment : Moment) (step : Step) (reply : List ℕ) →
    Leads stands a b (ReachTold {T = T} alone floor (Err stop)) → accepted b ≡ accepted a → IsAsked message (Given caller floor call) → IsUnreached stop moment step reply → Handled stands accepted alone a b message step reply
below T stands accepted alone a b message caller floor call stop moment step reply told same is said = record {
  answers = leads_as stands a b (ReachTold {T = T} alone floor (Err stop)) (Answers alone message step reply) told (λ t h more reach. ahead T alone message caller floor call stop moment step reply t h more is said reach);
  count = count_stays _ _ _ same (none_unreached message stop moment step reply said);
}
