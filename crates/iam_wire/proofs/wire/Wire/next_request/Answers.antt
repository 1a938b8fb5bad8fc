use Rattle.std.proofs.Common.{◌≡◌, ◌≤◌, ◌-◌, ℕ, List, length, take, drop, ap, ◌∙◌, subst, arith}
use Rattle.std.proofs.lemmas.List.{length-drop, take_rest}
use Rattle.iam_wire.specs.Front.{IsMessage}
use Rattle.iam_wire.proofs.Held.{taken_message}
use Rattle.iam_wire.proofs.wire.Wire.next_request.Goals as goal

pub overflow_add-taken : goal.overflow_add-taken
overflow_add-taken c =
    let inside = c.self.inside in
    let here : take (length c.deref.result.now - inside.taken) (drop inside.taken c.deref.result.now) ≡ drop inside.taken inside.held.items =
    take_rest c.deref.result.now inside.taken ∙ ap (λ (bytes : List ℕ). drop inside.taken bytes) c.deref.ensures.value in
    let found = rw c.in-Ok-Took.field-0-is at c.in-Ok-Took.ensures in
    let step : IsMessage (drop inside.taken inside.held.items) c.in-Ok-Took.message (drop c.in-Ok-Took.size (drop inside.taken inside.held.items)) × (c.in-Ok-Took.size ≤ length (drop inside.taken inside.held.items)) =
    subst (λ (bytes : List ℕ). IsMessage bytes c.in-Ok-Took.message (drop c.in-Ok-Took.size bytes) × (c.in-Ok-Took.size ≤ length bytes)) here found in
    omega (arith, step.1, length-drop inside.taken inside.held.items, inside.held.ok.0, c.self.invariant)

pub give_back_room-self-inside-requires : goal.give_back_room-self-inside-requires
give_back_room-self-inside-requires c =
    let inside = c.self.inside in
    let here : take (length c.deref.result.now - inside.taken) (drop inside.taken c.deref.result.now) ≡ drop inside.taken inside.held.items =
    take_rest c.deref.result.now inside.taken ∙ ap (λ (bytes : List ℕ). drop inside.taken bytes) c.deref.ensures.value in
    let found = rw c.in-Ok-Took.field-0-is at c.in-Ok-Took.ensures in
    let step : IsMessage (drop inside.taken inside.held.items) c.in-Ok-Took.message (drop c.in-Ok-Took.size (drop inside.taken inside.held.items)) × (c.in-Ok-Took.size ≤ length (drop inside.taken inside.held.items)) =
    subst (λ (bytes : List ℕ). IsMessage bytes c.in-Ok-Took.message (drop c.in-Ok-Took.size bytes) × (c.in-Ok-Took.size ≤ length bytes)) here found in
    omega (arith, step.1, length-drop inside.taken inside.held.items, inside.held.ok.0, c.self.invariant)

pub returns-in-Ok-Took : goal.returns-in-Ok-Took
returns-in-Ok-Took c =
    let inside = c.self.inside in
    let here : take (length c.deref.result.now - inside.taken) (drop inside.taken c.deref.result.now) ≡ drop inside.taken inside.held.items =
    take_rest c.deref.result.now inside.taken ∙ ap (λ (bytes : List ℕ). drop inside.taken bytes) c.deref.ensures.value in
    let found = rw c.in-Ok-Took.field-0-is at c.in-Ok-Took.ensures in
    let step : IsMessage (drop inside.taken inside.held.items) c.in-Ok-Took.message (drop c.in-Ok-Took.size (drop inside.taken inside.held.items)) × (c.in-Ok-Took.size ≤ length (drop inside.taken inside.held.items)) =
    subst (λ (bytes : List ℕ). IsMessage bytes c.in-Ok-Took.message (drop c.in-Ok-Took.size bytes) × (c.in-Ok-Took.size ≤ length bytes)) here found in
    let after = c.give_back_room-self-inside in
    subst (λ (old : List ℕ). IsMessage old c.in-Ok-Took.message (drop after.result after.new.held.items)) c.self.view_is
    (taken_message inside.held.items after.new.held.items inside.taken c.in-Ok-Took.size after.result c.in-Ok-Took.message step.0 after.ensures.same)
