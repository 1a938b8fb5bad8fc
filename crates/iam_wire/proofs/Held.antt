-- The bytes that a wire holds: those that were taken, and the others.
use Rattle.std.proofs.Common.{◌≡◌, ℕ, ◌+◌, ◌-◌, ◌≤◌, ◌↔◌, List, [], length, take, drop, sym, ap, ◌∙◌, subst, arith, IsTrue, nat_eq}
use Rattle.std.proofs.Math.Seq.{paste}
use Rattle.std.proofs.lemmas.Bool.Decides.{Decides-eqb}
use Rattle.std.proofs.lemmas.List.{take_all, drop_all, drop-drop, length-drop}
use Rattle.std.proofs.lemmas.List.Edits.{take-paste}
use Rattle.iam_wire.specs.Front.{IsMessage}
use Rattle.iam_wire.specs.declared.message.Message.{Message}

pub is_empty_is : (bytes : List ℕ) (taken n : ℕ) → taken ≤ length bytes → n ≡ length bytes → IsTrue (nat_eq taken n) ↔ (drop taken bytes ≡ [])
is_empty_is bytes taken n within long =
    let tells = Decides-eqb taken n in (
      λ t. drop_all taken bytes (omega (arith, tells.0 t)),
      λ e. tells.1 (omega (arith, ap length e, length-drop taken bytes)),
    )

-- what isn't taken comes to the front, and the rest goes
pub given_back : (bytes : List ℕ) (taken left n : ℕ) → taken ≤ length bytes → n ≡ length bytes → left ≡ n - taken
    → take left (paste bytes 0 (drop taken bytes) (n - taken)) ≡ drop taken bytes
given_back bytes taken left n within long is =
    let rest : length (drop taken bytes) ≡ n - taken = length-drop taken bytes ∙ ap (λ k. k - taken) (sym long) in
    let count : left ≡ 0 + (n - taken) = omega (arith, is) in
    ap (λ k. take k (paste bytes 0 (drop taken bytes) (n - taken))) count
    ∙ take-paste bytes 0 (drop taken bytes) (n - taken) (omega arith) (omega (arith, rest))
    ∙ take_all (n - taken) (drop taken bytes) (omega (arith, rest))

-- a message at the front of what isn't taken
pub taken_message : (bytes held : List ℕ) (taken size still : ℕ) (message : Message) → IsMessage (drop taken bytes) message (drop size (drop taken bytes))
    → drop still held ≡ drop (taken + size) bytes → IsMessage (drop taken bytes) message (drop still held)
taken_message bytes held taken size still message x same =
    subst (IsMessage (drop taken bytes) message) (drop-drop size taken bytes ∙ sym same) x
