-- One turn of reading a string, item by item.
use Rattle.std.proofs.Common.{◌≡◌, ℕ, zero, suc, ◌+◌, ◌-◌, ◌<◌, ◌≤◌, Bool, true, false, List, [], ◌∷◌, ◌++◌, length, drop, Option, Some, None, refl, sym, ap, ◌∙◌, arith, append_assoc, append-nil, length-drop, add-one}
use Rattle.std.specs.Prelude.{◌&&◌, slice_index}
use Rattle.cel_lexeme.specs.declared.strings.StringForm.{StringForm}
use Rattle.cel_lexeme.specs.declared.strings.Item.{Item}
use Rattle.cel_lexeme.specs.declared.strings.Item.TheVariants.{Byte, Code}
use Rattle.cel_lexeme.specs.declared.strings.Body.{Body}
use Rattle.cel_lexeme.specs.Lexeme.{closes, quotes}
use Rattle.cel_lexeme.specs.Front.{item_at, item_bytes, item_sound, item_len, behind, with_item, body_from}

-- what is passed over is dropped
pub passed : (form : StringForm) (z : List ℕ) (k : ℕ) → body_from form z k ≡ body_from form (drop k z) 0
unfolding body_from
passed form [] zero = refl
passed form [] (suc k) = refl
passed form (b ∷ z) zero = refl
passed form (b ∷ z) (suc k) = passed form z k

and_assoc : (a b c : Bool) → (a && (b && c)) ≡ ((a && b) && c)
and_assoc true b c = refl
and_assoc false b c = refl

and_true : (a : Bool) → (a && true) ≡ a
and_true true = refl
and_true false = refl

behind_behind : (v w : List ℕ) (s t : Bool) (m n : ℕ) (o : Option Body) → behind v s m (behind w t n o) ≡ behind (v ++ w) (s && t) (m + n) o
behind_behind v w s t m n None = refl
behind_behind v w s t m n (Some body) =
    let e : v ++ (w ++ body.value) ≡ (v ++ w) ++ body.value = sym (append_assoc v w body.value) in
    let f = and_assoc s t body.sound in
    let g : m + (n + body.len) ≡ (m + n) + body.len = omega arith in
    cc

item : (form : StringForm) (b : ℕ) (z : List ℕ) (i : Item) → closes form (b ∷ z) ≡ false → item_at form b z ≡ Some i
    → body_from form (b ∷ z) 0 ≡ with_item (body_from form z) (Some i)
unfolding body_from
item form b z i c e = rw (c, e) refl

pub behind_first : (b : ℕ) (z : List ℕ) (i : Item) → drop (item_len i - 1) z ≡ drop (item_len i) (b ∷ z)
behind_first b z (Byte x) = refl
behind_first b z (Code code len) = let e : len + 1 - 1 ≡ len = omega arith in rw (e, add-one) refl

pub turn : (form : StringForm) (b : ℕ) (z value : List ℕ) (sound : Bool) (i : Item) (n : ℕ) → closes form (b ∷ z) ≡ false → item_at form b z ≡ Some i
    → item_len i ≤ length (b ∷ z) → length (b ∷ z) ≤ n
    → behind value sound (n - length (b ∷ z)) (body_from form (b ∷ z) 0)
    ≡ behind (value ++ item_bytes i) (sound && item_sound i) (n - length (drop (item_len i) (b ∷ z))) (body_from form (drop (item_len i) (b ∷ z)) 0)
turn form b z value sound i n c e fits within =
    let rest = body_from form (drop (item_len i) (b ∷ z)) 0 in
    let one : body_from form (b ∷ z) 0 ≡ behind (item_bytes i) (item_sound i) (item_len i) rest
    = item form b z i c e ∙ ap (behind (item_bytes i) (item_sound i) (item_len i)) (passed form z (item_len i - 1) ∙ ap (λ y. body_from form y 0) (behind_first b z i)) in
    let len : n - length (b ∷ z) + item_len i ≡ n - length (drop (item_len i) (b ∷ z)) = omega (arith, length-drop (item_len i) (b ∷ z)) in
    ap (behind value sound (n - length (b ∷ z))) one
    ∙ behind_behind value (item_bytes i) sound (item_sound i) (n - length (b ∷ z)) (item_len i) rest
    ∙ ap (λ m. behind (value ++ item_bytes i) (sound && item_sound i) m rest) len

pub closed : (form : StringForm) (b : ℕ) (z value : List ℕ) (sound : Bool) (n : ℕ) → closes form (b ∷ z) ≡ true
    → behind value sound n (body_from form (b ∷ z) 0) ≡ Some (record { value = value; sound = sound; len = n + length (quotes form) })
unfolding body_from
closed form b z value sound n c = let e = append-nil value in let f = and_true sound in rw c cc

pub refused : (form : StringForm) (b : ℕ) (z value : List ℕ) (sound : Bool) (n : ℕ) → closes form (b ∷ z) ≡ false → item_at form b z ≡ None
    → behind value sound n (body_from form (b ∷ z) 0) ≡ None
unfolding body_from
refused form b z value sound n c e = rw (c, e) refl

pub ended : (form : StringForm) (value : List ℕ) (sound : Bool) (n : ℕ) → behind value sound n (body_from form [] 0) ≡ None
unfolding body_from
ended form value sound n = refl

-- the same at a text that is not empty
pub turn_at : (form : StringForm) (rest value : List ℕ) (sound : Bool) (i : Item) (n : ℕ) → 0 < length rest → closes form rest ≡ false
    → item_at form (slice_index rest 0) (drop 1 rest) ≡ Some i → item_len i ≤ length rest → length rest ≤ n
    → behind value sound (n - length rest) (body_from form rest 0)
    ≡ behind (value ++ item_bytes i) (sound && item_sound i) (n - length (drop (item_len i) rest)) (body_from form (drop (item_len i) rest) 0)
turn_at form [] value sound i n some = absurd (omega (arith, some))
turn_at form (b ∷ z) value sound i n some = turn form b z value sound i n

pub closed_at : (form : StringForm) (rest value : List ℕ) (sound : Bool) (n : ℕ) → 0 < length rest → closes form rest ≡ true
    → behind value sound n (body_from form rest 0) ≡ Some (record { value = value; sound = sound; len = n + length (quotes form) })
closed_at form [] value sound n some = absurd (omega (arith, some))
closed_at form (b ∷ z) value sound n some = closed form b z value sound n

pub refused_at : (form : StringForm) (rest value : List ℕ) (sound : Bool) (n : ℕ) → 0 < length rest → closes form rest ≡ false
    → item_at form (slice_index rest 0) (drop 1 rest) ≡ None → behind value sound n (body_from form rest 0) ≡ None
refused_at form [] value sound n some = absurd (omega (arith, some))
refused_at form (b ∷ z) value sound n some = refused form b z value sound n

pub ended_at : (form : StringForm) (rest value : List ℕ) (sound : Bool) (n : ℕ) → length rest ≡ 0 → behind value sound n (body_from form rest 0) ≡ None
ended_at form [] value sound n none = ended form value sound n
ended_at form (b ∷ z) value sound n none = absurd (omega (arith, none))
