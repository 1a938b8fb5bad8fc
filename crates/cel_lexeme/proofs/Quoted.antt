-- Strings: what is read as one is one, and the other way round.
use Rattle.std.proofs.Common.{◌≡◌, ℕ, zero, suc, ◌+◌, ◌-◌, ◌<◌, ◌≤◌, Bool, true, false, cond, List, [], ◌∷◌, ◌++◌, length, length-append, length-drop, drop, take, Option, Some, None, refl, sym, ap, ◌∙◌, subst, arith, append_assoc, add-one}
use Rattle.std.specs.Prelude.{◌==◌, ◌&&◌, not, min, slice_index}
use Rattle.std.proofs.lemmas.Bool.{and_parts, and_from, eqb-true, eq-eqb, not-true, and_left, both_ways, false≢true}
use Rattle.std.proofs.Math.Seq.{drop-append_seam}
use Rattle.std.proofs.lemmas.List.{take-append-drop}
use lib.Utf8.{scalar}
use Rattle.cel_lexeme.specs.declared.strings.StringForm.{StringForm}
use Rattle.cel_lexeme.specs.declared.strings.Item.{Item}
use Rattle.cel_lexeme.specs.declared.strings.Item.TheVariants.{Byte, Code}
use Rattle.cel_lexeme.specs.declared.strings.Body as row
use Rattle.cel_lexeme.specs.Lexeme.{Escape, Body, is_quote, quotes, closes, may_stand, utf8}
use Rattle.cel_lexeme.specs.Lexeme as spec
use Rattle.cel_lexeme.specs.Front.{beyond, escape_at, item_at, item_bytes, item_sound, item_len, code_item, behind, with_item, body_from}
use Rattle.cel_lexeme.proofs.Tests.{some_is, take_sum, quote_some, quote_no_backslash, bounded}
use Rattle.cel_lexeme.proofs.Bodies.{passed, behind_first}
use Rattle.cel_lexeme.proofs.Escaping.{found, seen}

-- closing quotes at the front
pub record IsClosed (form : StringForm) (z : List ℕ) : Type 0 where
  pub front : take (length (quotes form)) z ≡ quotes form
  pub within : length (quotes form) ≤ length z

pub closed : (form : StringForm) (z : List ℕ) → is_quote form.quote ≡ true → closes form z ≡ true → IsClosed form z
closed form z q c = go form.long z c
  where
    n : ℕ
    n = form.quote

    nonzero : (z : List ℕ) (k : ℕ) → slice_index z k ≡ n → k < length z
    nonzero z k e = inside z k (omega (arith, quote_some n q))
      where
        inside : (z : List ℕ) (k : ℕ) → 0 < slice_index z k → k < length z
        inside [] k h = absurd (omega (arith, h))
        inside (b ∷ z) zero h = omega arith
        inside (b ∷ z) (suc k) h = omega (arith, inside z k h)

    three : (z : List ℕ) → slice_index z 0 ≡ n → slice_index z 1 ≡ n → slice_index z 2 ≡ n → (take 3 z ≡ n ∷ n ∷ n ∷ []) × (3 ≤ length z)
    three [] e f g = absurd (omega (arith, nonzero [] 0 e))
    three (a ∷ []) e f g = absurd (omega (arith, nonzero (a ∷ []) 1 f))
    three (a ∷ b ∷ []) e f g = absurd (omega (arith, nonzero (a ∷ b ∷ []) 2 g))
    three (a ∷ b ∷ c ∷ z) e f g = (cc, omega arith)

    one : (z : List ℕ) → slice_index z 0 ≡ n → (take 1 z ≡ n ∷ []) × (1 ≤ length z)
    one [] e = absurd (omega (arith, nonzero [] 0 e))
    one (a ∷ z) e = (cc, omega arith)

    go : (long : Bool) (z : List ℕ) → closes (record form { long = long }) z ≡ true → IsClosed (record form { long = long }) z
    go true z c =
        let h = and_parts (slice_index z 0 == n) _ c in
        let k = and_parts (slice_index z 1 == n) _ h.1 in
        let t = three z (eqb-true _ n h.0) (eqb-true _ n k.0) (eqb-true _ n k.1) in
        record { front = t.0; within = t.1 }
    go false z c =
        let h = and_parts (slice_index z 0 == n) _ c in
        let t = one z (eqb-true _ n h.0) in
        record { front = t.0; within = t.1 }

-- a string's body stands at the front
pub record IsBody (form : StringForm) (body : row.Body) (z : List ℕ) : Type 0 where
  pub shown : Body form body.sound body.value (take body.len z)
  pub within : body.len ≤ length z

ends : (form : StringForm) (z : List ℕ) → IsClosed form z → IsBody form (record { value = []; sound = true; len = length (quotes form) }) z
ends form z c = record { shown = subst (Body form true []) (sym c.front) spec.close; within = c.within }

byte_item : (form : StringForm) (b : ℕ) (y : List ℕ) (c : ℕ) → item_at form b y ≡ Some (Byte c) → (b ≡ c) × (may_stand form b ≡ true)
byte_item form b y c e = go (b == 92 && not form.raw) (escape_at y) (may_stand form b) refl e
  where
    go : (t : Bool) (o : Option (ℕ × ℕ)) (u : Bool) → may_stand form b ≡ u → cond t (code_item o) (cond u (Some (Byte b)) None) ≡ Some (Byte c) → (b ≡ c) × (may_stand form b ≡ true)
    go true (Some t) u h e = cc
    go true None u h e = cc
    go false o true h e = (cc, h)
    go false o false h e = cc

code_item_is : (form : StringForm) (b : ℕ) (y : List ℕ) (code len : ℕ) → item_at form b y ≡ Some (Code code len) → (b ≡ 92) × (form.raw ≡ false) × (escape_at y ≡ Some (code, len))
code_item_is form b y code len e = go (b == 92 && not form.raw) (escape_at y) (may_stand form b) refl refl e
  where
    go : (t : Bool) (o : Option (ℕ × ℕ)) (u : Bool) → (b == 92 && not form.raw) ≡ t → escape_at y ≡ o → cond t (code_item o) (cond u (Some (Byte b)) None) ≡ Some (Code code len)
        → (b ≡ 92) × (form.raw ≡ false) × (escape_at y ≡ Some (code, len))
    go true (Some (c, l)) u h k e = let p = and_parts (b == 92) _ h in let same : Some (c, l) ≡ Some (code, len) = cc in (eqb-true b 92 p.0, not-true form.raw p.1, k ∙ same)
    go true None u h k e = cc
    go false o true h k e = cc
    go false o false h k e = cc

-- the quotes stand in the bytes before and in the longer ones alike
index_more : (z r : List ℕ) (k n : ℕ) → 0 < n → slice_index z k ≡ n → slice_index (z ++ r) k ≡ n
index_more [] r k n h e = absurd (omega (arith, e))
index_more (b ∷ z) r zero n h e = e
index_more (b ∷ z) r (suc k) n h e = index_more z r k n h e

pub closes_more : (form : StringForm) (z r : List ℕ) → is_quote form.quote ≡ true → closes form z ≡ true → closes form (z ++ r) ≡ true
closes_more form z r q c = go form.long c
  where
    at : (k : ℕ) → (slice_index z k == form.quote) ≡ true → (slice_index (z ++ r) k == form.quote) ≡ true
    at k e = eq-eqb _ form.quote (index_more z r k form.quote (quote_some form.quote q) (eqb-true _ form.quote e))

    go : (long : Bool) → closes (record form { long = long }) z ≡ true → closes (record form { long = long }) (z ++ r) ≡ true
    go true c =
        let h = and_parts (slice_index z 0 == form.quote) _ c in
        let k = and_parts (slice_index z 1 == form.quote) _ h.1 in
        and_from (slice_index (z ++ r) 0 == form.quote) _ (at 0 h.0) (and_from (slice_index (z ++ r) 1 == form.quote) _ (at 1 k.0) (at 2 k.1))
    go false c =
        let h = and_parts (slice_index z 0 == form.quote) _ c in
        and_from (slice_index (z ++ r) 0 == form.quote) _ (at 0 h.0) refl

pub closes_less : (form : StringForm) (z r : List ℕ) → is_quote form.quote ≡ true → closes form (z ++ r) ≡ false → closes form z ≡ false
closes_less form z r q e = go (closes form z) refl
  where
    go : (t : Bool) → closes form z ≡ t → closes form z ≡ false
    go true c = absurd (both_ways _ e (closes_more form z r q c))
    go false c = c

pub closes_same : (form : StringForm) (z r : List ℕ) → length (quotes form) ≤ length z → closes form (z ++ r) ≡ closes form z
closes_same form z r l = go form.long z l
  where
    go : (long : Bool) (z : List ℕ) → length (quotes (record form { long = long })) ≤ length z → closes (record form { long = long }) (z ++ r) ≡ closes (record form { long = long }) z
    go true [] l = absurd (omega (arith, l))
    go true (a ∷ []) l = absurd (omega (arith, l))
    go true (a ∷ b ∷ []) l = absurd (omega (arith, l))
    go true (a ∷ b ∷ c ∷ z) l = refl
    go false [] l = absurd (omega (arith, l))
    go false (a ∷ z) l = refl

front_open : (form : StringForm) (b : ℕ) (y : List ℕ) (n : ℕ) → is_quote form.quote ≡ true → closes form (b ∷ y) ≡ false → closes form (b ∷ take n y) ≡ false
front_open form b y n q e =
    closes_less form (b ∷ take n y) (drop n y) q (subst (λ (x : List ℕ). closes form (b ∷ x) ≡ false) (sym (take-append-drop n y)) e)

pub joined : (form : StringForm) (b : ℕ) (y : List ℕ) (i : Item) (rest : row.Body) → is_quote form.quote ≡ true → closes form (b ∷ y) ≡ false → item_at form b y ≡ Some i → IsBody form rest (drop (item_len i) (b ∷ y))
    → IsBody form (record { value = item_bytes i ++ rest.value; sound = item_sound i && rest.sound; len = item_len i + rest.len }) (b ∷ y)
joined form b y (Byte c) rest q o e k =
    let h = byte_item form b y c e in
    let shape : take (1 + rest.len) (b ∷ y) ≡ b ∷ take rest.len y = take_sum 1 rest.len (b ∷ y) in
    record {
      shown = subst (Body form rest.sound (c ∷ rest.value)) (sym shape) (subst (λ c. Body form rest.sound (c ∷ rest.value) (b ∷ take rest.len y)) h.0 (spec.plain (front_open form b y rest.len q o) h.1 k.shown));
      within = omega (arith, k.within);
    }
joined form b y (Code code len) rest q o e k =
    let h = code_item_is form b y code len e in
    let s = found y (code, len) h.2 in
    let d : drop (len + 1) (b ∷ y) ≡ drop len y = rw add-one refl in
    let front : take (len + 1) (b ∷ y) ≡ 92 ∷ take len y = rw add-one (ap (λ c. c ∷ take len y) h.0) in
    let shape : take (len + 1 + rest.len) (b ∷ y) ≡ (92 ∷ take len y) ++ take rest.len (drop (len + 1) (b ∷ y))
    = take_sum (len + 1) rest.len (b ∷ y) ∙ ap (λ (x : List ℕ). x ++ take rest.len (drop (len + 1) (b ∷ y))) front in
    let same = bounded s.point in
    let sounds : scalar code ≡ scalar s.point = ap scalar s.code ∙ same.scalar in
    let bytes : utf8 code ≡ utf8 s.point = ap utf8 s.code ∙ same.utf8 in
    let part = take (len + 1 + rest.len) (b ∷ y) in
    record {
      shown =
          subst (λ (t : Bool). Body form (t && rest.sound) (utf8 code ++ rest.value) part) (sym sounds)
          (subst (λ (x : List ℕ). Body form (scalar s.point && rest.sound) (x ++ rest.value) part) (sym bytes)
          (subst (λ (x : List ℕ). Body form (scalar s.point && rest.sound) (utf8 s.point ++ rest.value) x) (sym shape) (spec.escape h.1 s.escape k.shown)));
      within = let w = k.within in omega (arith, length-drop (len + 1) (b ∷ y), s.within);
    }

item_some : (i : Item) → 0 < item_len i
item_some (Byte b) = omega arith
item_some (Code code len) = omega arith

by_rest : (form : StringForm) (b : ℕ) (y : List ℕ) (i : Item) (o : Option row.Body) (body : row.Body) → is_quote form.quote ≡ true → closes form (b ∷ y) ≡ false → item_at form b y ≡ Some i
    → behind (item_bytes i) (item_sound i) (item_len i) o ≡ Some body → ((rest : row.Body) → o ≡ Some rest → IsBody form rest (drop (item_len i) (b ∷ y))) → IsBody form body (b ∷ y)
by_rest form b y i None body q c e h go = cc
by_rest form b y i (Some rest) body q c e h go = subst (λ body. IsBody form body (b ∷ y)) (some_is h) (joined form b y i rest q c e (go rest refl))

by_item : (n : ℕ) (form : StringForm) (b : ℕ) (y : List ℕ) (o : Option Item) (body : row.Body) → is_quote form.quote ≡ true → closes form (b ∷ y) ≡ false → item_at form b y ≡ o
    → with_item (body_from form y) o ≡ Some body → ((z : List ℕ) (rest : row.Body) → length z ≤ length y → body_from form z 0 ≡ Some rest → IsBody form rest z) → IsBody form body (b ∷ y)
by_item n form b y None body q c e h go = cc
by_item n form b y (Some i) body q c e h go =
    let there : body_from form y (item_len i - 1) ≡ body_from form (drop (item_len i) (b ∷ y)) 0 = passed form y (item_len i - 1) ∙ ap (λ z. body_from form z 0) (behind_first b y i) in
    by_rest form b y i (body_from form (drop (item_len i) (b ∷ y)) 0) body q c e (ap (behind (item_bytes i) (item_sound i) (item_len i)) (sym there) ∙ h)
    (λ rest r. go (drop (item_len i) (b ∷ y)) rest (omega (arith, length-drop (item_len i) (b ∷ y), item_some i)) r)

by_close : (form : StringForm) (b : ℕ) (y : List ℕ) (t : Bool) (body : row.Body) → is_quote form.quote ≡ true → closes form (b ∷ y) ≡ t
    → cond t (Some (record { value = []; sound = true; len = length (quotes form) })) (with_item (body_from form y) (item_at form b y)) ≡ Some body
    → ((z : List ℕ) (rest : row.Body) → length z ≤ length y → body_from form z 0 ≡ Some rest → IsBody form rest z) → IsBody form body (b ∷ y)
by_close form b y true body q c h go = subst (λ body. IsBody form body (b ∷ y)) (some_is h) (ends form (b ∷ y) (closed form (b ∷ y) q c))
by_close form b y false body q c h go = by_item 0 form b y (item_at form b y) body q c refl h go

body_within : (n : ℕ) (form : StringForm) (z : List ℕ) (body : row.Body) → length z ≤ n → is_quote form.quote ≡ true → body_from form z 0 ≡ Some body → IsBody form body z
unfolding body_from
body_within n form [] body l q e = cc
body_within zero form (b ∷ y) body l q e = absurd (omega (arith, l))
body_within (suc n) form (b ∷ y) body l q e =
    by_close form b y (closes form (b ∷ y)) body q refl e (λ z rest k. body_within n form z rest (omega (arith, k, l)) q)

-- what is read as a string's body is one
pub body_is : (form : StringForm) (z : List ℕ) (body : row.Body) → is_quote form.quote ≡ true → body_from form z 0 ≡ Some body → IsBody form body z
body_is form z body = body_within (length z) form z body (omega arith)

-- and the other way round
body_long : {form : StringForm} {sound : Bool} {value w : List ℕ} → Body form sound value w → length (quotes form) ≤ length w
body_long spec.close = omega arith
body_long (spec.plain c m body) = omega (arith, body_long body)
body_long (spec.escape {bytes = bytes} {z = z} n e body) = omega (arith, body_long body, length-append bytes z)

abbrev pub IsRead : StringForm → Bool → List ℕ → List ℕ → List ℕ → Type 0
IsRead form sound value w r = body_from form (w ++ r) 0 ≡ Some (record { value = value; sound = sound; len = length w })

pub quotes_close : (form : StringForm) (r : List ℕ) → closes form (quotes form ++ r) ≡ true
quotes_close form r = go form.long
  where
    same : (form.quote == form.quote) ≡ true
    same = eq-eqb form.quote form.quote refl

    go : (long : Bool) → closes (record form { long = long }) (quotes (record form { long = long }) ++ r) ≡ true
    go true = rw same refl
    go false = rw same refl

quotes_read : (form : StringForm) (r : List ℕ) → IsRead form true [] (quotes form) r
unfolding body_from
quotes_read form r = go (quotes form ++ r) (omega (arith, length-append (quotes form) r, some form.long)) (quotes_close form r)
  where
    some : (long : Bool) → 0 < length (quotes (record form { long = long }))
    some true = omega arith
    some false = omega arith

    go : (z : List ℕ) → 0 < length z → closes form z ≡ true → body_from form z 0 ≡ Some (record { value = []; sound = true; len = length (quotes form) })
    go [] l c = absurd (omega (arith, l))
    go (b ∷ z) l c = rw c refl

item_read : (form : StringForm) (b : ℕ) (y : List ℕ) (i : Item) (rest : row.Body) → closes form (b ∷ y) ≡ false → item_at form b y ≡ Some i
    → body_from form (drop (item_len i) (b ∷ y)) 0 ≡ Some rest
    → body_from form (b ∷ y) 0 ≡ Some (record { value = item_bytes i ++ rest.value; sound = item_sound i && rest.sound; len = item_len i + rest.len })
unfolding body_from
item_read form b y i rest c e h =
    rw (c, e) (ap (behind (item_bytes i) (item_sound i) (item_len i)) (passed form y (item_len i - 1) ∙ ap (λ z. body_from form z 0) (behind_first b y i) ∙ h))

byte_read : (form : StringForm) (b : ℕ) (y : List ℕ) → may_stand form b ≡ true → item_at form b y ≡ Some (Byte b)
byte_read form b y m = go (b == 92) form.raw refl refl m
  where
    go : (s raw : Bool) → (b == 92) ≡ s → form.raw ≡ raw → may_stand form b ≡ true → item_at form b y ≡ Some (Byte b)
    go true true h k m = rw (h, k) (rw (rw (h, k) at m) refl)
    go true false h k m = absurd (false≢true (rw (h, k) at m))
    go false raw h k m = rw h (rw (rw h at m) refl)

plain_read : (form : StringForm) (sound : Bool) (b : ℕ) (value z r : List ℕ) → closes form (b ∷ z) ≡ false → length (quotes form) ≤ length z → may_stand form b ≡ true
    → IsRead form sound value z r → IsRead form sound (b ∷ value) (b ∷ z) r
plain_read form sound b value z r c l m h =
    let o : closes form (b ∷ (z ++ r)) ≡ false = closes_same form (b ∷ z) r (omega arith) ∙ c in
    item_read form b (z ++ r) (Byte b) (record { value = value; sound = sound; len = length z }) o (byte_read form b (z ++ r) m) h
    ∙ ap (λ n. Some (record { value = b ∷ value; sound = sound; len = n })) (let e : 1 + length z ≡ suc (length z) = omega arith in e)

escape_read : (form : StringForm) (sound : Bool) (code : ℕ) (bytes value z r : List ℕ) → is_quote form.quote ≡ true → form.raw ≡ false → Escape code bytes
    → IsRead form sound value z r → IsRead form (scalar code && sound) (utf8 code ++ value) (bytes ++ z) r
escape_read form sound code bytes value z r q n e h =
    let s = seen e in
    let m = min code beyond in
    let b = bounded code in
    let y = s.rest ++ (z ++ r) in
    let whole : (bytes ++ z) ++ r ≡ 92 ∷ y = append_assoc bytes z r ∙ ap (λ (x : List ℕ). x ++ (z ++ r)) s.shape in
    let not_yet : closes form (92 ∷ y) ≡ false = and_left (92 == form.quote) _ (quote_no_backslash form.quote q) in
    let item : item_at form 92 y ≡ Some (Code m (length s.rest)) = rw n (ap code_item (s.found (z ++ r))) in
    let d : drop (length s.rest + 1) (92 ∷ y) ≡ z ++ r = rw add-one (drop-append_seam s.rest (z ++ r)) in
    let len : length s.rest + 1 + length z ≡ length (bytes ++ z) = omega (arith, length-append bytes z, ap length s.shape) in
    ap (λ (x : List ℕ). body_from form x 0) whole
    ∙ item_read form 92 y (Code m (length s.rest)) (record { value = value; sound = sound; len = length z }) not_yet item (ap (λ (x : List ℕ). body_from form x 0) d ∙ h)
    ∙ ap (λ k. Some (record { value = utf8 m ++ value; sound = scalar m && sound; len = k })) len
    ∙ ap (λ (x : List ℕ). Some (record { value = x ++ value; sound = scalar m && sound; len = length (bytes ++ z) })) b.utf8
    ∙ ap (λ t. Some (record { value = utf8 code ++ value; sound = t && sound; len = length (bytes ++ z) })) b.scalar

pub read : {form : StringForm} {sound : Bool} {value w : List ℕ} → Body form sound value w → is_quote form.quote ≡ true → (r : List ℕ) → IsRead form sound value w r
read (spec.close {form = form}) q r = quotes_read form r
read (spec.plain {form = form} {sound = sound} {b = b} {value = value} {z = z} c m body) q r =
    plain_read form sound b value z r c (body_long body) m (read body q r)
read (spec.escape {form = form} {sound = sound} {code = code} {bytes = bytes} {value = value} {z = z} n e body) q r =
    escape_read form sound code bytes value z r q n e (read body q r)
