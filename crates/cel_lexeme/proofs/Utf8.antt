-- Where a text is cut: before and behind bytes of ASCII.
use Rattle.std.proofs.Common.{◌≡◌, ℕ, suc, ◌+◌, ◌<◌, Bool, true, false, cond, List, [], ◌∷◌, ◌++◌, length, length-append, drop, get_or, refl, sym, ap, ◌∙◌, subst, arith, append_assoc, append-nil, add-one}
use Rattle.std.specs.Str.{IsUtf8, IsAscii}
use Rattle.std.proofs.lemmas.Str.{IsUtf8-nil, IsUtf8-append, IsUtf8-encode, IsUtf8-take, IsUtf8-drop, IsCharBoundary-before_ascii, IsCharBoundary-after_ascii}
use Rattle.std.proofs.Math.Seq.{take-append_seam, drop-append_seam}
use lib.Utf8.{scalar}
use Rattle.cel_lexeme.specs.declared.strings.StringForm.{StringForm}
use Rattle.cel_lexeme.specs.Lexeme.{Body, is_quote, quotes, utf8}
use Rattle.cel_lexeme.specs.Lexeme as spec
use Rattle.cel_lexeme.proofs.Tests.{quote_ascii}
use Rattle.cel_lexeme.proofs.Escaping.{seen}

seam : (run z : List ℕ) (b : ℕ) → get_or (run ++ (b ∷ z)) (length run) 0 ≡ b
seam [] z b = refl
seam (a ∷ run) z b = seam run z b

drop_more : (run z : List ℕ) (b : ℕ) → drop (length run + 1) (run ++ (b ∷ z)) ≡ z
drop_more run z b = rw add-one (go run)
  where
    go : (run : List ℕ) → drop (suc (length run)) (run ++ (b ∷ z)) ≡ z
    go [] = refl
    go (a ∷ run) = go run

inside : (run z : List ℕ) (b : ℕ) → length run < length (run ++ (b ∷ z))
inside run z b = omega (arith, length-append run (b ∷ z))

pub cut_before : (run z : List ℕ) (b : ℕ) → b < 128 → IsUtf8 (run ++ (b ∷ z)) → IsUtf8 run
cut_before run z b l u =
    let a : get_or (run ++ (b ∷ z)) (length run) 0 < 128 = rw (seam run z b) l in
    subst IsUtf8 (take-append_seam run (b ∷ z)) (IsUtf8-take (run ++ (b ∷ z)) (length run) u (IsCharBoundary-before_ascii (run ++ (b ∷ z)) (length run) (inside run z b) a))

pub cut_behind : (run z : List ℕ) (b : ℕ) → b < 128 → IsUtf8 (run ++ (b ∷ z)) → IsUtf8 z
cut_behind run z b l u =
    let a : get_or (run ++ (b ∷ z)) (length run) 0 < 128 = rw (seam run z b) l in
    subst IsUtf8 (drop_more run z b) (IsUtf8-drop (run ++ (b ∷ z)) (length run + 1) u (IsCharBoundary-after_ascii (run ++ (b ∷ z)) (length run) u (inside run z b) a))

pub cut_from : (run z : List ℕ) (b : ℕ) → b < 128 → IsUtf8 (run ++ (b ∷ z)) → IsUtf8 (b ∷ z)
cut_from run z b l u =
    let a : get_or (run ++ (b ∷ z)) (length run) 0 < 128 = rw (seam run z b) l in
    subst IsUtf8 (drop-append_seam run (b ∷ z)) (IsUtf8-drop (run ++ (b ∷ z)) (length run) u (IsCharBoundary-before_ascii (run ++ (b ∷ z)) (length run) (inside run z b) a))

-- what stands behind bytes of ASCII
pub behind_ascii : (bytes z : List ℕ) → IsAscii bytes → IsUtf8 (bytes ++ z) → IsUtf8 z
behind_ascii [] z a u = u
behind_ascii (b ∷ bytes) z a u = behind_ascii bytes z (λ i. a (suc i)) (cut_behind [] (bytes ++ z) b (a 0) u)

utf8_is : (code : ℕ) → IsUtf8 (utf8 code)
utf8_is code = go (scalar code) refl
  where
    go : (t : Bool) → scalar code ≡ t → IsUtf8 (utf8 code)
    go true h = rw h (IsUtf8-encode code h)
    go false h = rw h IsUtf8-nil

quotes_ascii : (form : StringForm) → is_quote form.quote ≡ true → (z : List ℕ) → IsUtf8 (quotes form ++ z) → IsUtf8 z
quotes_ascii form q z u = go form.long u
  where
    l : form.quote < 128
    l = quote_ascii form.quote q

    go : (long : Bool) → IsUtf8 (cond long (form.quote ∷ form.quote ∷ form.quote ∷ []) (form.quote ∷ []) ++ z) → IsUtf8 z
    go true u = cut_behind [] z form.quote l (cut_behind [] _ form.quote l (cut_behind [] _ form.quote l u))
    go false u = cut_behind [] z form.quote l u

pub opened : (form : StringForm) (z : List ℕ) → is_quote form.quote ≡ true → IsUtf8 (quotes form ++ z) → IsUtf8 z
opened form z q u = quotes_ascii form q z u

before_quotes : (form : StringForm) (run z : List ℕ) → is_quote form.quote ≡ true → IsUtf8 (run ++ (quotes form ++ z)) → IsUtf8 run
before_quotes form run z q u = go form.long u
  where
    l : form.quote < 128
    l = quote_ascii form.quote q

    go : (long : Bool) → IsUtf8 (run ++ (cond long (form.quote ∷ form.quote ∷ form.quote ∷ []) (form.quote ∷ []) ++ z)) → IsUtf8 run
    go true u = cut_before run _ form.quote l u
    go false u = cut_before run _ form.quote l u

from_quotes : (form : StringForm) (run z : List ℕ) → is_quote form.quote ≡ true → IsUtf8 (run ++ (quotes form ++ z)) → IsUtf8 (quotes form ++ z)
from_quotes form run z q u = go form.long u
  where
    l : form.quote < 128
    l = quote_ascii form.quote q

    go : (long : Bool) → IsUtf8 (run ++ (cond long (form.quote ∷ form.quote ∷ form.quote ∷ []) (form.quote ∷ []) ++ z)) → IsUtf8 (cond long (form.quote ∷ form.quote ∷ form.quote ∷ []) (form.quote ∷ []) ++ z)
    go true u = cut_from run _ form.quote l u
    go false u = cut_from run _ form.quote l u

-- the value of a string is a text, and what stands behind it
pub record IsCut (run text behind : List ℕ) : Type 0 where
  pub value : IsUtf8 (run ++ text)
  pub rest : IsUtf8 behind

escaped : (code : ℕ) (bytes run value z r : List ℕ) → spec.Escape code bytes → IsUtf8 (run ++ ((bytes ++ z) ++ r)) → (IsUtf8 ([] ++ (z ++ r)) → IsCut [] value r) → IsCut run (utf8 code ++ value) r
escaped code bytes run value z r e u go =
    let s = seen e in
    let shape : (bytes ++ z) ++ r ≡ 92 ∷ (s.rest ++ (z ++ r)) = append_assoc bytes z r ∙ ap (λ (y : List ℕ). y ++ (z ++ r)) s.shape in
    let v : IsUtf8 (run ++ (92 ∷ (s.rest ++ (z ++ r)))) = subst (λ (y : List ℕ). IsUtf8 (run ++ y)) shape u in
    let before = cut_before run _ 92 (omega arith) v in
    let from : IsUtf8 (bytes ++ (z ++ r)) = subst IsUtf8 (sym (ap (λ (y : List ℕ). y ++ (z ++ r)) s.shape)) (cut_from run _ 92 (omega arith) v) in
    let rest = go (behind_ascii bytes (z ++ r) s.ascii from) in
    record { value = IsUtf8-append run (utf8 code ++ value) before (IsUtf8-append (utf8 code) value (utf8_is code) rest.value); rest = rest.rest }

pub cut : {form : StringForm} {sound : Bool} {value w : List ℕ} → Body form sound value w → is_quote form.quote ≡ true → (run r : List ℕ) → IsUtf8 (run ++ (w ++ r)) → IsCut run value r
cut (spec.close {form = form}) q run r u =
    record { value = subst IsUtf8 (sym (append-nil run)) (before_quotes form run r q u); rest = quotes_ascii form q r (from_quotes form run r q u) }
cut (spec.plain {form = form} {b = b} {value = value} {z = z} c m body) q run r u =
    let k = cut body q (run ++ b ∷ []) r (subst IsUtf8 (sym (append_assoc run (b ∷ []) (z ++ r))) u) in
    record { value = subst IsUtf8 (append_assoc run (b ∷ []) value) k.value; rest = k.rest }
cut (spec.escape {form = form} {code = code} {bytes = bytes} {value = value} {z = z} n e body) q run r u =
    escaped code bytes run value z r e u (cut body q [] r)
