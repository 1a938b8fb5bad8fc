-- The values of a name, a header at a time.
use Rattle.std.proofs.Common.{◌≡◌, ℕ, ◌+◌, ◌<◌, ◌≤◌, List, [], ◌∷◌, length, map, get_or, drop, Bool, true, false, refl, sym, ap, ◌∙◌, add-one, IsTrue, ◌↔◌}
use Rattle.std.proofs.Math.Seq.{drop-cons}
use Rattle.std.proofs.lemmas.List.{drop_all}
use Rattle.std.proofs.lemmas.Bool.Decides.{same_from_decides}
use Rattle.std.proofs.lemmas.Slice.Eq.{bytes_eq-Decides}
use Rattle.std.specs.Char.{to_ascii_lowercase}
use Rattle.std.specs.Str.{str_eq_ignore_ascii_case}
use Rattle.httparse.specs.declared.spans.HeaderSpan.{HeaderSpan}
use Rattle.httparse.specs.Spans.{header_bytes, span_bytes}
use Rattle.iam_wire.specs.Fields.{values_named}

-- what stands past the headers
abbrev pub none_span : HeaderSpan
none_span = record { name = record { start = 0; end = 0 }; value = record { start = 0; end = 0 } }

-- the values that the headers from i on give
abbrev pub left : List ℕ → List ℕ → List HeaderSpan → ℕ → List (List ℕ)
left name buf headers i = values_named name (map (header_bytes buf) (drop i headers))

pub same_name : (r : Bool) (a b : List ℕ) → (IsTrue r ↔ (map to_ascii_lowercase a ≡ map to_ascii_lowercase b)) → r ≡ str_eq_ignore_ascii_case a b
same_name r a b test = same_from_decides r _ test (bytes_eq-Decides _ _)

front : (name buf : List ℕ) (headers : List HeaderSpan) (i : ℕ) (d : HeaderSpan) → i < length headers
    → left name buf headers i ≡ values_named name (header_bytes buf (get_or headers i d) ∷ map (header_bytes buf) (drop (i + 1) headers))
front name buf headers i d within = rw (add-one, drop-cons headers i d) refl

taken : (name buf : List ℕ) (h : HeaderSpan) (fields : List (List ℕ × List ℕ)) → str_eq_ignore_ascii_case (span_bytes buf h.name) name ≡ true
    → values_named name (header_bytes buf h ∷ fields) ≡ span_bytes buf h.value ∷ values_named name fields
taken name buf h fields same = rw same refl

passed : (name buf : List ℕ) (h : HeaderSpan) (fields : List (List ℕ × List ℕ)) → str_eq_ignore_ascii_case (span_bytes buf h.name) name ≡ false
    → values_named name (header_bytes buf h ∷ fields) ≡ values_named name fields
passed name buf h fields other = rw other refl

-- a header of the name gives its value
pub left_named : (name buf given : List ℕ) (headers : List HeaderSpan) (i : ℕ) (d : HeaderSpan) (same : Bool) → i < length headers
    → given ≡ span_bytes buf (get_or headers i d).name → (IsTrue same ↔ (map to_ascii_lowercase given ≡ map to_ascii_lowercase name)) → same ≡ true
    → left name buf headers i ≡ span_bytes buf (get_or headers i d).value ∷ left name buf headers (i + 1)
left_named name buf given headers i d same within is test named =
    front name buf headers i d within ∙ taken name buf (get_or headers i d) _ (ap (λ m. str_eq_ignore_ascii_case m name) (sym is) ∙ sym (same_name same given name test) ∙ named)

-- another header gives nothing
pub left_other : (name buf given : List ℕ) (headers : List HeaderSpan) (i : ℕ) (d : HeaderSpan) (same : Bool) → i < length headers
    → given ≡ span_bytes buf (get_or headers i d).name → (IsTrue same ↔ (map to_ascii_lowercase given ≡ map to_ascii_lowercase name)) → same ≡ false
    → left name buf headers i ≡ left name buf headers (i + 1)
left_other name buf given headers i d same within is test other =
    front name buf headers i d within ∙ passed name buf (get_or headers i d) _ (ap (λ m. str_eq_ignore_ascii_case m name) (sym is) ∙ sym (same_name same given name test) ∙ other)

-- past the last header nothing is left
pub left_none : (name buf : List ℕ) (headers : List HeaderSpan) (i : ℕ) → length headers ≤ i → left name buf headers i ≡ []
left_none name buf headers i past = rw (drop_all i headers past) refl
