-- What is bad inside a member or an item, seen from outside.
use Rattle.std.proofs.Common.{◌≡◌, ℕ, ◌+◌, suc, List, [], ◌∷◌, ◌++◌, length, Option, Some, Result, Ok, Err, inl, inr, subst, sym, ap, ◌∙◌, refl, arith, ◌<◌, get_or, take, drop, add-one}
use Rattle.std.proofs.lemmas.List.{take-append-drop, length-take-le}
use Rattle.std.proofs.Math.Seq.{drop-cons, take-suc}
use Rattle.serde_json.specs.Data.{Data}
use Rattle.serde_json.specs.View.{view, items_view}
use Rattle.serde_json.specs.declared.value.Value.{Value}
use Rattle.iam_json_data.specs.declared.stop.BodyStop.{BodyStop}
use Rattle.iam_json_data.specs.declared.stop.BodyStop.TheVariants.{BadJson, BadField, OutOfMemory}
use Rattle.iam_json_data.specs.Path.{item_name}
use Rattle.iam_json_data.specs.Stop.{MovesOut}
use Rattle.iam_json_data.specs.Reading.{Gives, IsBadInside, ReadsItems, ReadsMember, ReadsRequired}

-- a stop that stands outside
abbrev pub MovedBad : {A : Type 0} → (Result A (List ℕ) → Type 0) → List ℕ → BodyStop → Type 0
MovedBad reads name BadJson = ⊥
MovedBad reads name (BadField path) = IsBadInside reads name path
MovedBad reads name OutOfMemory = Unit {0}

pub moved_bad : {A : Type 0} (reads : Result A (List ℕ) → Type 0) (name : List ℕ) (stop moved : BodyStop) → Gives reads (Err stop) → MovesOut name stop moved → MovedBad reads name moved
moved_bad reads name stop OutOfMemory h m = tt
moved_bad reads name BadJson BadJson h m = absurd h
moved_bad reads name (BadField inner) BadJson h m = cc
moved_bad reads name OutOfMemory BadJson h m = cc
moved_bad reads name (BadField inner) (BadField path) h m = (inner, m, h)
moved_bad reads name BadJson (BadField path) h m = absurd m
moved_bad reads name OutOfMemory (BadField path) h m = absurd m

-- ---- members

abbrev says_member : {A : Type 0} → (Data → Result A (List ℕ) → Type 0) → List ℕ → BodyStop → Option Data → Type 0
says_member reads name moved o = Gives (ReadsMember reads name o) (Err moved)

abbrev says_required : {A : Type 0} → (Data → Result A (List ℕ) → Type 0) → List ℕ → BodyStop → Option Data → Type 0
says_required reads name moved o = Gives (ReadsRequired reads name o) (Err moved)

member_at : {A : Type 0} (reads : Data → Result A (List ℕ) → Type 0) (name : List ℕ) (d : Data) (moved : BodyStop) → MovedBad (reads d) name moved → says_member reads name moved (Some d)
member_at reads name d BadJson h = h
member_at reads name d (BadField path) h = h
member_at reads name d OutOfMemory h = h

required_at : {A : Type 0} (reads : Data → Result A (List ℕ) → Type 0) (name : List ℕ) (d : Data) (moved : BodyStop) → MovedBad (reads d) name moved → says_required reads name moved (Some d)
required_at reads name d BadJson h = h
required_at reads name d (BadField path) h = h
required_at reads name d OutOfMemory h = h

pub member_bad : {A : Type 0} (reads : Data → Result A (List ℕ) → Type 0) (name : List ℕ) (o : Option Data) (d : Data) (stop moved : BodyStop)
    → Some d ≡ o → Gives (reads d) (Err stop) → MovesOut name stop moved → Gives (ReadsMember reads name o) (Err moved)
member_bad reads name o d stop moved e h m = subst (says_member reads name moved) e (member_at reads name d moved (moved_bad (reads d) name stop moved h m))

pub required_bad : {A : Type 0} (reads : Data → Result A (List ℕ) → Type 0) (name : List ℕ) (o : Option Data) (d : Data) (stop moved : BodyStop)
    → Some d ≡ o → Gives (reads d) (Err stop) → MovesOut name stop moved → Gives (ReadsRequired reads name o) (Err moved)
required_bad reads name o d stop moved e h m = subst (says_required reads name moved) e (required_at reads name d moved (moved_bad (reads d) name stop moved h m))

pub member_read : {A : Type 0} (reads : Data → Result A (List ℕ) → Type 0) (name : List ℕ) (o : Option Data) (d : Data) (value : A)
    → Some d ≡ o → reads d (Ok value) → ReadsMember reads name o (Ok (Some value))
member_read reads name o d value e h = subst (λ (p : Option Data). ReadsMember reads name p (Ok (Some value))) e h

pub required_read : {A : Type 0} (reads : Data → Result A (List ℕ) → Type 0) (name : List ℕ) (o : Option Data) (d : Data) (value : A)
    → Some d ≡ o → reads d (Ok value) → ReadsRequired reads name o (Ok value)
required_read reads name o d value e h = subst (λ (p : Option Data). ReadsRequired reads name p (Ok value)) e h

-- ---- items

pub items_more : {A : Type 0} (reads : Data → Result A (List ℕ) → Type 0) (place : ℕ) (before : List Value) (values : List A) (v : Value) (value : A)
    → ReadsItems reads place (items_view before) (Ok values) → reads (view v) (Ok value)
    → ReadsItems reads place (items_view (before ++ v ∷ [])) (Ok (values ++ value ∷ []))
items_more reads place [] [] v value h r = (r, refl)
items_more reads place [] (a ∷ values) v value h r = absurd (cc h)
items_more reads place (w ∷ before) [] v value h r = absurd h
items_more reads place (w ∷ before) (a ∷ values) v value h r = (h.0, items_more reads (suc place) before values v value h.1 r)

items_bad_path : {A : Type 0} (reads : Data → Result A (List ℕ) → Type 0) (place n : ℕ) (before rest : List Value) (values : List A) (v : Value) (path : List ℕ)
    → n ≡ place + length before → ReadsItems reads place (items_view before) (Ok values) → IsBadInside (reads (view v)) (item_name n) path
    → ReadsItems reads place (items_view (before ++ v ∷ rest)) (Err path)
items_bad_path reads place n [] rest values v path at h bad =
    let here : n ≡ place = omega arith in
    inl (subst (λ (k : ℕ). IsBadInside (reads (view v)) (item_name k) path) here bad)
items_bad_path reads place n (w ∷ before) rest [] v path at h bad = absurd h
items_bad_path reads place n (w ∷ before) rest (a ∷ values) v path at h bad =
    inr (a, h.0, items_bad_path reads (suc place) n before rest values v path (omega arith) h.1 bad)

pub items_bad : {A : Type 0} (reads : Data → Result A (List ℕ) → Type 0) (n : ℕ) (before rest : List Value) (values : List A) (v : Value) (stop moved : BodyStop)
    → n ≡ length before → ReadsItems reads 0 (items_view before) (Ok values) → Gives (reads (view v)) (Err stop) → MovesOut (item_name n) stop moved
    → Gives (ReadsItems reads 0 (items_view (before ++ v ∷ rest))) (Err moved)
items_bad reads n before rest values v stop BadJson at h bad m = absurd (moved_bad (reads (view v)) (item_name n) stop BadJson bad m)
items_bad reads n before rest values v stop (BadField path) at h bad m =
    items_bad_path reads 0 n before rest values v path (omega arith) h (moved_bad (reads (view v)) (item_name n) stop (BadField path) bad m)
items_bad reads n before rest values v stop OutOfMemory at h bad m = tt

-- ---- a loop over the items, at item i

parts_at : (items : List Value) (i : ℕ) (v d : Value) → i < length items → v ≡ get_or items i d → take i items ++ v ∷ drop (suc i) items ≡ items
parts_at items i v d inside at = ap (λ (w : Value). take i items ++ w ∷ drop (suc i) items) at ∙ ap (λ (ws : List Value). take i items ++ ws) (sym (drop-cons items i d inside)) ∙ take-append-drop i items

pub loop_more : {A : Type 0} (reads : Data → Result A (List ℕ) → Type 0) (items : List Value) (i : ℕ) (values : List A) (v : Value) (value : A)
    → i < length items → v ≡ get_or items i v → ReadsItems reads 0 (items_view (take i items)) (Ok values) → reads (view v) (Ok value)
    → ReadsItems reads 0 (items_view (take (i + 1) items)) (Ok (values ++ value ∷ []))
loop_more reads items i values v value inside at h r =
    let more : take (i + 1) items ≡ take i items ++ v ∷ [] = rw (add-one, take-suc items i v inside) (ap (λ (w : Value). take i items ++ w ∷ []) (sym at)) in
    subst (λ (ws : List Value). ReadsItems reads 0 (items_view ws) (Ok (values ++ value ∷ []))) (sym more) (items_more reads 0 (take i items) values v value h r)

pub loop_bad : {A : Type 0} (reads : Data → Result A (List ℕ) → Type 0) (items : List Value) (i : ℕ) (values : List A) (v : Value) (stop moved : BodyStop)
    → i < length items → v ≡ get_or items i v → ReadsItems reads 0 (items_view (take i items)) (Ok values) → Gives (reads (view v)) (Err stop) → MovesOut (item_name i) stop moved
    → Gives (ReadsItems reads 0 (items_view items)) (Err moved)
loop_bad reads items i values v stop moved inside at h bad m =
    subst (λ (ws : List Value). Gives (ReadsItems reads 0 (items_view ws)) (Err moved)) (parts_at items i v v inside at)
    (items_bad reads i (take i items) (drop (suc i) items) values v stop moved (sym (length-take-le i items (omega arith))) h bad m)
