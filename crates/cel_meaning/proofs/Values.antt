-- The tests of values decide what the rules of meaning ask for, at values of kinds.
use Rattle.std.proofs.Common.{◌≡◌, ℕ, zero, suc, Bool, true, false, ◌||◌, List, [], ◌∷◌, refl, sym, ap, ◌∙◌, subst, arith, ℤ, ◌<ℤ◌, int_eq, Contains}
use Rattle.std.specs.Bool.{Decides}
use Rattle.std.specs.Cmp.Lexicographic.{slice_cmp}
use Rattle.std.specs.Int.RustNames.{int_lt}
use Rattle.std.specs.Ordering.{nat_cmp}
use Rattle.std.specs.Str.{bytes_eq}
use Rattle.std.specs.declared.cmp.Ordering.{Ordering}
use Rattle.std.specs.declared.cmp.Ordering.TheVariants.{Less, Equal, Greater}
use Rattle.std.proofs.lemmas.Bool.{true≢false, and_parts, and_from}
use Rattle.std.proofs.lemmas.Bool.Decides.{Decides-int_eq}
use Rattle.std.proofs.lemmas.List.Elements.{Contains-append_right}
use Rattle.std.proofs.lemmas.Map.Made.{Contains-tail}
use Rattle.std.proofs.lemmas.Slice.Eq.{bytes_eq-Decides}
use Rattle.jiff_core.proofs.SignedLemmas.{signed_arith}
use Rattle.cel_value.specs.declared.value.Value.{Value, ind-Value, out-Value, roll-Value}
use Rattle.cel_value.specs.declared.value.Value.TheOpen.{Value-F}
use Rattle.cel_value.specs.declared.value.Value.TheVariants as value
use Rattle.cel_value.specs.declared.value.Value.TheVariants.{outs-Bool, outs-Int, outs-Str, outs-Time, outs-Length, outs-Many, rolls-Bool, rolls-Int, rolls-Str, rolls-Time, rolls-Length, rolls-Many}
use Rattle.cel_types.specs.declared.kind.Base.{Base}
use Rattle.cel_types.specs.declared.kind.Base.TheVariants as base
use Rattle.cel_types.specs.declared.kind.Kind.{Kind}
use Rattle.cel_types.specs.declared.kind.Kind.TheVariants.{One, Many}
use Rattle.cel_types.specs.HasKind.{is_ordered_base}
use Rattle.cel_types.specs.Means.{AllIn, IsBelow}
use Rattle.cel_types.specs.OfKind.{AllHaveBase, IsOf, layer_has_base, layer_is_of}
use Rattle.cel_meaning.specs.Values.{all_in, is_below, is_in, is_less, is_same, same_items, same_layer, same_truth, same_value}

abbrev pub HasBase : Value → Base → Type 0
HasBase v b = layer_has_base (out-Value v) b

no : {X : Type 0} → false ≡ true → X
no e = absurd (true≢false (sym e))

-- a test that decides what stands inside decides the whole
carried : {A : Type 0} (f : A → Value) (same : Bool) (a b : A) → (f a ≡ f b → a ≡ b) → Decides same (a ≡ b) → Decides same (f a ≡ f b)
carried f same a b back d = (λ e. ap f (d.0 e), λ e. d.1 (back e))

bools : (a b : Bool) → Decides (same_truth a b) (a ≡ b)
bools true true = (λ e. refl, λ e. refl)
bools true false = (λ e. no e, λ e. no (sym e))
bools false true = (λ e. no e, λ e. no e)
bools false false = (λ e. refl, λ e. refl)

bool_back : (a b : Bool) → value.Bool a ≡ value.Bool b → a ≡ b
bool_back a b e = let f = sym (outs-Bool a) ∙ ap out-Value e ∙ outs-Bool b in cc f

int_back : (a b : ℤ) → value.Int a ≡ value.Int b → a ≡ b
int_back a b e = let f = sym (outs-Int a) ∙ ap out-Value e ∙ outs-Int b in cc f

str_back : (a b : List ℕ) → value.Str a ≡ value.Str b → a ≡ b
str_back a b e = let f = sym (outs-Str a) ∙ ap out-Value e ∙ outs-Str b in cc f

time_back : (a b : ℤ) → value.Time a ≡ value.Time b → a ≡ b
time_back a b e = let f = sym (outs-Time a) ∙ ap out-Value e ∙ outs-Time b in cc f

length_back : (a b : ℤ) → value.Length a ≡ value.Length b → a ≡ b
length_back a b e = let f = sym (outs-Length a) ∙ ap out-Value e ∙ outs-Length b in cc f

many_back : (a b : List Value) → value.Many a ≡ value.Many b → a ≡ b
many_back a b e = let f = sym (outs-Many a) ∙ ap out-Value e ∙ outs-Many b in cc f

pub same_decides : (b : Base) (v w : Value) → HasBase v b → HasBase w b → Decides (is_same v w) (v ≡ w)
unfolding out-Value denote.Hole.Carrier.out
same_decides base.Bool (value.Bool m) (value.Bool n) h i = carried (λ z. value.Bool z) (same_truth m n) m n (bool_back m n) (bools m n)
same_decides base.Bool (value.Bool m) _ h i = absurd i
same_decides base.Bool _ w h i = absurd h
same_decides base.Int (value.Int m) (value.Int n) h i = carried (λ z. value.Int z) (int_eq m n) m n (int_back m n) (Decides-int_eq m n)
same_decides base.Int (value.Int m) _ h i = absurd i
same_decides base.Int _ w h i = absurd h
same_decides base.Str (value.Str m) (value.Str n) h i = carried (λ z. value.Str z) (bytes_eq m n) m n (str_back m n) (bytes_eq-Decides m n)
same_decides base.Str (value.Str m) _ h i = absurd i
same_decides base.Str _ w h i = absurd h
same_decides base.Time (value.Time m) (value.Time n) h i = carried (λ z. value.Time z) (int_eq m n) m n (time_back m n) (Decides-int_eq m n)
same_decides base.Time (value.Time m) _ h i = absurd i
same_decides base.Time _ w h i = absurd h
same_decides base.Length (value.Length m) (value.Length n) h i = carried (λ z. value.Length z) (int_eq m n) m n (length_back m n) (Decides-int_eq m n)
same_decides base.Length (value.Length m) _ h i = absurd i
same_decides base.Length _ w h i = absurd h

-- a list of the items decides the list
items_decide : (b : Base) (vs ws : List Value) → AllHaveBase b vs → AllHaveBase b ws → Decides (same_items vs ws) (vs ≡ ws)
items_decide b [] [] h i = (λ e. refl, λ e. refl)
items_decide b [] (w ∷ ws) h i = (λ e. no e, λ e. absurd (let P : ⊥ = cc in P))
items_decide b (v ∷ vs) [] h i = (λ e. no e, λ e. absurd (let P : ⊥ = cc in P))
items_decide b (v ∷ vs) (w ∷ ws) h i =
    let first = same_decides b v w h.0 i.0 in
    let rest = items_decide b vs ws h.1 i.1 in (
      λ e. both (first.0 (and_parts _ _ e).0) (rest.0 (and_parts _ _ e).1),
      λ e. and_from _ _ (first.1 (head e)) (rest.1 (tail e)),
    )
  where
    both : v ≡ w → vs ≡ ws → v ∷ vs ≡ w ∷ ws
    both p q = ap (λ z. z ∷ vs) p ∙ ap (λ z. w ∷ z) q

    head : v ∷ vs ≡ w ∷ ws → v ≡ w
    head e = cc

    tail : v ∷ vs ≡ w ∷ ws → vs ≡ ws
    tail e = cc

same_single : (b : Base) (v w : Value) → HasBase v b → HasBase w b → same_value v w ≡ is_same v w
unfolding out-Value denote.Hole.Carrier.out
same_single base.Bool (value.Bool m) (value.Bool n) h i = refl
same_single base.Bool (value.Bool m) _ h i = absurd i
same_single base.Bool _ w h i = absurd h
same_single base.Int (value.Int m) (value.Int n) h i = refl
same_single base.Int (value.Int m) _ h i = absurd i
same_single base.Int _ w h i = absurd h
same_single base.Str (value.Str m) (value.Str n) h i = refl
same_single base.Str (value.Str m) _ h i = absurd i
same_single base.Str _ w h i = absurd h
same_single base.Time (value.Time m) (value.Time n) h i = refl
same_single base.Time (value.Time m) _ h i = absurd i
same_single base.Time _ w h i = absurd h
same_single base.Length (value.Length m) (value.Length n) h i = refl
same_single base.Length (value.Length m) _ h i = absurd i
same_single base.Length _ w h i = absurd h

-- a value of a single kind
pub single : (b : Base) (v : Value) → IsOf v (One b) → HasBase v b
unfolding out-Value denote.Hole.Carrier.out
single b (value.Bool x) h = h
single b (value.Int x) h = h
single b (value.Str x) h = h
single b (value.Time x) h = h
single b (value.Length x) h = h
single b _ h = h

-- a value that is a list
pub at_many : (b : Base) (P : Value → Type 0) → ((vs : List Value) → AllHaveBase b vs → P (value.Many vs)) → (v : Value) → IsOf v (Many b) → P v
at_many b P f v h = ind-Value (λ z. IsOf z (Many b) → P z) (λ x y is. by x) v h
  where
    none : (x : Value-F Value) (z : Value) → roll-Value x ≡ z → out-Value z ≡ x → layer_is_of x (Many b) ≡ ⊥ → IsOf (roll-Value x) (Many b) → ⊥
    none x z rolls outs never h = subst (λ t. t) never (subst (λ t. layer_is_of t (Many b)) (ap out-Value rolls ∙ outs) h)

    by : (x : Value-F Value) → IsOf (roll-Value x) (Many b) → P (roll-Value x)
    by (Value-F.Bool c) h = absurd (none (Value-F.Bool c) (value.Bool c) (rolls-Bool c) (outs-Bool c) refl h)
    by (Value-F.Int c) h = absurd (none (Value-F.Int c) (value.Int c) (rolls-Int c) (outs-Int c) refl h)
    by (Value-F.Str c) h = absurd (none (Value-F.Str c) (value.Str c) (rolls-Str c) (outs-Str c) refl h)
    by (Value-F.Time c) h = absurd (none (Value-F.Time c) (value.Time c) (rolls-Time c) (outs-Time c) refl h)
    by (Value-F.Length c) h = absurd (none (Value-F.Length c) (value.Length c) (rolls-Length c) (outs-Length c) refl h)
    by (Value-F.Many vs) h =
        subst P (sym (rolls-Many vs)) (f vs (subst (λ t. layer_is_of t (Many b)) (ap out-Value (rolls-Many vs) ∙ outs-Many vs) h))

same_many : (vs ws : List Value) → same_value (value.Many vs) (value.Many ws) ≡ same_items vs ws
same_many vs ws =
    ap (λ z. same_layer z (out-Value (value.Many ws))) (outs-Many vs) ∙ ap (λ z. same_layer (Value-F.Many vs) z) (outs-Many ws)

-- values of one kind are told apart
pub value_decides : (k : Kind) (v w : Value) → IsOf v k → IsOf w k → Decides (same_value v w) (v ≡ w)
unfolding out-Value denote.Hole.Carrier.out
value_decides (One b) v w h i =
    subst (λ z. Decides z (v ≡ w)) (sym (same_single b v w (single b v h) (single b w i)))
    (same_decides b v w (single b v h) (single b w i))
value_decides (Many b) v w h i =
    at_many b (λ z. Decides (same_value z w) (z ≡ w)) (λ vs all.
    at_many b (λ z. Decides (same_value (value.Many vs) z) (value.Many vs ≡ z)) (λ ws also.
    subst (λ z. Decides z (value.Many vs ≡ value.Many ws)) (sym (same_many vs ws))
    (carried (λ z. value.Many z) (same_items vs ws) vs ws (many_back vs ws) (items_decide b vs ws all also))) w i) v h

pub in_decides : (b : Base) (v : Value) (ws : List Value) → HasBase v b → AllHaveBase b ws → Decides (is_in v ws) (Contains ws v)
in_decides b v [] h i = (λ e. no e, λ e. absurd (omega arith))
in_decides b v (w ∷ ws) h i = by (is_same v w) (same_decides b v w h i.0) (in_decides b v ws h i.1)
  where
    by : (same : Bool) → Decides same (v ≡ w) → Decides (is_in v ws) (Contains ws v) → Decides (same || is_in v ws) (Contains (w ∷ ws) v)
    by true d r = (λ _. (0, omega arith, sym (d.0 refl)), λ _. refl)
    by false d r = (
      λ e. Contains-append_right (w ∷ []) ws v (r.0 e),
      λ e. r.1 (Contains-tail w ws v (λ p. absurd (true≢false (sym (d.1 (sym p))))) e),
    )

contains_first : (v : Value) (vs : List Value) → Contains (v ∷ vs) v
contains_first v vs = (0, omega arith, refl)

-- what all items of the first list are in, its first item and the others are in
all_in_cases : (v : Value) (vs ws : List Value) → Contains ws v → AllIn vs ws → AllIn (v ∷ vs) ws
all_in_cases v vs ws first rest u (zero, within, is) = subst (λ z. Contains ws z) is first
all_in_cases v vs ws first rest u (suc k, within, is) = rest u (k, omega (arith, within), is)

pub all_in_decides : (b : Base) (vs ws : List Value) → AllHaveBase b vs → AllHaveBase b ws → Decides (all_in vs ws) (AllIn vs ws)
all_in_decides b [] ws h i = (λ e u c. absurd (omega (arith, c.1)), λ e. refl)
all_in_decides b (v ∷ vs) ws h i =
    let first = in_decides b v ws h.0 i in
    let rest = all_in_decides b vs ws h.1 i in (
      λ e. all_in_cases v vs ws (first.0 (and_parts _ _ e).0) (rest.0 (and_parts _ _ e).1),
      λ e. and_from _ _ (first.1 (e v (contains_first v vs))) (rest.1 (λ u c. e u (Contains-append_right (v ∷ []) vs u c))),
    )

-- ---- order

below_number : (m n : ℤ) → Decides (int_lt m n) (m <ℤ n)
below_number m n = by (int_lt m n) refl
  where
    by : (b : Bool) → int_lt m n ≡ b → Decides b (m <ℤ n)
    by true is = (λ e. omega (arith, signed_arith, is), λ h. refl)
    by false is = (λ e. no e, λ h. absurd (omega (arith, signed_arith, is, h)))

below_text : (o : Ordering) → Decides (is_less o) (o ≡ Less)
below_text Less = (λ e. refl, λ e. refl)
below_text Equal = (λ e. no e, λ e. absurd (let P : ⊥ = cc in P))
below_text Greater = (λ e. no e, λ e. absurd (let P : ⊥ = cc in P))

-- the kinds that are ordered
pub below_decides : (b : Base) (v w : Value) → is_ordered_base b ≡ true → HasBase v b → HasBase w b → Decides (is_below v w) (IsBelow v w)
unfolding out-Value denote.Hole.Carrier.out
below_decides base.Bool v w e h i = no e
below_decides base.Int (value.Int m) (value.Int n) e h i = below_number m n
below_decides base.Int (value.Int m) _ e h i = absurd i
below_decides base.Int _ w e h i = absurd h
below_decides base.Str (value.Str m) (value.Str n) e h i = below_text (slice_cmp nat_cmp m n)
below_decides base.Str (value.Str m) _ e h i = absurd i
below_decides base.Str _ w e h i = absurd h
below_decides base.Time (value.Time m) (value.Time n) e h i = below_number m n
below_decides base.Time (value.Time m) _ e h i = absurd i
below_decides base.Time _ w e h i = absurd h
below_decides base.Length (value.Length m) (value.Length n) e h i = below_number m n
below_decides base.Length (value.Length m) _ e h i = absurd i
below_decides base.Length _ w e h i = absurd h
