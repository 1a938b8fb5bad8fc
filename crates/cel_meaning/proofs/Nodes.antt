-- What a node comes to, from what is read of it and of the nodes below it.
use Rattle.std.proofs.Common.{◌≡◌, ℕ, ℤ, Bool, true, false, cond, ◌||◌, List, [], ◌∷◌, ◌++◌, ◌⊎◌, inl, inr, map, Result, Ok, Err, Option, Some, None, refl, sym, ap, ◌∙◌, subst}
use Rattle.std.specs.Prelude.{not}
use Rattle.cel_tree.specs.declared.tree.Expr.{Expr, out-Expr}
use Rattle.cel_tree.specs.declared.tree.Expr.TheOpen.{Expr-F}
use Rattle.cel_tree.specs.declared.tree.Expr.TheVariants as tree
use Rattle.cel_tree.specs.declared.tree.Expr.TheVariants.{outs-Bool, outs-Int, outs-Str, outs-Name, outs-Select, outs-Call, outs-Method, outs-Many, outs-Not, outs-Neg, outs-Two, outs-Pick}
use Rattle.cel_tree.specs.declared.tree.Op.{Op}
use Rattle.cel_tree.specs.declared.tree.Op.TheVariants as op
use Rattle.cel_tree.specs.declared.tree.Span.{Span}
use Rattle.cel_value.specs.declared.value.EvalFault.{EvalFault}
use Rattle.cel_value.specs.declared.value.Outcome.{Outcome}
use Rattle.cel_value.specs.declared.value.Outcome.TheVariants.{Given, Stopped}
use Rattle.cel_value.specs.declared.value.Value.{Value, out-Value}
use Rattle.cel_types.specs.Forms.{is_whole}
use Rattle.cel_types.specs.Heads as head
use Rattle.cel_types.specs.Heads.{Head, head_of}
use Rattle.cel_types.specs.Means.{comes_to, first_stop, value_is}
use Rattle.cel_types.specs.Setting.{Setting}
use Rattle.cel_meaning.specs.declared.operators.Side.TheVariants.{Decides, Passes, Stops}
use Rattle.cel_meaning.specs.declared.operators.Side.{Side}
use Rattle.cel_meaning.specs.declared.stop.Stop.{Stop}
use Rattle.cel_meaning.specs.declared.stop.Stop.TheVariants as stop
use Rattle.cel_meaning.specs.Apply.{apply, choice, choice_layer, no_outcome, truth}
use Rattle.cel_meaning.specs.OutcomeOf.{all_values, headed, node_outcome, outcome_of, two_outcome, with_first}
use Rattle.cel_meaning.specs.Results.{Gathered, Gathers, Gives, behind, decisive, junction, picked, side_of}
use Rattle.cel_meaning.proofs.Steps.{outcome_step}

-- a node by its layer
at_layer : (s : Setting) (e : Expr) (x : Expr-F Expr) → out-Expr e ≡ x → outcome_of s e ≡ node_outcome s (outcome_of s) x
at_layer s e x is = outcome_step s e ∙ ap (λ z. node_outcome s (outcome_of s) z) is

moved : (o p : Outcome) (r : Result Value Stop) → o ≡ p → Gives p r → Gives o r
moved o p r is h = subst (λ z. Gives z r) (sym is) h

-- a node by its head, from what is made of the values of its parts
pub headed_by : (s : Setting) (h : Head) (o : Option Head) (all : Gathered) (vs : List Value) (r : Result Value Stop) → Some h ≡ o → all ≡ Ok vs → Gives (apply s h vs) r → Gives (headed s o all) r
headed_by s h o all vs r is h' given = subst (λ z. Gives (headed s z all) r) is (subst (λ z. Gives (headed s (Some h) z) r) (sym h') given)

pub headed_none : (s : Setting) (o : Option Head) (all : Gathered) (vs : List Value) → None ≡ o → all ≡ Ok vs → headed s o all ≡ no_outcome
headed_none s o all vs is h = ap (λ z. headed s o z) h ∙ ap (λ z. headed s z (Ok vs)) (sym is)

pub headed_stops : (s : Setting) (o : Option Head) (all : Gathered) (why : Stop) → Gathers all (Err why) → Gives (headed s o all) (Err why)
headed_stops s o all (stop.Fault fault) h = ap (λ z. headed s o z) h
headed_stops s o all stop.OutOfMemory h = tt

-- ---- nodes all of whose parts are evaluated

-- the node is such a one, with these values or this fault
abbrev IsStrict : Setting → Expr → Gathered → Type 0
IsStrict s e all = outcome_of s e ≡ headed s (head_of (out-Expr e)) all

-- what is made of the parts, whatever they come to
abbrev Makes : Setting → Expr → Result (List Value) Stop → Result Value Stop → Type 0
Makes s e gathered r = (all : Gathered) → Gathers all gathered → Gives (headed s (head_of (out-Expr e)) all) r

strict_by : (s : Setting) (e : Expr) (x : Expr-F Expr) (all : Gathered) → out-Expr e ≡ x → node_outcome s (outcome_of s) x ≡ headed s (head_of x) all → IsStrict s e all
strict_by s e x all layer same = at_layer s e x layer ∙ same ∙ ap (λ z. headed s (head_of z) all) (sym layer)

gives : (s : Setting) (e : Expr) (all : Gathered) (gathered : Result (List Value) Stop) (r : Result Value Stop) → IsStrict s e all → Gathers all gathered → Makes s e gathered r → Gives (outcome_of s e) r
gives s e all gathered r strict h makes = moved (outcome_of s e) (headed s (head_of (out-Expr e)) all) r strict (makes all h)

stops : (s : Setting) (e : Expr) (all : Gathered) (why : Stop) → IsStrict s e all → Gathers all (Err why) → Gives (outcome_of s e) (Err why)
stops s e all why strict h = moved (outcome_of s e) (headed s (head_of (out-Expr e)) all) (Err why) strict (headed_stops s (head_of (out-Expr e)) all why h)

-- a node without parts that are evaluated
abbrev IsLeaf : Expr → Type 0
IsLeaf e =
    ((span : Span) × (b : Bool) × (e ≡ tree.Bool span b)) ⊎ (((span : Span) × (n : ℤ) × (e ≡ tree.Int span n))
    ⊎ (((span : Span) × (text : List ℕ) × (e ≡ tree.Str span text)) ⊎ (((span : Span) × (name : List ℕ) × (e ≡ tree.Name span name))
    ⊎ ((span : Span) × (base : Expr) × (field : List ℕ) × (e ≡ tree.Select span base field)))))

leaf_strict : (s : Setting) (e : Expr) → IsLeaf e → IsStrict s e (Ok [])
leaf_strict s e (inl (span, b, is)) = strict_by s e _ (Ok []) (ap out-Expr is ∙ outs-Bool span b) refl
leaf_strict s e (inr (inl (span, n, is))) = strict_by s e _ (Ok []) (ap out-Expr is ∙ outs-Int span n) refl
leaf_strict s e (inr (inr (inl (span, text, is)))) = strict_by s e _ (Ok []) (ap out-Expr is ∙ outs-Str span text) refl
leaf_strict s e (inr (inr (inr (inl (span, name, is))))) = strict_by s e _ (Ok []) (ap out-Expr is ∙ outs-Name span name) refl
leaf_strict s e (inr (inr (inr (inr (span, base, field, is))))) = strict_by s e _ (Ok []) (ap out-Expr is ∙ outs-Select span base field) refl

pub leaf_is : (s : Setting) (e : Expr) (found : List Value) (r : Result Value Stop) → IsLeaf e → found ≡ [] → Makes s e (Ok found) r → Gives (outcome_of s e) r
leaf_is s e found r leaf is makes = gives s e (Ok []) (Ok found) r (leaf_strict s e leaf) (ap (λ z. Ok z) (sym is)) makes

-- what is gathered behind nothing
nothing_before : (all : Gathered) → behind [] all ≡ all
nothing_before (Ok vs) = refl
nothing_before (Err fault) = refl

from_nothing : (found : List Value) (all : Gathered) (gathered : Result (List Value) Stop) → found ≡ [] → Gathers (behind found all) gathered → Gathers all gathered
from_nothing found all gathered is h = subst (λ z. Gathers z gathered) (nothing_before all) (subst (λ z. Gathers (behind z all) gathered) is h)

-- the values of a call's arguments or of a list's items
abbrev IsRow : Expr → List Expr → Type 0
IsRow e es = ((span : Span) × (name : List ℕ) × (e ≡ tree.Call span name es)) ⊎ ((span : Span) × (e ≡ tree.Many span es))

row_strict : (s : Setting) (e : Expr) (es : List Expr) → IsRow e es → IsStrict s e (all_values (map (outcome_of s) es))
row_strict s e es (inl (span, name, is)) = strict_by s e _ _ (ap out-Expr is ∙ outs-Call span name es) refl
row_strict s e es (inr (span, is)) = strict_by s e _ _ (ap out-Expr is ∙ outs-Many span es) refl

pub row_is : (s : Setting) (e : Expr) (es gs : List Expr) (found : List Value) (gathered : Result (List Value) Stop) (r : Result Value Stop) → IsRow e es → gs ≡ es → found ≡ []
    → Gathers (behind found (all_values (map (outcome_of s) gs))) gathered → Makes s e gathered r → Gives (outcome_of s e) r
row_is s e es gs found gathered r row p q h makes =
    gives s e (all_values (map (outcome_of s) gs)) gathered r (row_strict s e gs (subst (IsRow e) (sym p) row)) (from_nothing found _ gathered q h) makes

-- the value of an operand
abbrev IsOneSided : Expr → Expr → Type 0
IsOneSided e a = ((span : Span) × (e ≡ tree.Not span a)) ⊎ ((span : Span) × (e ≡ tree.Neg span a))

operand_strict : (s : Setting) (e a : Expr) → IsOneSided e a → IsStrict s e (all_values (outcome_of s a ∷ []))
operand_strict s e a (inl (span, is)) = strict_by s e _ _ (ap out-Expr is ∙ outs-Not span a) refl
operand_strict s e a (inr (span, is)) = strict_by s e _ _ (ap out-Expr is ∙ outs-Neg span a) refl

pub operand_is : (s : Setting) (e a g : Expr) (found : List Value) (gathered : Result (List Value) Stop) (r : Result Value Stop) → IsOneSided e a → g ≡ a → found ≡ []
    → Gathers (behind found (all_values (outcome_of s g ∷ []))) gathered → Makes s e gathered r → Gives (outcome_of s e) r
operand_is s e a g found gathered r one p q h makes =
    gives s e (all_values (outcome_of s g ∷ [])) gathered r (operand_strict s e g (subst (IsOneSided e) (sym p) one)) (from_nothing found _ gathered q h) makes

-- ---- values of a first part, and of others behind it

behind_first : (v : Value) (rest : Gathered) (first : List Value) (gathered : Result (List Value) Stop) → first ≡ v ∷ [] → Gathers (behind first rest) gathered → Gathers (with_first v rest) gathered
behind_first v (Err fault) first gathered is h = h
behind_first v (Ok ws) first gathered is h = subst (λ z. Gathers (Ok (z ++ ws)) gathered) is h

ok_same : (vs ws : List Value) (all : Gathered) → all ≡ Ok vs → all ≡ Ok ws → vs ≡ ws
ok_same vs ws all h i = cc

no_values : (fault : EvalFault) (vs : List Value) (all : Gathered) → all ≡ Err fault → all ≡ Ok vs → ⊥
no_values fault vs all h i = let P : ⊥ = cc in P

first_and_rest : (x : Outcome) (xs : List Outcome) (found first : List Value) (gathered : Result (List Value) Stop) → found ≡ [] → Gathers (behind found (all_values (x ∷ []))) (Ok first)
    → Gathers (behind first (all_values xs)) gathered → Gathers (all_values (x ∷ xs)) gathered
first_and_rest (Stopped fault) xs found first gathered is h rest = absurd (no_values fault first (Err fault) refl h)
first_and_rest (Given v) xs found first gathered is h rest =
    behind_first v (all_values xs) first gathered (ok_same first (v ∷ []) (Ok (v ∷ [])) (from_nothing found (Ok (v ∷ [])) (Ok first) is h) refl) rest

first_alone : (x : Outcome) (xs : List Outcome) (found : List Value) (why : Stop) → found ≡ [] → Gathers (behind found (all_values (x ∷ []))) (Err why) → Gathers (all_values (x ∷ xs)) (Err why)
first_alone (Stopped fault) xs found (stop.Fault other) is h = h
first_alone (Given v) xs found (stop.Fault other) is h = absurd (no_values other (found ++ v ∷ []) (Ok (found ++ v ∷ [])) h refl)
first_alone x xs found stop.OutOfMemory is h = tt

-- a method, which is one node with its base and its arguments, or has them as parts
method_strict : (s : Setting) (e b g : Expr) (span : Span) (name t : List ℕ) (es gs : List Expr) (whole : Bool) → e ≡ tree.Method span b name es → g ≡ b → t ≡ name → gs ≡ es
    → is_whole (out-Expr g) t ≡ whole → IsStrict s e (all_values (map (outcome_of s) (cond whole [] (g ∷ gs))))
method_strict s e b g span name t es gs whole is p q a w =
    strict_by s e _ _ (ap out-Expr is ∙ outs-Method span b name es)
    (ap (λ (z : List Expr). headed s (head_of (Expr-F.Method span b name es)) (all_values (map (outcome_of s) z)))
    (ap (λ (z : Expr). cond (is_whole (out-Expr z) name) [] (z ∷ es)) (sym p)
    ∙ ap (λ (z : List ℕ). cond (is_whole (out-Expr g) z) [] (g ∷ es)) (sym q)
    ∙ ap (λ (z : List Expr). cond (is_whole (out-Expr g) t) [] (g ∷ z)) (sym a)
    ∙ ap (λ (z : Bool). cond z [] (g ∷ gs)) w))

pub whole_is : (s : Setting) (e b g : Expr) (span : Span) (name t : List ℕ) (es : List Expr) (found : List Value) (r : Result Value Stop) → e ≡ tree.Method span b name es → g ≡ b → t ≡ name
    → is_whole (out-Expr g) t ≡ true → found ≡ [] → Makes s e (Ok found) r → Gives (outcome_of s e) r
whole_is s e b g span name t es found r is p q w empty makes =
    gives s e (Ok []) (Ok found) r (method_strict s e b g span name t es es true is p q refl w) (ap (λ z. Ok z) (sym empty)) makes

pub method_is : (s : Setting) (e b g : Expr) (span : Span) (name t : List ℕ) (es gs : List Expr) (found first : List Value) (gathered : Result (List Value) Stop) (r : Result Value Stop)
    → e ≡ tree.Method span b name es → g ≡ b → t ≡ name → gs ≡ es → is_whole (out-Expr g) t ≡ false → found ≡ [] → Gathers (behind found (all_values (outcome_of s g ∷ []))) (Ok first)
    → Gathers (behind first (all_values (map (outcome_of s) gs))) gathered → Makes s e gathered r → Gives (outcome_of s e) r
method_is s e b g span name t es gs found first gathered r is p q a w empty h rest makes =
    gives s e (all_values (map (outcome_of s) (g ∷ gs))) gathered r (method_strict s e b g span name t es gs false is p q a w)
    (first_and_rest (outcome_of s g) (map (outcome_of s) gs) found first gathered empty h rest) makes

pub method_stops : (s : Setting) (e b g : Expr) (span : Span) (name t : List ℕ) (es : List Expr) (found : List Value) (why : Stop) → e ≡ tree.Method span b name es → g ≡ b → t ≡ name
    → is_whole (out-Expr g) t ≡ false → found ≡ [] → Gathers (behind found (all_values (outcome_of s g ∷ []))) (Err why) → Gives (outcome_of s e) (Err why)
method_stops s e b g span name t es found why is p q w empty h =
    stops s e (all_values (map (outcome_of s) (g ∷ es))) why (method_strict s e b g span name t es es false is p q refl w)
    (first_alone (outcome_of s g) (map (outcome_of s) es) found why empty h)

-- ---- operators of two sides

-- by the truth of a side that decides the operator, where there is one
abbrev two_by : Setting → Op → Option Bool → Outcome → Outcome → Outcome
two_by s o (Some b) x y = junction b (side_of b x) (side_of b y)
two_by s o None x y = headed s (Some (head.two o)) (all_values (x ∷ y ∷ []))

by_tests : (b p q : Bool) → cond (p || q) (truth b) (truth (not b)) ≡ junction b (cond p Decides Passes) (cond q Decides Passes)
by_tests b true q = refl
by_tests b false true = refl
by_tests b false false = refl

by_left : (b p : Bool) (fault : EvalFault) → cond (p || false) (truth b) (Stopped fault) ≡ junction b (cond p Decides Passes) (Stops fault)
by_left b true fault = refl
by_left b false fault = refl

by_right : (b q : Bool) (fault : EvalFault) → cond q (truth b) (Stopped fault) ≡ junction b (Stops fault) (cond q Decides Passes)
by_right b true fault = refl
by_right b false fault = refl

-- a conjunction or a disjunction, by what its sides say
by_sides : (b : Bool) (x y : Outcome) → cond (comes_to b x || comes_to b y) (truth b) (first_stop x y (truth (not b))) ≡ junction b (side_of b x) (side_of b y)
by_sides b (Given v) (Given w) = by_tests b (value_is b (out-Value v)) (value_is b (out-Value w))
by_sides b (Given v) (Stopped fault) = by_left b (value_is b (out-Value v)) fault
by_sides b (Stopped fault) (Given w) = by_right b (value_is b (out-Value w)) fault
by_sides b (Stopped fault) (Stopped other) = refl

two_same : (s : Setting) (o : Op) (x y : Outcome) → two_outcome s o x y ≡ two_by s o (decisive o) x y
two_same s op.And x y = by_sides false x y
two_same s op.Or x y = by_sides true x y
two_same s op.Lt x y = refl
two_same s op.Le x y = refl
two_same s op.Gt x y = refl
two_same s op.Ge x y = refl
two_same s op.Eq x y = refl
two_same s op.Ne x y = refl
two_same s op.In x y = refl
two_same s op.Add x y = refl
two_same s op.Sub x y = refl
two_same s op.Mul x y = refl
two_same s op.Div x y = refl
two_same s op.Rem x y = refl

two_layer : (s : Setting) (e a b g h : Expr) (span : Span) (o : Op) (decided : Option Bool) → e ≡ tree.Two span o a b → g ≡ a → h ≡ b → decided ≡ decisive o
    → outcome_of s e ≡ two_by s o decided (outcome_of s g) (outcome_of s h)
two_layer s e a b g h span o decided is p q d =
    at_layer s e _ (ap out-Expr is ∙ outs-Two span o a b)
    ∙ two_same s o (outcome_of s a) (outcome_of s b)
    ∙ ap (λ z. two_by s o z (outcome_of s a) (outcome_of s b)) (sym d)
    ∙ ap (λ z. two_by s o decided (outcome_of s z) (outcome_of s b)) (sym p)
    ∙ ap (λ z. two_by s o decided (outcome_of s g) (outcome_of s z)) (sym q)

two_strict : (s : Setting) (e a b g h : Expr) (span : Span) (o : Op) (decided : Option Bool) → e ≡ tree.Two span o a b → g ≡ a → h ≡ b → decided ≡ decisive o → decided ≡ None
    → IsStrict s e (all_values (outcome_of s g ∷ outcome_of s h ∷ []))
two_strict s e a b g h span o decided is p q d none =
    two_layer s e a b g h span o decided is p q d
    ∙ ap (λ z. two_by s o z (outcome_of s g) (outcome_of s h)) none
    ∙ ap (λ z. headed s (head_of z) (all_values (outcome_of s g ∷ outcome_of s h ∷ []))) (sym (ap out-Expr is ∙ outs-Two span o a b))

pub two_is : (s : Setting) (e a b g h : Expr) (span : Span) (o : Op) (decided : Option Bool) (found first : List Value) (gathered : Result (List Value) Stop) (r : Result Value Stop)
    → e ≡ tree.Two span o a b → g ≡ a → h ≡ b → decided ≡ decisive o → decided ≡ None → found ≡ [] → Gathers (behind found (all_values (outcome_of s g ∷ []))) (Ok first)
    → Gathers (behind first (all_values (outcome_of s h ∷ []))) gathered → Makes s e gathered r → Gives (outcome_of s e) r
two_is s e a b g h span o decided found first gathered r is p q d none empty left right makes =
    gives s e (all_values (outcome_of s g ∷ outcome_of s h ∷ [])) gathered r (two_strict s e a b g h span o decided is p q d none)
    (first_and_rest (outcome_of s g) (outcome_of s h ∷ []) found first gathered empty left right) makes

pub two_stops : (s : Setting) (e a b g : Expr) (span : Span) (o : Op) (decided : Option Bool) (found : List Value) (why : Stop) → e ≡ tree.Two span o a b → g ≡ a → decided ≡ decisive o → decided ≡ None
    → found ≡ [] → Gathers (behind found (all_values (outcome_of s g ∷ []))) (Err why) → Gives (outcome_of s e) (Err why)
two_stops s e a b g span o decided found why is p d none empty left =
    stops s e (all_values (outcome_of s g ∷ outcome_of s b ∷ [])) why (two_strict s e a b g b span o decided is p refl d none)
    (first_alone (outcome_of s g) (outcome_of s b ∷ []) found why empty left)

pub junction_is : (s : Setting) (e a b g h : Expr) (span : Span) (o : Op) (decided : Option Bool) (c : Bool) (left : Side) (r : Result Value Stop) → e ≡ tree.Two span o a b → g ≡ a → h ≡ b
    → decided ≡ decisive o → decided ≡ Some c → left ≡ side_of c (outcome_of s g) → Gives (junction c left (side_of c (outcome_of s h))) r → Gives (outcome_of s e) r
junction_is s e a b g h span o decided c left r is p q d some l given =
    moved (outcome_of s e) (junction c left (side_of c (outcome_of s h))) r
    (two_layer s e a b g h span o decided is p q d
    ∙ ap (λ z. two_by s o z (outcome_of s g) (outcome_of s h)) some
    ∙ ap (λ z. junction c z (side_of c (outcome_of s h))) (sym l)) given

-- ---- a choice

pick_layer : (s : Setting) (e d a b g h i : Expr) (span : Span) → e ≡ tree.Pick span d a b → g ≡ d → h ≡ a → i ≡ b
    → outcome_of s e ≡ choice (outcome_of s g) (outcome_of s h) (outcome_of s i)
pick_layer s e d a b g h i span is p q t =
    at_layer s e _ (ap out-Expr is ∙ outs-Pick span d a b)
    ∙ ap (λ z. choice (outcome_of s z) (outcome_of s a) (outcome_of s b)) (sym p)
    ∙ ap (λ z. choice (outcome_of s g) (outcome_of s z) (outcome_of s b)) (sym q)
    ∙ ap (λ z. choice (outcome_of s g) (outcome_of s h) (outcome_of s z)) (sym t)

-- the condition stops
pub undecided : (s : Setting) (e d a b g : Expr) (span : Span) (why : Stop) → e ≡ tree.Pick span d a b → g ≡ d → Gives (outcome_of s g) (Err why) → Gives (outcome_of s e) (Err why)
undecided s e d a b g span (stop.Fault fault) is p h =
    pick_layer s e d a b g a b span is p refl refl ∙ ap (λ z. choice z (outcome_of s a) (outcome_of s b)) h
undecided s e d a b g span stop.OutOfMemory is p h = tt

-- the condition has a value, which decides
chosen : (s : Setting) (e d a b g : Expr) (span : Span) (v : Value) (decided : Result Bool EvalFault) → e ≡ tree.Pick span d a b → g ≡ d → outcome_of s g ≡ Given v
    → ((x y : Outcome) → choice_layer (out-Value v) x y ≡ picked decided x y) → outcome_of s e ≡ picked decided (outcome_of s a) (outcome_of s b)
chosen s e d a b g span v decided is p has decides =
    pick_layer s e d a b g a b span is p refl refl ∙ ap (λ z. choice z (outcome_of s a) (outcome_of s b)) has ∙ decides (outcome_of s a) (outcome_of s b)

pub first_branch : (s : Setting) (e d a b g h : Expr) (span : Span) (v : Value) (c : Bool) (r : Result Value Stop) → e ≡ tree.Pick span d a b → g ≡ d → h ≡ a → outcome_of s g ≡ Given v
    → ((x y : Outcome) → choice_layer (out-Value v) x y ≡ picked (Ok c) x y) → c ≡ true → Gives (outcome_of s h) r → Gives (outcome_of s e) r
first_branch s e d a b g h span v c r is p q has decides decided given =
    moved (outcome_of s e) (outcome_of s h) r
    (chosen s e d a b g span v (Ok c) is p has decides ∙ ap (λ z. cond z (outcome_of s a) (outcome_of s b)) decided ∙ ap (outcome_of s) (sym q)) given

pub other_branch : (s : Setting) (e d a b g h : Expr) (span : Span) (v : Value) (c : Bool) (r : Result Value Stop) → e ≡ tree.Pick span d a b → g ≡ d → h ≡ b → outcome_of s g ≡ Given v
    → ((x y : Outcome) → choice_layer (out-Value v) x y ≡ picked (Ok c) x y) → c ≡ false → Gives (outcome_of s h) r → Gives (outcome_of s e) r
other_branch s e d a b g h span v c r is p q has decides decided given =
    moved (outcome_of s e) (outcome_of s h) r
    (chosen s e d a b g span v (Ok c) is p has decides ∙ ap (λ z. cond z (outcome_of s a) (outcome_of s b)) decided ∙ ap (outcome_of s) (sym q)) given

pub no_branch : (s : Setting) (e d a b g : Expr) (span : Span) (v : Value) (fault : EvalFault) → e ≡ tree.Pick span d a b → g ≡ d → outcome_of s g ≡ Given v
    → ((x y : Outcome) → choice_layer (out-Value v) x y ≡ picked (Err fault) x y) → outcome_of s e ≡ Stopped fault
no_branch s e d a b g span v fault is p has decides = chosen s e d a b g span v (Err fault) is p has decides
