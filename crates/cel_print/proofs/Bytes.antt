-- The bytes of what is written, piece by piece.
use Rattle.std.proofs.Common.{◌≡◌, ℕ, Bool, true, false, cond, List, [], ◌∷◌, ◌++◌, map, Result, Ok, Err, OnOk, refl, sym, ap, ◌∙◌, append_assoc, append-nil, subst, suc, ◌+◌, ◌-◌, ◌<◌, ◌≤◌, length, take, drop, get_or, drop-cons, add-one, arith}
use Rattle.std.proofs.lemmas.List.{take_rest}
use Rattle.std.proofs.Math.ListN.{drop_of_length-le}
use Rattle.cel_tree.specs.declared.tree.Span.{Span}
use Rattle.cel_tree.specs.declared.tree.Op.{Op}
use Rattle.cel_tree.specs.declared.tree.Expr.{Expr, roll-Expr, ind-Expr, map-Expr}
use Rattle.cel_tree.specs.declared.tree.Expr.TheOpen.{Expr-F}
use Rattle.cel_tree.specs.declared.tree.Expr.TheVariants as tree
use Rattle.cel_tree.specs.declared.tree.Expr.TheVariants.{rolls-Bool, rolls-Int, rolls-Str, rolls-Name, rolls-Select, rolls-Call, rolls-Method, rolls-Many, rolls-Not, rolls-Neg, rolls-Two, rolls-Pick}
use Rattle.cel_tree.specs.declared.token.Sign.{Sign}
use Rattle.cel_tree.specs.declared.token.Sign.TheVariants as sign
use Rattle.cel_tree.specs.declared.token.TokenKind.TheVariants as kind
use Rattle.cel_tree.specs.Spelling.{spelling}
use Rattle.cel_grammar.specs.declared.level.Level.TheVariants.{Or, And, Rel, Add, Mul}
use Rattle.cel_grammar.specs.declared.level.Sort.{Sort}
use Rattle.cel_grammar.specs.declared.level.Sort.TheVariants.{Whole, Binary, Unary, Nots, Negs, Member, Primary}
use Rattle.cel_grammar.specs.Grammar.{operand}
use Rattle.cel_shown.specs.Shown.{Piece, Blank, Word, signed, bracketed, within, placed, separated, closed_by, spaced, Writing, layer_shown, shown, level_of, sign_of}
use Rattle.cel_shown.specs.Spelled.{piece_text, bytes_of}
use Rattle.cel_shown.proofs.Layers.{fold_bool, fold_int, fold_str, fold_name, fold_select, fold_call, fold_method, fold_many, fold_not, fold_neg, fold_two, fold_pick}
use Rattle.cel_shown.proofs.Fit.{level_in_whole}
use Rattle.cel_print.specs.Own.{layer_own, own}

pub on_ok : {V E : Type 0} (r : Result V E) (x y z : List ℕ) → OnOk r (x ≡ y) → y ≡ z → OnOk r (x ≡ z)
on_ok (Ok v) x y z e f = e ∙ f
on_ok (Err e) x y z h f = tt

pub bytes-append : (ps qs : List Piece) → bytes_of (ps ++ qs) ≡ bytes_of ps ++ bytes_of qs
bytes-append [] qs = refl
bytes-append (p ∷ ps) qs = ap (λ (z : List ℕ). piece_text p ++ z) (bytes-append ps qs) ∙ sym (append_assoc (piece_text p) (bytes_of ps) (bytes_of qs))

pub joined_bytes : (ps qs : List Piece) (old : List ℕ) → (old ++ bytes_of ps) ++ bytes_of qs ≡ old ++ bytes_of (ps ++ qs)
joined_bytes ps qs old = append_assoc old (bytes_of ps) (bytes_of qs) ∙ ap (λ (z : List ℕ). old ++ z) (sym (bytes-append ps qs))

-- the bytes at one layer
bytes_at : (e : Expr) (w : Writing) (s : Sort) (m : Bool) → shown e ≡ w → bytes_of (shown e s m) ≡ bytes_of (w s m)
bytes_at e w s m is = ap (λ (f : Writing). bytes_of (f s m)) is

-- behind an opening bracket, with the closing one
closed_bytes : (x : Sign) (ws : List Writing) → bytes_of (closed_by x ws) ≡ bytes_of (separated ws) ++ (spelling x ++ [])
closed_bytes x ws = bytes-append (separated ws) (signed x ∷ [])

pub select_bytes : (e a : Expr) (p : Span) (x : List ℕ) → e ≡ tree.Select p a x → (m : Bool) (old : List ℕ)
    → ((old ++ bytes_of (shown a Member m)) ++ spelling sign.Dot) ++ x ≡ old ++ bytes_of (shown e Whole m)
select_bytes e a p x is m old =
    let l : bytes_of (shown e Whole m) ≡ bytes_of (shown a Member m) ++ (spelling sign.Dot ++ (x ++ [])) =
    ap (λ (z : Expr). bytes_of (shown z Whole m)) is ∙ bytes_at (tree.Select p a x) _ Whole m (fold_select layer_shown p a x)
    ∙ bytes-append (shown a Member m) (signed sign.Dot ∷ Word (kind.Name x) ∷ []) in
    append_assoc (old ++ bytes_of (shown a Member m)) (spelling sign.Dot) x
    ∙ append_assoc old (bytes_of (shown a Member m)) (spelling sign.Dot ++ x)
    ∙ ap (λ (z : List ℕ). old ++ (bytes_of (shown a Member m) ++ (spelling sign.Dot ++ z))) (sym (append-nil x)) ∙ ap (λ (z : List ℕ). old ++ z) (sym l)

-- a name and its arguments
abbrev pub called : List ℕ → List Expr → List Piece
called x es = Word (kind.Name x) ∷ signed sign.OpenParenthesis ∷ closed_by sign.CloseParenthesis (map shown es)

pub called_bytes : (x : List ℕ) (es : List Expr) (old : List ℕ)
    → (((old ++ x) ++ spelling sign.OpenParenthesis) ++ bytes_of (separated (map shown es))) ++ spelling sign.CloseParenthesis ≡ old ++ bytes_of (called x es)
called_bytes x es old =
    let b = bytes_of (separated (map shown es)) in
    append_assoc ((old ++ x) ++ spelling sign.OpenParenthesis) b (spelling sign.CloseParenthesis)
    ∙ append_assoc (old ++ x) (spelling sign.OpenParenthesis) (b ++ spelling sign.CloseParenthesis)
    ∙ append_assoc old x (spelling sign.OpenParenthesis ++ (b ++ spelling sign.CloseParenthesis))
    ∙ ap (λ (z : List ℕ). old ++ (x ++ (spelling sign.OpenParenthesis ++ z))) (sym (closed_bytes sign.CloseParenthesis (map shown es)))

pub call_bytes : (e : Expr) (p : Span) (x : List ℕ) (es : List Expr) → e ≡ tree.Call p x es → (m : Bool) (old : List ℕ) → old ++ bytes_of (called x es) ≡ old ++ bytes_of (shown e Whole m)
call_bytes e p x es is m old =
    ap (λ (z : List ℕ). old ++ z) (sym (ap (λ (z : Expr). bytes_of (shown z Whole m)) is ∙ bytes_at (tree.Call p x es) _ Whole m (fold_call layer_shown p x es)))

pub method_bytes : (e a : Expr) (p : Span) (x : List ℕ) (es : List Expr) → e ≡ tree.Method p a x es → (m : Bool) (old : List ℕ)
    → ((old ++ bytes_of (shown a Member m)) ++ spelling sign.Dot) ++ bytes_of (called x es) ≡ old ++ bytes_of (shown e Whole m)
method_bytes e a p x es is m old =
    let r = bytes_of (shown a Member m) in
    let l : bytes_of (shown e Whole m) ≡ r ++ (spelling sign.Dot ++ bytes_of (called x es)) =
    ap (λ (z : Expr). bytes_of (shown z Whole m)) is ∙ bytes_at (tree.Method p a x es) _ Whole m (fold_method layer_shown p a x es)
    ∙ bytes-append (shown a Member m) (signed sign.Dot ∷ called x es) in
    append_assoc (old ++ r) (spelling sign.Dot) (bytes_of (called x es))
    ∙ append_assoc old r (spelling sign.Dot ++ bytes_of (called x es))
    ∙ ap (λ (z : List ℕ). old ++ z) (sym l)

pub many_bytes : (e : Expr) (p : Span) (es : List Expr) → e ≡ tree.Many p es → (m : Bool) (old : List ℕ)
    → ((old ++ spelling sign.OpenBracket) ++ bytes_of (separated (map shown es))) ++ spelling sign.CloseBracket ≡ old ++ bytes_of (shown e Whole m)
many_bytes e p es is m old =
    let b = bytes_of (separated (map shown es)) in
    let l : bytes_of (shown e Whole m) ≡ spelling sign.OpenBracket ++ (b ++ (spelling sign.CloseBracket ++ [])) =
    ap (λ (z : Expr). bytes_of (shown z Whole m)) is ∙ bytes_at (tree.Many p es) _ Whole m (fold_many layer_shown p es)
    ∙ ap (λ (z : List ℕ). spelling sign.OpenBracket ++ z) (closed_bytes sign.CloseBracket (map shown es)) in
    append_assoc (old ++ spelling sign.OpenBracket) b (spelling sign.CloseBracket)
    ∙ append_assoc old (spelling sign.OpenBracket) (b ++ spelling sign.CloseBracket)
    ∙ ap (λ (z : List ℕ). old ++ z) (sym l)

pub prefixed_bytes : (x : Sign) (ps : List Piece) (old : List ℕ) → (old ++ spelling x) ++ bytes_of ps ≡ old ++ bytes_of (signed x ∷ ps)
prefixed_bytes x ps old = append_assoc old (spelling x) (bytes_of ps)

pub not_bytes : (e a : Expr) (p : Span) → e ≡ tree.Not p a → (m : Bool) (old : List ℕ) → old ++ bytes_of (signed sign.Bang ∷ shown a Nots false) ≡ old ++ bytes_of (shown e Whole m)
not_bytes e a p is m old =
    ap (λ (z : List ℕ). old ++ z) (sym (ap (λ (z : Expr). bytes_of (shown z Whole m)) is ∙ bytes_at (tree.Not p a) _ Whole m (fold_not layer_shown p a)))

pub neg_bytes : (e a : Expr) (p : Span) → e ≡ tree.Neg p a → (m : Bool) (old : List ℕ) → old ++ bytes_of (signed sign.Minus ∷ shown a Negs true) ≡ old ++ bytes_of (shown e Whole m)
neg_bytes e a p is m old =
    ap (λ (z : List ℕ). old ++ z) (sym (ap (λ (z : Expr). bytes_of (shown z Whole m)) is ∙ bytes_at (tree.Neg p a) _ Whole m (fold_neg layer_shown p a)))

-- a sign with a blank on both sides
abbrev pub blanked : Sign → List ℕ
blanked x = 32 ∷ (spelling x ++ 32 ∷ [])

pub spaced_bytes : (x : Sign) (ps : List Piece) (old : List ℕ) → (old ++ blanked x) ++ bytes_of ps ≡ old ++ bytes_of (spaced x ps)
spaced_bytes x ps old =
    append_assoc old (blanked x) (bytes_of ps) ∙ ap (λ (z : List ℕ). old ++ (32 ∷ z)) (append_assoc (spelling x) (32 ∷ []) (bytes_of ps))

pub two_bytes : (e a b : Expr) (p : Span) (o : Op) → e ≡ tree.Two p o a b → (m : Bool) (old : List ℕ)
    → (old ++ bytes_of (shown a (Binary (level_of o)) false)) ++ bytes_of (spaced (sign_of o) (shown b (operand (level_of o)) false)) ≡ old ++ bytes_of (shown e Whole m)
two_bytes e a b p o is m old =
    joined_bytes (shown a (Binary (level_of o)) false) (spaced (sign_of o) (shown b (operand (level_of o)) false)) old
    ∙ ap (λ (z : List ℕ). old ++ z) (sym (ap (λ (z : Expr). bytes_of (shown z Whole m)) is ∙ bytes_at (tree.Two p o a b) _ Whole m (fold_two layer_shown p o a b)
    ∙ ap (λ v. bytes_of (cond v (inner) (bracketed inner))) (level_in_whole (level_of o))))
  where
    inner : List Piece
    inner = shown a (Binary (level_of o)) false ++ spaced (sign_of o) (shown b (operand (level_of o)) false)

pub pick_bytes : (e c a b : Expr) (p : Span) → e ≡ tree.Pick p c a b → (m : Bool) (old : List ℕ)
    → ((old ++ bytes_of (shown c (Binary Or) false)) ++ bytes_of (spaced sign.Question (shown a (Binary Or) false))) ++ bytes_of (spaced sign.Colon (shown b Whole false)) ≡ old ++ bytes_of (shown e Whole m)
pick_bytes e c a b p is m old =
    joined_bytes (spaced sign.Question (shown a (Binary Or) false)) (spaced sign.Colon (shown b Whole false)) (old ++ bytes_of (shown c (Binary Or) false))
    ∙ joined_bytes (shown c (Binary Or) false) (spaced sign.Question (shown a (Binary Or) false ++ spaced sign.Colon (shown b Whole false))) old
    ∙ ap (λ (z : List ℕ). old ++ z) (sym (ap (λ (z : Expr). bytes_of (shown z Whole m)) is ∙ bytes_at (tree.Pick p c a b) _ Whole m (fold_pick layer_shown p c a b)))

-- lists

abbrev pub followed : List Writing → List Piece
followed [] = []
followed (w ∷ ws) = signed sign.Comma ∷ Blank ∷ (w Whole false ++ followed ws)

separated_first : (w : Writing) (ws : List Writing) → separated (w ∷ ws) ≡ w Whole false ++ followed ws
separated_first w [] = sym (append-nil (w Whole false))
separated_first w (v ∷ vs) = ap (λ (ps : List Piece). w Whole false ++ (signed sign.Comma ∷ Blank ∷ ps)) (separated_first v vs)

pub first_bytes : (e : Expr) (es : List Expr) (old : List ℕ)
    → (old ++ bytes_of (shown e Whole false)) ++ bytes_of (followed (map shown es)) ≡ old ++ bytes_of (separated (map shown (e ∷ es)))
first_bytes e es old =
    append_assoc old (bytes_of (shown e Whole false)) (bytes_of (followed (map shown es)))
    ∙ ap (λ (z : List ℕ). old ++ z) (sym (ap bytes_of (separated_first (shown e) (map shown es)) ∙ bytes-append (shown e Whole false) (followed (map shown es))))

pub next_bytes : (e : Expr) (es : List Expr) (old : List ℕ)
    → (((old ++ spelling sign.Comma) ++ 32 ∷ []) ++ bytes_of (shown e Whole false)) ++ bytes_of (followed (map shown es)) ≡ old ++ bytes_of (followed (map shown (e ∷ es)))
next_bytes e es old =
    append_assoc ((old ++ spelling sign.Comma) ++ 32 ∷ []) (bytes_of (shown e Whole false)) (bytes_of (followed (map shown es)))
    ∙ append_assoc (old ++ spelling sign.Comma) (32 ∷ []) (bytes_of (shown e Whole false) ++ bytes_of (followed (map shown es)))
    ∙ append_assoc old (spelling sign.Comma) (32 ∷ (bytes_of (shown e Whole false) ++ bytes_of (followed (map shown es))))
    ∙ ap (λ (z : List ℕ). old ++ (spelling sign.Comma ++ 32 ∷ z)) (sym (bytes-append (shown e Whole false) (followed (map shown es))))

-- as it stands, or in brackets

pub record Places (e : Expr) : Type 0 where
  pub fits : (s : Sort) (m : Bool) → within (own e) s ≡ true → shown e s m ≡ shown e Whole m
  pub not_fits : (s : Sort) (m : Bool) → within (own e) s ≡ false → shown e s m ≡ bracketed (shown e Whole false)

placed_places : (e : Expr) (o : Sort) (f : Bool → List Piece) → own e ≡ o → shown e ≡ placed o f → within o Whole ≡ true → Places e
placed_places e o f io is w = record {
  fits = λ s m h.
      ap (λ (g : Writing). g s m) is ∙ ap (λ v. cond v (f m) (bracketed (f false))) (ap (λ z. within z s) (sym io) ∙ h) ∙ sym (whole m);
  not_fits = λ s m h.
      ap (λ (g : Writing). g s m) is ∙ ap (λ v. cond v (f m) (bracketed (f false))) (ap (λ z. within z s) (sym io) ∙ h) ∙ ap bracketed (sym (whole false));
}
  where
    whole : (m : Bool) → shown e Whole m ≡ f m
    whole m = ap (λ (g : Writing). g Whole m) is ∙ ap (λ v. cond v (f m) (bracketed (f false))) w

primary_within : (s : Sort) → within Primary s ≡ true
primary_within Whole = refl
primary_within (Binary Or) = refl
primary_within (Binary And) = refl
primary_within (Binary Rel) = refl
primary_within (Binary Add) = refl
primary_within (Binary Mul) = refl
primary_within Unary = refl
primary_within Nots = refl
primary_within Negs = refl
primary_within Member = refl
primary_within Primary = refl

primary_places : (e : Expr) (f : Bool → List Piece) → own e ≡ Primary → shown e ≡ (λ s m. f m) → Places e
primary_places e f io is = record {
  fits = λ s m h. ap (λ (g : Writing). g s m) is ∙ sym (ap (λ (g : Writing). g Whole m) is);
  not_fits = λ s m h. absurd (apart (within (own e) s) (ap (λ z. within z s) io ∙ primary_within s) h);
}
  where
    apart : (v : Bool) → v ≡ true → v ≡ false → ⊥
    apart v p q = cc

places_step : (y : Expr-F ((e : Expr) × Places e)) (x : Expr-F Expr) → map-Expr ((e : Expr) × Places e) Expr (λ e. e.0) y ≡ x → Places (roll-Expr x)
places_step (Expr-F.Bool p v) x is = subst (λ z. Places (roll-Expr z)) is (subst Places (sym (rolls-Bool p v)) (primary_places (tree.Bool p v) _ (fold_bool layer_own p v) (fold_bool layer_shown p v)))
places_step (Expr-F.Int p n) x is = subst (λ z. Places (roll-Expr z)) is (subst Places (sym (rolls-Int p n)) (primary_places (tree.Int p n) _ (fold_int layer_own p n) (fold_int layer_shown p n)))
places_step (Expr-F.Str p v) x is = subst (λ z. Places (roll-Expr z)) is (subst Places (sym (rolls-Str p v)) (primary_places (tree.Str p v) _ (fold_str layer_own p v) (fold_str layer_shown p v)))
places_step (Expr-F.Name p v) x is = subst (λ z. Places (roll-Expr z)) is (subst Places (sym (rolls-Name p v)) (primary_places (tree.Name p v) _ (fold_name layer_own p v) (fold_name layer_shown p v)))
places_step (Expr-F.Select p a v) x is = subst (λ z. Places (roll-Expr z)) is (subst Places (sym (rolls-Select p a.0 v)) (placed_places (tree.Select p a.0 v) Member _ (fold_select layer_own p a.0 v) (fold_select layer_shown p a.0 v) refl))
places_step (Expr-F.Call p v es) x is = subst (λ z. Places (roll-Expr z)) is (subst Places (sym (rolls-Call p v (map (λ e. e.0) es))) (primary_places (tree.Call p v (map (λ e. e.0) es)) _ (fold_call layer_own p v (map (λ e. e.0) es)) (fold_call layer_shown p v (map (λ e. e.0) es))))
places_step (Expr-F.Method p a v es) x is = subst (λ z. Places (roll-Expr z)) is (subst Places (sym (rolls-Method p a.0 v (map (λ e. e.0) es))) (placed_places (tree.Method p a.0 v (map (λ e. e.0) es)) Member _ (fold_method layer_own p a.0 v (map (λ e. e.0) es)) (fold_method layer_shown p a.0 v (map (λ e. e.0) es)) refl))
places_step (Expr-F.Many p es) x is = subst (λ z. Places (roll-Expr z)) is (subst Places (sym (rolls-Many p (map (λ e. e.0) es))) (primary_places (tree.Many p (map (λ e. e.0) es)) _ (fold_many layer_own p (map (λ e. e.0) es)) (fold_many layer_shown p (map (λ e. e.0) es))))
places_step (Expr-F.Not p a) x is = subst (λ z. Places (roll-Expr z)) is (subst Places (sym (rolls-Not p a.0)) (placed_places (tree.Not p a.0) Nots _ (fold_not layer_own p a.0) (fold_not layer_shown p a.0) refl))
places_step (Expr-F.Neg p a) x is = subst (λ z. Places (roll-Expr z)) is (subst Places (sym (rolls-Neg p a.0)) (placed_places (tree.Neg p a.0) Negs _ (fold_neg layer_own p a.0) (fold_neg layer_shown p a.0) refl))
places_step (Expr-F.Two p o a b) x is = subst (λ z. Places (roll-Expr z)) is (subst Places (sym (rolls-Two p o a.0 b.0)) (placed_places (tree.Two p o a.0 b.0) (Binary (level_of o)) _ (fold_two layer_own p o a.0 b.0) (fold_two layer_shown p o a.0 b.0) (level_in_whole (level_of o))))
places_step (Expr-F.Pick p c a b) x is = subst (λ z. Places (roll-Expr z)) is (subst Places (sym (rolls-Pick p c.0 a.0 b.0)) (placed_places (tree.Pick p c.0 a.0 b.0) Whole _ (fold_pick layer_own p c.0 a.0 b.0) (fold_pick layer_shown p c.0 a.0 b.0) refl))

pub places : (e : Expr) → Places e
places = ind-Expr Places (λ x y is. places_step y x is)

pub bracket_bytes : (ps : List Piece) (old : List ℕ) → ((old ++ spelling sign.OpenParenthesis) ++ bytes_of ps) ++ spelling sign.CloseParenthesis ≡ old ++ bytes_of (bracketed ps)
bracket_bytes ps old =
    append_assoc (old ++ spelling sign.OpenParenthesis) (bytes_of ps) (spelling sign.CloseParenthesis)
    ∙ append_assoc old (spelling sign.OpenParenthesis) (bytes_of ps ++ spelling sign.CloseParenthesis)
    ∙ ap (λ (z : List ℕ). old ++ (spelling sign.OpenParenthesis ++ z)) (sym (bytes-append ps (signed sign.CloseParenthesis ∷ [])))

-- the loop over a list

first_and_rest : (xs : List Expr) (x : Expr) → 1 ≤ length xs → x ≡ get_or xs 0 x → xs ≡ x ∷ take (length xs - 1) (drop 1 xs)
first_and_rest xs x h e =
    drop-cons xs 0 x (omega (arith, h)) ∙ ap (λ (z : Expr). z ∷ drop 1 xs) (sym e) ∙ ap (λ (z : List Expr). x ∷ z) (sym (take_rest xs 1))

pub list_begins : (xs : List Expr) (x : Expr) (old out : List ℕ) → 1 ≤ length xs → x ≡ get_or xs 0 x → out ≡ old ++ bytes_of (shown x Whole false)
    → out ++ bytes_of (followed (map shown (take (length xs - 1) (drop 1 xs)))) ≡ old ++ bytes_of (separated (map shown xs))
list_begins xs x old out h e o =
    let rest = take (length xs - 1) (drop 1 xs) in
    ap (λ (z : List ℕ). z ++ bytes_of (followed (map shown rest))) o ∙ first_bytes x rest old
    ∙ ap (λ (z : List Expr). old ++ bytes_of (separated (map shown z))) (sym (first_and_rest xs x h e))

pub list_goes_on : (rest : List Expr) (i : ℕ) (x : Expr) (out one two out' z : List ℕ) → i < length rest → x ≡ get_or rest i x → one ≡ out ++ spelling sign.Comma → two ≡ one ++ 32 ∷ []
    → out' ≡ two ++ bytes_of (shown x Whole false) → out ++ bytes_of (followed (map shown (drop i rest))) ≡ z → out' ++ bytes_of (followed (map shown (drop (i + 1) rest))) ≡ z
list_goes_on rest i x out one two out' z h e f g k is =
    let step : drop i rest ≡ x ∷ drop (i + 1) rest = rw add-one (drop-cons rest i x h ∙ ap (λ (t : Expr). t ∷ drop (suc i) rest) (sym e)) in
    ap (λ (y : List ℕ). y ++ bytes_of (followed (map shown (drop (i + 1) rest))))
    (k ∙ ap (λ (y : List ℕ). y ++ bytes_of (shown x Whole false)) (g ∙ ap (λ (y : List ℕ). y ++ 32 ∷ []) f))
    ∙ next_bytes x (drop (i + 1) rest) out ∙ ap (λ (y : List Expr). out ++ bytes_of (followed (map shown y))) (sym step) ∙ is

pub list_ends : (rest : List Expr) (i : ℕ) (out z : List ℕ) → length rest ≤ i → out ++ bytes_of (followed (map shown (drop i rest))) ≡ z → out ≡ z
list_ends rest i out z h is =
    sym (append-nil out) ∙ ap (λ (y : List Expr). out ++ bytes_of (followed (map shown y))) (sym (drop_of_length-le rest h)) ∙ is
