-- The lines of a path, one after the other.
use Rattle.std.proofs.Common.{◌≡◌, ◌≢◌, ℕ, ◌+◌, ◌<◌, ◌≤◌, Bool, true, false, List, [], ◌∷◌, ◌++◌, length, get_or, map, take, Option, Some, None, refl, sym, ap, ◌∙◌, subst, ⊎_elim, arith}
use Rattle.std.specs.List.{Contains}
use Rattle.std.specs.Cmp.Lexicographic.{pointwise}
use Rattle.std.specs.Bool.{◌==◌}
use Rattle.std.proofs.lemmas.List.{take_more, take_all, map-append, length-map, get_or-map}
use Rattle.std.proofs.lemmas.List.Elements.{Contains-push, Contains-push_cases, Contains-append_left, Contains-get_or}
use Rattle.iam_text.proofs.Exact.{text_exact}
use Rattle.iam_routes.specs.Routes.{Piece, RouteLine}
use Rattle.iam_routes.specs.Routed.{same_verb, seen_line, IsFound}
use Rattle.iam_routes.specs.declared.table.PathLine.{PathLine}
use Rattle.iam_routes.specs.declared.line.Found.{Found}
use Rattle.iam_routes.specs.declared.line.Found.TheVariants.{NoVerb, NoMethod, At}

-- the lines that were looked at have no line with both
abbrev pub IsOpen : List RouteLine → List ℕ → Option (List ℕ) → Found → Type 0
IsOpen table method verb NoVerb = IsFound table method verb NoVerb
IsOpen table method verb NoMethod = IsFound table method verb NoMethod
IsOpen table method verb (At which) = ⊥

still_open : (table : List RouteLine) (method : List ℕ) (verb : Option (List ℕ)) (found : Found) (line : RouteLine) → IsOpen table method verb found → line.verb ≢ verb → IsOpen (table ++ line ∷ []) method verb found
still_open table method verb NoVerb line before other = λ l there same.
    ⊎_elim (λ was. before l was same) (λ (is : line ≡ l). other (ap (λ (x : RouteLine). x.verb) is ∙ same)) (Contains-push_cases table line l there)
still_open table method verb NoMethod line before other = (
  (before.0.0, Contains-append_left table (line ∷ []) before.0.0 before.0.1, before.0.2),
  λ l there same. ⊎_elim (λ was. before.1 l was same) (λ (is : line ≡ l). absurd (other (ap (λ (x : RouteLine). x.verb) is ∙ same))) (Contains-push_cases table line l there),
)
still_open table method verb (At which) line before other = before

no_method : (table : List RouteLine) (method : List ℕ) (verb : Option (List ℕ)) (found : Found) (line : RouteLine) → IsOpen table method verb found → line.verb ≡ verb → line.method ≢ method → IsOpen (table ++ line ∷ []) method verb NoMethod
no_method table method verb NoVerb line before has other = (
  (line, Contains-push table line, has),
  λ l there same. ⊎_elim (λ was. absurd (before l was same)) (λ (is : line ≡ l). λ e. other (ap (λ (x : RouteLine). x.method) is ∙ e)) (Contains-push_cases table line l there),
)
no_method table method verb NoMethod line before has other = (
  (line, Contains-push table line, has),
  λ l there same. ⊎_elim (λ was. before.1 l was same) (λ (is : line ≡ l). λ e. other (ap (λ (x : RouteLine). x.method) is ∙ e)) (Contains-push_cases table line l there),
)
no_method table method verb (At which) line before has other = absurd before

found_open : (table : List RouteLine) (method : List ℕ) (verb : Option (List ℕ)) (found : Found) → IsOpen table method verb found → IsFound table method verb found
found_open table method verb NoVerb nothing = nothing
found_open table method verb NoMethod nothing = nothing
found_open table method verb (At which) nothing = absurd nothing

nothing_there : {A B : Type 0} (x : A) → Contains [] x → B
nothing_there x there = absurd (omega (arith, there.1))

-- ---- the steps of the loop

pub same_text : (a b : List ℕ) (r : Bool) → r ≡ pointwise ◌==◌ a b → r ≡ true → a ≡ b
same_text a b r is holds = (text_exact a b).0 (sym is ∙ holds)

pub other_text : (a b : List ℕ) (r : Bool) → r ≡ pointwise ◌==◌ a b → r ≡ false → a ≢ b
other_text a b r is fails same = let holds = (text_exact a b).1 same in let e : true ≡ false = sym holds ∙ sym is ∙ fails in cc e

verb_told : (a b : Option (List ℕ)) → same_verb a b ≡ true → a ≡ b
verb_told None None holds = refl
verb_told None (Some b) holds = cc holds
verb_told (Some a) None holds = cc holds
verb_told (Some a) (Some b) holds = ap Some ((text_exact a b).0 holds)

verb_other : (a b : Option (List ℕ)) → same_verb a b ≡ false → a ≢ b
verb_other None None fails same = cc fails
verb_other None (Some b) fails same = cc same
verb_other (Some a) None fails same = cc same
verb_other (Some a) (Some b) fails same =
    let texts : a ≡ b = cc same in
    let e : true ≡ false = sym ((text_exact a b).1 texts) ∙ fails in
    cc e

pub same_one : (a b : Option (List ℕ)) (r : Bool) → r ≡ same_verb a b → r ≡ true → a ≡ b
same_one a b r is holds = verb_told a b (sym is ∙ holds)

pub other_one : (a b : Option (List ℕ)) (r : Bool) → r ≡ same_verb a b → r ≡ false → a ≢ b
other_one a b r is fails = verb_other a b (sym is ∙ fails)

-- the lines that were looked at, on the pieces of a path
abbrev pub IsOpenOn : List PathLine → ℕ → List ℕ → Option (List ℕ) → Found → Type 0
IsOpenOn lines i method verb found = (pieces : List Piece) → IsOpen (map (seen_line pieces) (take i lines)) method verb found

one_more : (pieces : List Piece) (lines : List PathLine) (i : ℕ) (d : PathLine) → i < length lines
    → map (seen_line pieces) (take (i + 1) lines) ≡ map (seen_line pieces) (take i lines) ++ seen_line pieces (get_or lines i d) ∷ []
one_more pieces lines i d within = ap (map (seen_line pieces)) (take_more lines i d within) ∙ map-append (seen_line pieces) (take i lines) (get_or lines i d ∷ [])

pub next_other : (lines : List PathLine) (i : ℕ) (d : PathLine) (method : List ℕ) (verb : Option (List ℕ)) (found : Found) → i < length lines → IsOpenOn lines i method verb found
    → (seen_line [] (get_or lines i d)).verb ≢ verb → IsOpenOn lines (i + 1) method verb found
next_other lines i d method verb found within before other pieces =
    subst (λ (t : List RouteLine). IsOpen t method verb found) (sym (one_more pieces lines i d within))
    (still_open (map (seen_line pieces) (take i lines)) method verb found (seen_line pieces (get_or lines i d)) (before pieces) other)

pub next_method : (lines : List PathLine) (i : ℕ) (d : PathLine) (method : List ℕ) (verb : Option (List ℕ)) (found : Found) → i < length lines → IsOpenOn lines i method verb found
    → (seen_line [] (get_or lines i d)).verb ≡ verb → (get_or lines i d).method.now ≢ method → IsOpenOn lines (i + 1) method verb NoMethod
next_method lines i d method verb found within before has other pieces =
    subst (λ (t : List RouteLine). IsOpen t method verb NoMethod) (sym (one_more pieces lines i d within))
    (no_method (map (seen_line pieces) (take i lines)) method verb found (seen_line pieces (get_or lines i d)) (before pieces) has other)

pub found_here : (lines : List PathLine) (i : ℕ) (d : PathLine) (method : List ℕ) (verb : Option (List ℕ)) → i < length lines
    → (seen_line [] (get_or lines i d)).verb ≡ verb → (get_or lines i d).method.now ≡ method
    → (pieces : List Piece) → IsFound (map (seen_line pieces) lines) method verb (At (get_or lines i d).line)
found_here lines i d method verb within has is pieces =
    let f : PathLine → RouteLine = seen_line pieces in
    let at : get_or (map f lines) i (f d) ≡ f (get_or lines i d) = get_or-map f lines i d (f d) within in
    let there = Contains-get_or (map f lines) i (f d) (simp length-map within) in
    (f (get_or lines i d), subst (Contains (map f lines)) at there, has, is, refl)

pub all_looked_at : (lines : List PathLine) (i : ℕ) (method : List ℕ) (verb : Option (List ℕ)) (found : Found) → length lines ≤ i → IsOpenOn lines i method verb found
    → (pieces : List Piece) → IsFound (map (seen_line pieces) lines) method verb found
all_looked_at lines i method verb found past nothing pieces =
    subst (λ (l : List PathLine). IsFound (map (seen_line pieces) l) method verb found) (take_all i lines past)
    (found_open (map (seen_line pieces) (take i lines)) method verb found (nothing pieces))

pub none_looked_at : (lines : List PathLine) (method : List ℕ) (verb : Option (List ℕ)) → IsOpenOn lines 0 method verb NoVerb
none_looked_at lines method verb pieces line there same = nothing_there line there
