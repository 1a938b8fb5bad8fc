-- The segments of places, and the parts that they give.
use Rattle.std.proofs.Common.{◌≡◌, ◌≢◌, ℕ, ◌+◌, ◌<◌, ◌≤◌, Bool, true, false, not, ◌||◌, List, [], ◌∷◌, ◌++◌, map, length, get_or, take, drop, Some, None, inl, inr, ⊎_elim, refl, sym, ap, ◌∙◌, subst, arith}
use Rattle.std.specs.Bool.{◌==◌}
use Rattle.std.specs.Cmp.Lexicographic.{pointwise}
use Rattle.std.proofs.lemmas.Bool.{or_cases, not-true, eqb-true}
use Rattle.std.proofs.lemmas.List.{append_assoc, append-nil, drop_more, drop_all, get_or-take, take-append-drop}
use Rattle.iam_text.proofs.Exact.{text_exact}
use Rattle.iam_routes.specs.Places.{seen_piece, Begins, IsHead, IsGiven, ArePartsOf}
use Rattle.iam_routes.specs.Routes.{Piece, fixed, node_in, slash, Lacks, Gives, BeginsWith, IsPath}
use Rattle.iam_routes.specs.declared.segment.Segment.{Segment}
use Rattle.iam_routes.specs.declared.table.Piece.{Piece as TablePiece}
use Rattle.iam_routes.proofs.Cutting.{lacks}
use Rattle.iam_routes.proofs.Names.{names_one}

-- ---- one segment

lacks_tail : (byte b : ℕ) (text : List ℕ) → Lacks byte (b ∷ text) → Lacks byte text
lacks_tail byte b text none front back same = none (b ∷ front) back (ap (λ t. b ∷ t) same)

not_first : {B : Type 0} (b : ℕ) (text rest more : List ℕ) → Lacks slash (b ∷ text) → Begins rest → rest ≡ b ∷ more → B
not_first b text rest more none begins is =
    ⊎_elim
    (λ (end : rest ≡ []). let e : [] ≡ b ∷ more = sym end ∙ is in absurd (cc e))
    (λ (on : (tail : List ℕ) × (rest ≡ slash ∷ tail)).
    let e : slash ∷ on.0 ≡ b ∷ more = sym on.1 ∙ is in
    let first : b ≡ slash = cc in
    absurd (none [] text (ap (λ x. x ∷ text) first)))
    begins

pub one_segment : (a b r s : List ℕ) → Lacks slash a → Lacks slash b → Begins r → Begins s → a ++ r ≡ b ++ s → (a ≡ b) × (r ≡ s)
one_segment [] [] r s none nothing ends stops same = (refl, same)
one_segment [] (y ∷ b) r s none nothing ends stops same = not_first y b r (b ++ s) nothing ends same
one_segment (x ∷ a) [] r s none nothing ends stops same = not_first x a s (a ++ r) none stops (sym same)
one_segment (x ∷ a) (y ∷ b) r s none nothing ends stops same =
    let first : x ≡ y = cc in
    let rest : a ++ r ≡ b ++ s = cc in
    let parts = one_segment a b r s (lacks_tail slash x a none) (lacks_tail slash y b nothing) ends stops rest in
    let more : a ≡ b = parts.0 in
    (cc, parts.1)

behind_slash : (a b : List ℕ) → slash ∷ a ≡ slash ∷ b → a ≡ b
behind_slash a b same = cc

-- ---- paths

pub path_begins : (pieces : List Piece) (place : List ℕ) (parts : List (List ℕ)) → IsPath pieces place parts → Begins place
path_begins [] place parts is = inl is.0
path_begins (piece ∷ pieces) place parts is = inr (is.3.segment ++ is.0, is.3.whole)

given_one : (piece : Piece) (segment : List ℕ) (given other : List (List ℕ)) → Gives piece segment given → Gives piece segment other → given ≡ other
given_one (fixed text) segment given other h g = h.1 ∙ sym g.1
given_one (node_in kind) segment given other h g = h.2 ∙ ap (λ p. p ∷ []) (names_one kind segment h.0 g.0 h.1 g.1) ∙ sym g.2

-- a segment of the place, which is that of the piece
pub segment_is : (piece : Piece) (place segment rest : List ℕ) (left : List ℕ) (given : List (List ℕ)) → place ≡ slash ∷ segment ++ rest → Lacks slash segment → Begins rest
    → BeginsWith piece place left given → Begins left → (left ≡ rest) × Gives piece segment given
segment_is piece place segment rest left given is none begins with ends =
    let cut = one_segment with.segment segment left rest with.plain none ends begins (behind_slash (with.segment ++ left) (segment ++ rest) (sym with.whole ∙ is)) in
    (cut.1, subst (λ s. Gives piece s given) cut.0 with.gives)

-- a place gives the parts of a path once
pub parts_one : (pieces : List Piece) (place : List ℕ) (parts other : List (List ℕ)) → IsPath pieces place parts → IsPath pieces place other → parts ≡ other
parts_one [] place parts other h g = h.1 ∙ sym g.1
parts_one (piece ∷ pieces) place parts other h g =
    let here = segment_is piece place g.3.segment g.0 h.0 h.1 g.3.whole g.3.plain (path_begins pieces g.0 g.2 g.5) h.3 (path_begins pieces h.0 h.2 h.5) in
    let given : h.1 ≡ g.1 = given_one piece g.3.segment h.1 g.1 here.1 g.3.gives in
    let more : h.2 ≡ g.2 = parts_one pieces g.0 h.2 g.2 (subst (λ r. IsPath pieces r h.2) here.0 h.5) g.5 in
    h.4 ∙ ap (λ x. x ++ h.2) given ∙ ap (λ x. g.1 ++ x) more ∙ sym g.4

-- ---- paths that no place has both of

abbrev pub differ : Piece → Piece → Bool
differ (fixed a) (fixed b) = not (pointwise ◌==◌ a b)
differ (fixed a) (node_in g) = false
differ (node_in f) (fixed b) = false
differ (node_in f) (node_in g) = false

abbrev pub paths_apart : List Piece → List Piece → Bool
paths_apart [] [] = false
paths_apart [] (q ∷ qs) = true
paths_apart (p ∷ ps) [] = true
paths_apart (p ∷ ps) (q ∷ qs) = differ p q || paths_apart ps qs

other_piece : (p q : Piece) (segment : List ℕ) (given other : List (List ℕ)) → differ p q ≡ true → Gives p segment given → Gives q segment other → ⊥
other_piece (fixed a) (fixed b) segment given other differs h g =
    let same : pointwise ◌==◌ a b ≡ true = (text_exact a b).1 (sym h.0 ∙ g.0) in
    let e : true ≡ false = sym same ∙ not-true (pointwise ◌==◌ a b) differs in
    cc e
other_piece (fixed a) (node_in g) segment given other differs h k = cc differs
other_piece (node_in f) (fixed b) segment given other differs h g = cc differs
other_piece (node_in f) (node_in g) segment given other differs h k = cc differs

pub not_both : (ps qs : List Piece) (place : List ℕ) (parts other : List (List ℕ)) → paths_apart ps qs ≡ true → IsPath ps place parts → IsPath qs place other → ⊥
not_both [] [] place parts other apart h g = cc apart
not_both [] (q ∷ qs) place parts other apart h g = let e : [] ≡ slash ∷ g.3.segment ++ g.0 = sym h.0 ∙ g.3.whole in cc e
not_both (p ∷ ps) [] place parts other apart h g = let e : [] ≡ slash ∷ h.3.segment ++ h.0 = sym g.0 ∙ h.3.whole in cc e
not_both (p ∷ ps) (q ∷ qs) place parts other apart h g =
    let here = segment_is p place g.3.segment g.0 h.0 h.1 g.3.whole g.3.plain (path_begins qs g.0 g.2 g.5) h.3 (path_begins ps h.0 h.2 h.5) in
    ⊎_elim
    (λ (differs : differ p q ≡ true). other_piece p q g.3.segment h.1 g.1 differs here.1 g.3.gives)
    (λ (more : paths_apart ps qs ≡ true). not_both ps qs g.0 h.2 g.2 more (subst (λ r. IsPath ps r h.2) here.0 h.5) g.5)
    (or_cases (differ p q) (paths_apart ps qs) apart)

-- ---- a path, a segment after the other

-- what is left of the place is that of the pieces that are left, and the parts so far stand before its parts
pub record Follows (whole left : List Piece) (place rest : List ℕ) (parts : List (List ℕ)) : Type 0 where
  pub to : (more : List (List ℕ)) → IsPath left rest more → IsPath whole place (parts ++ more)
  pub back : (all : List (List ℕ)) → IsPath whole place all → (more : List (List ℕ)) × (all ≡ parts ++ more) × IsPath left rest more

pub follows_first : (whole : List Piece) (place : List ℕ) → Follows whole whole place place []
follows_first whole place = record { to = λ more is. is; back = λ all is. (all, refl, is) }

follows_next : (whole left : List Piece) (piece : Piece) (place rest segment after : List ℕ) (parts now given : List (List ℕ)) → Follows whole (piece ∷ left) place rest parts
    → rest ≡ slash ∷ segment ++ after → Lacks slash segment → Begins after → Gives piece segment given → now ≡ parts ++ given → Follows whole left place after now
follows_next whole left piece place rest segment after parts now given follows is none begins gives grown = record {
  to = λ more here.
      let step : IsPath (piece ∷ left) rest (given ++ more) = (after, given, more, record { segment = segment; whole = is; plain = none; gives = gives }, refl, here) in
      subst (λ all. IsPath whole place all) (sym (append_assoc parts given more) ∙ ap (λ p. p ++ more) (sym grown)) (follows.to (given ++ more) step);
  back = λ all there.
      let was = follows.back all there in
      let step : IsPath (piece ∷ left) rest was.0 = was.2 in
      let here = segment_is piece rest segment after step.0 step.1 is none begins step.3 (path_begins left step.0 step.2 step.5) in
      let same : step.1 ≡ given = given_one piece segment step.1 given here.1 gives in (
        step.2,
        was.1 ∙ ap (λ m. parts ++ m) step.4 ∙ ap (λ g. parts ++ (g ++ step.2)) same ∙ sym (append_assoc parts given step.2) ∙ ap (λ p. p ++ step.2) (sym grown),
        subst (λ r. IsPath left r step.2) here.0 step.5,
      );
}

dropped : (pieces : List TablePiece) (i : ℕ) (d : TablePiece) → i < length pieces → map seen_piece (drop i pieces) ≡ seen_piece (get_or pieces i d) ∷ map seen_piece (drop (i + 1) pieces)
dropped pieces i d within = ap (map seen_piece) (drop_more pieces i d within)

-- ---- the steps of the loop

pub next_piece : (pieces : List TablePiece) (i : ℕ) (d : TablePiece) (place rest : List ℕ) (parts now : List (List ℕ)) (segment : Segment) (tail : List ℕ) → i < length pieces
    → Follows (map seen_piece pieces) (map seen_piece (drop i pieces)) place rest parts
    → rest ≡ slash ∷ tail → IsHead tail segment → IsGiven (seen_piece (get_or pieces i d)) segment.text.now parts now true
    → Follows (map seen_piece pieces) (map seen_piece (drop (i + 1) pieces)) place segment.rest.now now
next_piece pieces i d place rest parts now segment tail within follows is head given =
    follows_next (map seen_piece pieces) (map seen_piece (drop (i + 1) pieces)) (seen_piece (get_or pieces i d)) place rest segment.text.now segment.rest.now parts now given.0
    (subst (λ l. Follows (map seen_piece pieces) l place rest parts) (dropped pieces i d within) follows)
    (is ∙ ap (λ t. slash ∷ t) head.0) head.1 head.2 given.1 given.2

-- where no segment is left, or none for the piece, the place has no parts
pub no_segment : (pieces : List TablePiece) (i : ℕ) (d : TablePiece) (place rest : List ℕ) (parts : List (List ℕ)) → i < length pieces
    → Follows (map seen_piece pieces) (map seen_piece (drop i pieces)) place rest parts → ((tail : List ℕ) → rest ≢ slash ∷ tail) → ArePartsOf (map seen_piece pieces) place None
no_segment pieces i d place rest parts within follows none all is =
    let left = follows.back all is in
    let step : IsPath (seen_piece (get_or pieces i d) ∷ map seen_piece (drop (i + 1) pieces)) rest left.0 = subst (λ l. IsPath l rest left.0) (dropped pieces i d within) left.2 in
    none (step.3.segment ++ step.0) step.3.whole

pub no_piece : (pieces : List TablePiece) (i : ℕ) (d : TablePiece) (place rest : List ℕ) (parts now : List (List ℕ)) (segment : Segment) (tail : List ℕ) → i < length pieces
    → Follows (map seen_piece pieces) (map seen_piece (drop i pieces)) place rest parts
    → rest ≡ slash ∷ tail → IsHead tail segment → IsGiven (seen_piece (get_or pieces i d)) segment.text.now parts now false
    → ArePartsOf (map seen_piece pieces) place None
no_piece pieces i d place rest parts now segment tail within follows is head none all there =
    let left = follows.back all there in
    let rests : List Piece = map seen_piece (drop (i + 1) pieces) in
    let step : IsPath (seen_piece (get_or pieces i d) ∷ rests) rest left.0 = subst (λ l. IsPath l rest left.0) (dropped pieces i d within) left.2 in
    let here = segment_is (seen_piece (get_or pieces i d)) rest segment.text.now segment.rest.now step.0 step.1 (is ∙ ap (λ t. slash ∷ t) head.0) head.1 head.2 step.3 (path_begins rests step.0 step.2 step.5) in
    none step.1 here.1

nothing_left : (pieces : List TablePiece) (i : ℕ) → length pieces ≤ i → map seen_piece (drop i pieces) ≡ []
nothing_left pieces i past = ap (map seen_piece) (drop_all i pieces past)

pub all_taken : (pieces : List TablePiece) (i : ℕ) (place rest : List ℕ) (parts : List (List ℕ)) → length pieces ≤ i
    → Follows (map seen_piece pieces) (map seen_piece (drop i pieces)) place rest parts → rest ≡ [] → ArePartsOf (map seen_piece pieces) place (Some parts)
all_taken pieces i place rest parts past follows end =
    let here : IsPath (map seen_piece (drop i pieces)) rest [] = subst (λ l. IsPath l rest []) (sym (nothing_left pieces i past)) (end, refl) in
    subst (λ p. IsPath (map seen_piece pieces) place p) (append-nil parts) (follows.to [] here)

pub more_left : (pieces : List TablePiece) (i : ℕ) (place rest : List ℕ) (parts : List (List ℕ)) → length pieces ≤ i
    → Follows (map seen_piece pieces) (map seen_piece (drop i pieces)) place rest parts → rest ≢ [] → ArePartsOf (map seen_piece pieces) place None
more_left pieces i place rest parts past follows more all is =
    let left = follows.back all is in
    let here : IsPath [] rest left.0 = subst (λ l. IsPath l rest left.0) (nothing_left pieces i past) left.2 in
    more here.0

-- ---- the head of a text

-- it ends before the first `/`
pub head_at : (text front back : List ℕ) (end : ℕ) → front ≡ take end text → back ≡ drop end text → length front ≡ end → end < length text → get_or text end 0 ≡ 47
    → ((i : ℕ) → i < end → get_or text i 0 ≢ 47) → (text ≡ front ++ back) × Lacks slash front × Begins back
head_at text front back end before behind size within at none = (
  sym (take-append-drop end text) ∙ ap (λ f. f ++ drop end text) (sym before) ∙ ap (λ b. front ++ b) (sym behind),
  lacks 47 front (λ i inside.
      let early : i < end = omega arith in
      subst (λ f. get_or f i 0 ≢ 47) (sym before) (subst (λ b. b ≢ 47) (sym (get_or-take end text i 0 early)) (none i early))),
  inr (drop (end + 1) text, behind ∙ drop_more text end 0 within ∙ ap (λ b. b ∷ drop (end + 1) text) at),
)

-- or with the text
pub head_of_all : (text : List ℕ) → ((i : ℕ) → i < length text → get_or text i 0 ≢ 47) → (text ≡ text ++ []) × Lacks slash text × Begins []
head_of_all text none = (sym (append-nil text), lacks 47 text none, inl refl)

pub nil_from : (text : List ℕ) (test : Bool) → test ≡ (length text == 0) → test ≡ true → text ≡ []
nil_from [] test is holds = refl
nil_from (b ∷ text) test is holds = absurd (let none = eqb-true (length (b ∷ text)) 0 (sym is ∙ holds) in omega arith)
