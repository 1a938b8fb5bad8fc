-- A place that has a path of the table is led to it by the router.
use Rattle.std.proofs.Common.{◌≡◌, ◌≢◌, ℕ, zero, suc, ◌+◌, ◌/◌, ◌<◌, ltb, Bool, true, false, ◌&&◌, ◌||◌, ◌==◌, List, [], ◌∷◌, ◌++◌, map, length, get_or, Option, Some, None, inl, inr, ⊎_elim, IsUtf8, refl, sym, ap, ◌∙◌, subst, arith}
use Rattle.std.specs.Borrow.{Bor}
use Rattle.std.specs.Bool.{MatchBool}
use Rattle.std.specs.List.{Contains}
use Rattle.std.proofs.lemmas.Bool.{and_parts, or_cases, eqb-true, ne_eqb, ltb-true, cond_both}
use Rattle.std.proofs.lemmas.List.{get_or-map, length-map}
use lib.Utf8.{encode, encodes, next, scalar, scalars, scalar_cases}
use Rattle.iam_text.proofs.Exact.{text_exact}
use Rattle.matchit.specs.Level.{IsText}
use Rattle.matchit.specs.Router.{RouteOf}
use Rattle.matchit.specs.Seek.{first, has_slash, same_text}
use Rattle.iam_routes.specs.Matched.{Rows, rows_of, tokens_of, apart, whole, has_row, is_clear, all_whole, is_led_to, are_led_to, IsTable}
use Rattle.iam_routes.specs.Routed.{pieces_of, seen_path, IsPathIn, IsPathAt}
use Rattle.iam_routes.specs.Routes.{Piece, RouteLine, fixed, node_in, slash, lines, Lacks, IsPath}
use Rattle.iam_routes.specs.declared.table.TablePath.{TablePath}
use Rattle.iam_routes.proofs.Names.{names_some}
use Rattle.iam_routes.proofs.Listed.{line_listed, listed_line}
use Rattle.iam_routes.proofs.Seeking.{TakesValue, TakesByte, Fits, Has, Clear, AllWhole, Found, seek_found}

-- ---- the bytes of a text

texts_join : (a b : List ℕ) → IsText a → IsText b → IsText (a ++ b)
texts_join [] b here there = there
texts_join (x ∷ a) b here there = (here.0, texts_join a b here.1 there)

char_is_bytes : (c : ℕ) → c < 1114112 → IsText (encode c)
unfolding encode
char_is_bytes c small =
    let last = next c in
    let third = next (c / 64) in
    let second = next (c / 4096) in
    cond_both (ltb c 128) _ _ IsText (λ h. let lt = ltb-true c 128 h in (omega arith, tt)) (λ _.
    cond_both (ltb c 2048) _ _ IsText (λ h. let lt = ltb-true c 2048 h in (omega arith, (omega arith, tt))) (λ _.
    cond_both (ltb c 65536) _ _ IsText (λ h. let lt = ltb-true c 65536 h in (omega arith, (omega arith, (omega arith, tt)))) (λ _.
    (omega arith, (omega arith, (omega arith, (omega arith, tt)))))))

scalar_small : (c : ℕ) → scalar c ≡ true → c < 1114112
scalar_small c h = ⊎_elim (λ low. omega arith) (λ high. high.1) (scalar_cases c h)

chars_are_bytes : (cs : List ℕ) → scalars cs ≡ true → IsText (encodes cs)
chars_are_bytes [] h = tt
chars_are_bytes (c ∷ cs) h =
    let parts = and_parts _ _ h in texts_join (encode c) (encodes cs) (char_is_bytes c (scalar_small c parts.0)) (chars_are_bytes cs parts.1)

text_is_bytes : (bs : List ℕ) → IsUtf8 bs → IsText bs
text_is_bytes bs u = subst IsText u.1.1 (chars_are_bytes u.0 u.1.0)

behind : (a b : List ℕ) → IsText (a ++ b) → IsText b
behind [] b text = text
behind (x ∷ a) b text = behind a b text.1

-- ---- a path as tokens

at_false : (b : Bool) (P Q : Type 0) → b ≡ false → Q → MatchBool b P Q
at_false true P Q fails q = absurd (cc fails)
at_false false P Q fails q = q

text_fits : (text t rest : List ℕ) → IsText (text ++ rest) → Fits t rest → Fits (text ++ t) (text ++ rest)
text_fits [] t rest bytes fits = fits
text_fits (b ∷ text) t rest bytes fits =
    at_false (b == 256) (TakesValue (Fits (text ++ t)) (b ∷ text ++ rest)) (TakesByte b (Fits (text ++ t)) (b ∷ text ++ rest))
    (ne_eqb b 256 (let small : b < 256 = bytes.0 in λ (e : b ≡ 256). omega arith))
    (text ++ rest, refl, text_fits text t rest bytes.1 fits)

no_slash : (text : List ℕ) → Lacks slash text → has_slash text ≡ false
no_slash [] none = refl
no_slash (b ∷ text) none =
    cond_both (b == 47) true (has_slash text) (λ x. x ≡ false)
    (λ yes. let is : b ≡ slash = eqb-true b 47 yes in absurd (none [] text (ap (λ x. x ∷ text) is)))
    (λ _. no_slash text (λ front back same. none (b ∷ front) back (ap (λ t. b ∷ t) same)))

some_bytes : (text : List ℕ) → text ≢ [] → 0 < length text
some_bytes [] some = absurd (some refl)
some_bytes (b ∷ text) some = omega arith

pub path_fits : (pieces : List Piece) (place : List ℕ) (parts : List (List ℕ)) → IsText place → IsPath pieces place parts → Fits (tokens_of pieces) place
path_fits [] place parts bytes is = is.0
path_fits (fixed text ∷ pieces) place parts bytes is =
    let segment : place ≡ slash ∷ text ++ is.0 = is.3.whole ∙ ap (λ s. slash ∷ s ++ is.0) is.3.gives.0 in
    let tail : IsText (text ++ is.0) = (subst IsText segment bytes).1 in
    (text ++ is.0, segment, text_fits text (tokens_of pieces) is.0 tail (path_fits pieces is.0 is.2 (behind text is.0 tail) is.5))
path_fits (node_in kind ∷ pieces) place parts bytes is =
    let segment : List ℕ = is.3.segment in
    let tail : IsText (segment ++ is.0) = (subst IsText is.3.whole bytes).1 in
    let rest = path_fits pieces is.0 is.2 (behind segment is.0 tail) is.5 in
    let some = some_bytes segment (names_some kind segment is.3.gives.0 is.3.gives.1) in
    (segment ++ is.0, is.3.whole, (segment, is.0, refl, some, no_slash segment is.3.plain, rest))

-- ---- the rows of the table

abbrev At : ℕ → RouteOf ℕ → Type 0
At place route = route.value ≡ place

row_there : (place : ℕ) (t : List ℕ) (rows : Rows) → has_row t rows ≡ true → Has (At place) t rows
row_there place t [] has = cc has
row_there place t ((u, route) ∷ rest) has =
    ⊎_elim
    (λ (here : same_text u t ≡ true). inl ((text_exact u t).0 here))
    (λ (more : has_row t rest ≡ true). inr (row_there place t rest more))
    (or_cases (same_text u t) (has_row t rest) has)

row_clear : (place : ℕ) (t : List ℕ) (rows : Rows) → is_clear place t rows ≡ true → Clear (At place) t rows
row_clear place t [] clear = tt
row_clear place t ((u, route) ∷ rest) clear =
    let parts = and_parts ((same_text u t && (route.value == place)) || apart t u) (is_clear place t rest) clear in (
      ⊎_elim
          (λ (here : (same_text u t && (route.value == place)) ≡ true).
          let both = and_parts (same_text u t) (route.value == place) here in inl ((text_exact u t).0 both.0, eqb-true route.value place both.1))
          (λ (other : apart t u ≡ true). inr other)
          (or_cases (same_text u t && (route.value == place)) (apart t u) parts.0),
      row_clear place t rest parts.1,
    )

rows_whole : (place : ℕ) (rows : Rows) → all_whole rows ≡ true → AllWhole (At place) rows
rows_whole place [] all = tt
rows_whole place ((u, route) ∷ rest) all = let parts = and_parts (whole u) (all_whole rest) all in (parts.0, rows_whole place rest parts.1)

led_to : (rows : Rows) (paths : List (List Piece)) (start k n : ℕ) (d : List Piece) → are_led_to rows start paths ≡ true → k < length paths → n ≡ start + k → is_led_to rows n (tokens_of (get_or paths k d)) ≡ true
led_to rows [] start k n d all within is = absurd (omega arith)
led_to rows (pieces ∷ paths) start zero n d all within is =
    let same : start ≡ n = omega arith in
    subst (λ m. is_led_to rows m (tokens_of pieces) ≡ true) same (and_parts (is_led_to rows start (tokens_of pieces)) (are_led_to rows (start + 1) paths) all).0
led_to rows (pieces ∷ paths) start (suc k) n d all within is =
    led_to rows paths (start + 1) k n d (and_parts (is_led_to rows start (tokens_of pieces)) (are_led_to rows (start + 1) paths) all).1 (omega arith) (omega arith)

-- the place of a path that fits is found
found_at : (paths : List TablePath) (k : ℕ) (d : TablePath) (place : List ℕ) (parts : List (List ℕ)) → IsTable paths → IsText place → k < length paths → IsPath (pieces_of (get_or paths k d)) place parts
    → Found (At k) (first (rows_of paths) place)
found_at paths k d place parts table bytes within is =
    let same : get_or (map pieces_of paths) k (pieces_of d) ≡ pieces_of (get_or paths k d) = get_or-map pieces_of paths k d (pieces_of d) within in
    let long : length (map pieces_of paths) ≡ length paths = simp length-map in
    let led = led_to (rows_of paths) (map pieces_of paths) 0 k k (pieces_of d) table.led_to (omega arith) (omega arith) in
    let here : is_led_to (rows_of paths) k (tokens_of (pieces_of (get_or paths k d))) ≡ true = subst (λ ps. is_led_to (rows_of paths) k (tokens_of ps) ≡ true) same led in
    let t : List ℕ = tokens_of (pieces_of (get_or paths k d)) in
    let parts_of = and_parts (has_row t (rows_of paths) && is_clear k t (rows_of paths)) (whole t) here in
    let both = and_parts (has_row t (rows_of paths)) (is_clear k t (rows_of paths)) parts_of.0 in
    seek_found (At k) 0 (rows_of paths) place t bytes (row_there k t (rows_of paths) both.0) (row_clear k t (rows_of paths) both.1) (rows_whole k (rows_of paths) table.all_whole) parts_of.1
    (path_fits (pieces_of (get_or paths k d)) place parts bytes is)

-- a line whose path fits stands on a path whose place is found
line_found : (paths : List TablePath) (place : List ℕ) (line : RouteLine) (parts : List (List ℕ)) (table : IsTable paths) (there : Contains lines line) → IsUtf8 place → IsPath line.path place parts
    → Found (At (line_listed paths line table there).1.0) (first (rows_of paths) place)
line_found paths place line parts table there text is =
    let listed = line_listed paths line table there in
    let on : IsPath (pieces_of listed.0) place parts = subst (λ ps. IsPath ps place parts) listed.3 is in
    found_at paths listed.1.0 listed.0 place parts table (text_is_bytes place text) listed.1.1 (subst (λ p. IsPath (pieces_of p) place parts) (sym listed.1.2) on)

not_none : (P : RouteOf ℕ → Type 0) (found : Option (RouteOf ℕ)) → found ≡ None → Found P found → ⊥
not_none P None is found = found
not_none P (Some route) is found = cc is

is_some_at : (P : RouteOf ℕ → Type 0) (found : Option (RouteOf ℕ)) (route : RouteOf ℕ) → found ≡ Some route → Found P found → P route
is_some_at P None route is found = absurd found
is_some_at P (Some other) route is found = let same : other ≡ route = cc is in subst P same found

other_default : (paths : List TablePath) (k : ℕ) (d e : TablePath) → k < length paths → get_or paths k d ≡ d → get_or paths k e ≡ d
other_default [] k d e within is = absurd (omega arith)
other_default (path ∷ paths) zero d e within is = is
other_default (path ∷ paths) (suc k) d e within is = other_default paths k d e (omega arith) is

-- ---- what the router says

pub none_at : (paths : List TablePath) (place : List ℕ) → IsTable paths → IsUtf8 place → first (rows_of paths) place ≡ None → IsPathAt place None
none_at paths place table text none line parts there is =
    not_none (At (line_listed paths line table there).1.0) (first (rows_of paths) place) none (line_found paths place line parts table there text is)

pub some_at : (paths : List TablePath) (place : List ℕ) (route : RouteOf ℕ) (path : Option (Bor TablePath)) → IsTable paths → IsUtf8 place → first (rows_of paths) place ≡ Some route → IsPathIn paths route.value path → IsPathAt place path
some_at paths place route None table text found past = λ line parts there is.
    let listed = line_listed paths line table there in
    let at : route.value ≡ listed.1.0 = is_some_at (At listed.1.0) (first (rows_of paths) place) route found (line_found paths place line parts table there text is) in
    let within : listed.1.0 < length paths = listed.1.1 in
    omega arith
some_at paths place route (Some path) table text found within = (
  λ line here. listed_line paths path.now line table (route.value, within.0, within.1) here,
  λ line parts there is.
      let listed = line_listed paths line table there in
      let at : route.value ≡ listed.1.0 = is_some_at (At listed.1.0) (first (rows_of paths) place) route found (line_found paths place line parts table there text is) in
      let here : get_or paths listed.1.0 path.now ≡ listed.0 = other_default paths listed.1.0 listed.0 path.now listed.1.1 listed.1.2 in
      let same : listed.0 ≡ path.now = sym here ∙ ap (λ k. get_or paths k path.now) (sym at) ∙ within.1 in
      subst (λ p. Contains (seen_path p) line) same listed.2,
)
