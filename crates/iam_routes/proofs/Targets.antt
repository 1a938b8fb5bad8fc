-- Targets and the lines of the route table.
use Rattle.std.proofs.Common.{◌≡◌, ℕ, true, false, not, ◌||◌, List, Option, Some, None, ◌⊎◌, ⊎_elim, refl, sym, ◌∙◌, subst}
use Rattle.std.specs.Borrow.{Bor}
use Rattle.std.specs.List.{Contains}
use Rattle.std.specs.Bool.{◌==◌}
use Rattle.std.specs.Cmp.Lexicographic.{pointwise}
use Rattle.std.proofs.lemmas.Bool.{or_cases, not-true}
use Rattle.iam_text.proofs.Exact.{text_exact}
use Rattle.iam_json.specs.declared.route.Line.{Line}
use Rattle.iam_routes.specs.Places.{ArePartsOf}
use Rattle.iam_routes.specs.Routed.{pieces_of, same_verb, seen_path, IsPathAt, IsFound}
use Rattle.iam_routes.specs.Routes.{RouteLine, lines, path_of, IsCut, IsPath, HasPath, IsOnTable, Reaches}
use Rattle.iam_routes.specs.declared.line.Found.TheVariants.{NoVerb, NoMethod, At}
use Rattle.iam_routes.specs.declared.table.TablePath.{TablePath}
use Rattle.iam_routes.proofs.Cutting.{one_cut}
use Rattle.iam_routes.proofs.Lines.{other_one}
use Rattle.iam_routes.proofs.Listed.{on_path, lines_apart, lines_told}
use Rattle.iam_routes.proofs.Segments.{paths_apart, not_both, parts_one}

-- where the path is cut, the line has that verb, and its path is the place's
cut_as_line : (target place : List ℕ) (verb : Option (List ℕ)) (line : RouteLine) (parts : List (List ℕ)) → IsCut (path_of target) place verb → HasPath line target parts
    → (line.verb ≡ verb) × IsPath line.path place parts
cut_as_line target place verb line parts cut path =
    let same = one_cut (path_of target) path.0 place line.verb verb path.1 cut in
    (same.1, subst (λ (p : List ℕ). IsPath line.path p parts) same.0 path.2)

-- a line whose path the place has is on the path that was found
only_path : (place : List ℕ) (path : Bor TablePath) (line : RouteLine) (parts : List (List ℕ)) → IsPathAt place (Some path) → Contains lines line → IsPath line.path place parts
    → Contains (seen_path path.now) line × IsPath (pieces_of path.now) place parts
only_path place path line parts found there is =
    let here : Contains (seen_path path.now) line = found.1 line parts there is in
    (here, subst (λ ps. IsPath ps place parts) (on_path (pieces_of path.now) path.now.lines.now line here) is)

-- ---- what is not on the table

pub no_line_without_path : (target place : List ℕ) (verb : Option (List ℕ)) → IsCut (path_of target) place verb → IsPathAt place None → ¬ (IsOnTable target)
no_line_without_path target place verb cut none on =
    let here = cut_as_line target place verb on.0 on.2.0 cut on.2.1 in
    none on.0 on.2.0 on.1 here.1

pub no_line_without_parts : (target place : List ℕ) (verb : Option (List ℕ)) (path : Bor TablePath) → IsCut (path_of target) place verb → IsPathAt place (Some path)
    → ArePartsOf (pieces_of path.now) place None → ¬ (IsOnTable target)
no_line_without_parts target place verb path cut found none on =
    let here = cut_as_line target place verb on.0 on.2.0 cut on.2.1 in
    none on.2.0 (only_path place path on.0 on.2.0 found on.1 here.1).1

pub no_line_without_verb : (target place method : List ℕ) (verb : Option (List ℕ)) (path : Bor TablePath) → IsCut (path_of target) place verb → IsPathAt place (Some path)
    → IsFound (seen_path path.now) method verb NoVerb → ¬ (IsOnTable target)
no_line_without_verb target place method verb path cut found none on =
    let here = cut_as_line target place verb on.0 on.2.0 cut on.2.1 in
    none on.0 (only_path place path on.0 on.2.0 found on.1 here.1).0 here.0

-- ---- what is on the table

-- a line of the found path, with the cut verb
pub path_as_cut : (target place : List ℕ) (verb : Option (List ℕ)) (path : TablePath) (line : RouteLine) (parts : List (List ℕ)) → IsCut (path_of target) place verb → Contains (seen_path path) line
    → line.verb ≡ verb → IsPath (pieces_of path) place parts → HasPath line target parts
path_as_cut target place verb path line parts cut there same is =
    (place, subst (IsCut (path_of target) place) (sym same) cut, subst (λ ps. IsPath ps place parts) (sym (on_path (pieces_of path) path.lines.now line there)) is)

pub on_table_at : (target place method : List ℕ) (verb : Option (List ℕ)) (path : Bor TablePath) (parts : List (List ℕ)) → IsCut (path_of target) place verb → IsPathAt place (Some path)
    → IsPath (pieces_of path.now) place parts → IsFound (seen_path path.now) method verb NoMethod → IsOnTable target
on_table_at target place method verb path parts cut found is said =
    (said.0.0, found.0 said.0.0 said.0.1, (parts, path_as_cut target place verb path.now said.0.0 parts cut said.0.1 said.0.2 is))

pub no_line_of_method : (target place method : List ℕ) (verb : Option (List ℕ)) (path : Bor TablePath) → IsCut (path_of target) place verb → IsPathAt place (Some path)
    → IsFound (seen_path path.now) method verb NoMethod → (line : RouteLine) (parts : List (List ℕ)) → ¬ (Reaches method target line parts)
no_line_of_method target place method verb path cut found said line parts reaches =
    let here = cut_as_line target place verb line parts cut reaches.path in
    said.1 line (only_path place path line parts found reaches.on_table here.1).0 here.0 reaches.method_is

pub reached : (target place method : List ℕ) (verb : Option (List ℕ)) (path : Bor TablePath) (parts : List (List ℕ)) (which : Line) → IsCut (path_of target) place verb → IsPathAt place (Some path)
    → IsPath (pieces_of path.now) place parts → IsFound (seen_path path.now) method verb (At which) → (line : RouteLine) × Reaches method target line parts × (line.line ≡ which)
reached target place method verb path parts which cut found is said = (
  said.0,
  record { on_table = found.0 said.0 said.1; method_is = said.3; path = path_as_cut target place verb path.now said.0 parts cut said.1 said.2 is },
  said.4,
)

-- ---- a target reaches one line, with its parts

apart_never : (a b : RouteLine) (place : List ℕ) (parts other : List (List ℕ)) → a.verb ≡ b.verb → a.method ≡ b.method → IsPath a.path place parts → IsPath b.path place other
    → lines_apart a b ≡ true → ⊥
apart_never a b place parts other verb method here there apart =
    ⊎_elim
    (λ (words : (not (same_verb a.verb b.verb) || not (pointwise ◌==◌ a.method b.method)) ≡ true).
    ⊎_elim
    (λ (verbs : not (same_verb a.verb b.verb) ≡ true). other_one a.verb b.verb (same_verb a.verb b.verb) refl (not-true (same_verb a.verb b.verb) verbs) verb)
    (λ (methods : not (pointwise ◌==◌ a.method b.method) ≡ true).
    let e : true ≡ false = sym ((text_exact a.method b.method).1 method) ∙ not-true (pointwise ◌==◌ a.method b.method) methods in
    cc e)
    (or_cases (not (same_verb a.verb b.verb)) (not (pointwise ◌==◌ a.method b.method)) words))
    (λ (paths : paths_apart a.path b.path ≡ true). not_both a.path b.path place parts other paths here there)
    (or_cases (not (same_verb a.verb b.verb) || not (pointwise ◌==◌ a.method b.method)) (paths_apart a.path b.path) apart)

same_parts : (a b : RouteLine) (place : List ℕ) (parts other : List (List ℕ)) → a ≡ b → IsPath a.path place parts → IsPath b.path place other → parts ≡ other
same_parts a b place parts other same here there = parts_one b.path place parts other (subst (λ (l : RouteLine). IsPath l.path place parts) same here) there

pub one_line : (method target : List ℕ) (line other : RouteLine) (parts more : List (List ℕ)) → Reaches method target line parts → Reaches method target other more → (line ≡ other) × (parts ≡ more)
one_line method target line other parts more reaches also =
    let here = cut_as_line target also.path.0 other.verb line parts also.path.1 reaches.path in
    let methods : line.method ≡ other.method = reaches.method_is ∙ sym also.method_is in
    ⊎_elim
    (λ (same : line ≡ other). (same, same_parts line other also.path.0 parts more same here.1 also.path.2))
    (λ (apart : (lines_apart line other ≡ true) ⊎ (lines_apart other line ≡ true)).
    absurd
    (⊎_elim
    (λ (before : lines_apart line other ≡ true). apart_never line other also.path.0 parts more here.0 methods here.1 also.path.2 before)
    (λ (behind : lines_apart other line ≡ true). apart_never other line also.path.0 more parts (sym here.0) (sym methods) also.path.2 here.1 behind)
    apart))
    (lines_told line other reaches.on_table also.on_table)
