use Rattle.std.proofs.Common.{ℕ, List, subst, sym}
use Rattle.iam_routes.specs.Routes.{Reaches}
use Rattle.iam_routes.specs.Routed.{pieces_of}
use Rattle.iam_routes.proofs.Targets.{no_line_without_path, no_line_without_parts, no_line_without_verb, no_line_of_method, on_table_at, reached}
use Rattle.iam_routes.proofs.route.route_of.Goals as goal

pub returns-in_default : goal.returns-in_default
returns-in_default c =
    let cut = rw c.path_of.ensures at c.cut-at.ensures in
    no_line_without_path c.args.target.now c.cut-at.result.place.now _ cut c.in_default.ensures

pub returns-in_default-2 : goal.returns-in_default-2
returns-in_default-2 c =
    let cut = rw c.path_of.ensures at c.cut-at.ensures in
    let none = rw c.in_default-2.is at c.in_ok-parts.ensures in
    no_line_without_parts c.args.target.now c.cut-at.result.place.now _ c.in-Some.path cut c.in-Some.ensures none

pub returns-in-NoVerb : goal.returns-in-NoVerb
returns-in-NoVerb c =
    let cut = rw c.path_of.ensures at c.cut-at.ensures in
    no_line_without_verb c.args.target.now c.cut-at.result.place.now c.args.method.now _ c.in-Some.path cut c.in-Some.ensures (c.in-NoVerb.ensures (pieces_of c.in-Some.path.now))

pub returns-in-NoMethod : goal.returns-in-NoMethod
returns-in-NoMethod c =
    let cut = rw c.path_of.ensures at c.cut-at.ensures in
    let parts = rw c.in-Some-2.is at c.in_ok-parts.ensures in
    let said = c.in-NoMethod.ensures (pieces_of c.in-Some.path.now) in (
      on_table_at c.args.target.now c.cut-at.result.place.now c.args.method.now _ c.in-Some.path c.in-Some-2.parts cut c.in-Some.ensures parts said,
      no_line_of_method c.args.target.now c.cut-at.result.place.now c.args.method.now _ c.in-Some.path cut c.in-Some.ensures said,
    )

pub returns-in_ok-pairs_of-in-At : goal.returns-in_ok-pairs_of-in-At
returns-in_ok-pairs_of-in-At c =
    let cut = rw c.path_of.ensures at c.cut-at.ensures in
    let parts = rw c.in-Some-2.is at c.in_ok-parts.ensures in
    let line = reached c.args.target.now c.cut-at.result.place.now c.args.method.now _ c.in-Some.path c.in-Some-2.parts c.in-At.line cut c.in-Some.ensures parts (c.in-At.ensures (pieces_of c.in-Some.path.now)) in
    (line.0, subst (λ (p : List (List ℕ)). Reaches c.args.method.now c.args.target.now line.0 p) (sym c.parts.view_is) line.1, line.2, c.in_ok-pairs_of-in-At.ensures)
