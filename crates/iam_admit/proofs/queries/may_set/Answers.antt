use Rattle.std.proofs.Common.{◌≡◌, ℕ, List, Option, ap, subst, sym, ◌∙◌}
use Rattle.std.specs.Prelude.{IsTrue, codes}
use Rattle.iam_types.specs.declared.query.Decision.{Decision}
use Rattle.iam_types.specs.declared.query.Query.{Query}
use Rattle.iam_types.specs.declared.refusal.Refusal.{Refusal}
use Rattle.iam_types.specs.declared.tables.Tables.{Tables}
use Rattle.iam_model.specs.Catalogue.{is_permission}
use Rattle.iam_law.specs.Admit.{set_query}
use Rattle.iam_law.specs.Asked.{permission_at, unless_allowed}
use Rattle.iam_law.specs.Decide.{decide}
use Rattle.iam_admit.specs.Follows.{Follows}
use Rattle.iam_admit.proofs.Known.{set_is_known}
use Rattle.iam_admit.proofs.queries.may_set.Goals as goal

pub permission_named-requires : goal.permission_named-requires
permission_named-requires c = subst (λ (text : List ℕ). IsTrue (is_permission text)) (sym c.set_text.ensures) (set_is_known c.args.node.kind)

pub decision-requires-clause-permission : goal.decision-requires-clause-permission
decision-requires-clause-permission c = subst (λ (query : Query). IsTrue (is_permission query.permission)) (sym c.in_ok-query.ensures) (set_is_known c.args.node.kind)

pub returns : goal.returns
returns c =
    let query : c.in_ok-query.query ≡ set_query c.args.index.now c.args.caller.now c.args.moment c.args.node c.args.bindings.now =
    c.in_ok-query.ensures ∙ ap (λ (tables : Tables). set_query tables c.args.caller.now c.args.moment c.args.node c.args.bindings.now) c.tables.ensures.tables in
    let refused =
    ap (λ (permission : List ℕ). unless_allowed permission c.in_ok-decision.decision) (c.in_ok-permission.ensures ∙ c.set_text.ensures)
    ∙ ap (λ (decision : Decision). unless_allowed (permission_at c.args.node.kind (codes "setIamPolicy")) decision) (c.in_ok-decision.ensures ∙ ap (decide c.args.index.now) query) in
    subst (λ (refusal : Option Refusal). Follows c.allowed.result refusal) refused c.allowed.ensures
