use Rattle.std.proofs.Common.{List, map, sym, subst}
use Rattle.std.specs.Prelude.{IfSome}
use Rattle.iam_types.specs.declared.fact.FactChange.TheVariants.{Put}
use Rattle.iam_types.specs.declared.tables.Tables.{Tables}
use Rattle.iam_model.specs.Facts.{facts_of}
use Rattle.iam_model.specs.Opening.{opening_tables}
use Rattle.iam_outer.specs.declared.keeper.RowWrite.{RowWrite}
use Rattle.iam_rows.specs.Kept.{AreRows, AreWrites}
use Rattle.iam_keeping.proofs.Left.{kept_by, left_by}
use Rattle.iam_keeping.proofs.opening.begin.Goals as goal

pub returns-in-Ok-clause-kept : goal.returns-in-Ok-clause-kept
returns-in-Ok-clause-kept g c =
    let tables : Tables = opening_tables c.args.opening.now in
    let writes : AreWrites (map Put (facts_of tables)) c.as_slice.result.now = subst (λ (ws : List RowWrite). AreWrites (map Put (facts_of tables)) ws) (sym c.as_slice.ensures) c.in_ok-index.ensures.writes in
    let put = c.facts_are_put.ensures (facts_of tables) (c.openings_are_good.ensures c.args.opening.now c.requires.formed).0.ordered in
    subst (λ (t : Tables). IfSome (g.P.Keeper.rows c.commit.new.keeper) (AreRows (facts_of t))) (sym c.in_ok-index.ensures.index)
    (kept_by c.rows_follow_changes.ensures (facts_of tables) _ _ c.as_slice.result.now put writes c.requires.empty c.in-Ok.ensures.ok)

pub returns-in-Ok-clause-left : goal.returns-in-Ok-clause-left
returns-in-Ok-clause-left g c =
    let tables : Tables = opening_tables c.args.opening.now in
    let writes : AreWrites (map Put (facts_of tables)) c.as_slice.result.now = subst (λ (ws : List RowWrite). AreWrites (map Put (facts_of tables)) ws) (sym c.as_slice.ensures) c.in_ok-index.ensures.writes in
    let put = c.facts_are_put.ensures (facts_of tables) (c.openings_are_good.ensures c.args.opening.now c.requires.formed).0.ordered in
    left_by c.rows_follow_changes.ensures c.args.opening.now _ _ c.as_slice.result.now put writes c.requires.empty c.in-Ok.ensures.ok
