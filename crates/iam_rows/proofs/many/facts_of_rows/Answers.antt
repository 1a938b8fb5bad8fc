use Rattle.std.proofs.Common.{◌≡◌, ℕ, ◌+◌, List, take, length, arith, sym, subst}
use Rattle.std.proofs.lemmas.List.{take_all}
use Rattle.iam_types.specs.declared.fact.Fact.{Fact}
use Rattle.iam_outer.specs.declared.keeper.Row.{Row}
use Rattle.iam_rows.specs.Kept.{AreFactsOf, IsFirstBadRow}
use Rattle.iam_rows.proofs.Longer.{fact_more, are_formed, first_bad}
use Rattle.iam_rows.proofs.many.facts_of_rows.Goals as goal

pub returns-in-Err-BadRow : goal.returns-in-Err-BadRow
returns-in-Err-BadRow c = record {
  facts = tt;
  formed = tt;
  bad = λ index is.
      let same : length c.loop-row.facts ≡ index = cc (is, c.len.ensures) in
      subst (λ (n : ℕ). IsFirstBadRow c.args.rows.now n) same
      (first_bad c.args.rows.now c.loop-row.row-index c.loop-row.facts c.row-item.result (omega arith) c.row-item.is c.loop-row.invariant (rw c.in-Err-BadRow.field-0-is at c.in-Err-BadRow.ensures));
}

pub loop-row-preserved : goal.loop-row-preserved
loop-row-preserved c =
    subst (λ (facts : List Fact). AreFactsOf (take (c.loop-row.row-index + 1) c.args.rows.now) facts) (sym c.in_ok-push-in-Ok.ensures.ok)
    (fact_more c.args.rows.now c.loop-row.row-index c.loop-row.facts c.row-item.result c.in-Ok.fact (omega arith) c.row-item.is c.loop-row.invariant c.in-Ok.ensures.0)

pub returns : goal.returns
returns c =
    let are = subst (λ (rows : List Row). AreFactsOf rows c.loop-row.facts) (take_all c.loop-row.row-index c.args.rows.now (omega arith)) c.loop-row.invariant in
    record {
      facts = are;
      formed = are_formed c.args.rows.now c.loop-row.facts are;
      bad = λ index is. absurd (cc is);
    }
