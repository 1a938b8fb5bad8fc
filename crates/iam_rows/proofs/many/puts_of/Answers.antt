use Rattle.std.proofs.Common.{◌+◌, List, map, take, arith, sym, subst}
use Rattle.std.proofs.lemmas.List.{take_all}
use Rattle.std.proofs.lemmas.List.Elements.{All-get_or}
use Rattle.iam_types.specs.declared.fact.Fact.{Fact}
use Rattle.iam_types.specs.declared.fact.FactChange.TheVariants as change
use Rattle.iam_outer.specs.declared.keeper.RowWrite.{RowWrite}
use Rattle.iam_model.specs.Formed.{IsFact}
use Rattle.iam_rows.specs.Kept.{AreWrites}
use Rattle.iam_rows.proofs.Longer.{put_more}
use Rattle.iam_rows.proofs.many.puts_of.Goals as goal

pub row_of-requires : goal.row_of-requires
row_of-requires c =
    subst (λ (fact : Fact). IsFact fact) (sym c.fact-item.is)
    (All-get_or IsFact c.args.facts.now c.loop-fact.fact-index c.fact-item.result (omega arith) c.requires)

pub loop-fact-preserved : goal.loop-fact-preserved
loop-fact-preserved c =
    subst (λ (writes : List RowWrite). AreWrites (map change.Put (take (c.loop-fact.fact-index + 1) c.args.facts.now)) writes) (sym c.in_ok-push.ensures.ok)
    (put_more c.args.facts.now c.loop-fact.fact-index c.loop-fact.writes c.fact-item.result c.in_ok-row_of.field-0 (omega arith) c.fact-item.is c.loop-fact.invariant c.in_ok-row_of.ensures)

pub returns : goal.returns
returns c = subst (λ (facts : List Fact). AreWrites (map change.Put facts) c.loop-fact.writes) (take_all c.loop-fact.fact-index c.args.facts.now (omega arith)) c.loop-fact.invariant
