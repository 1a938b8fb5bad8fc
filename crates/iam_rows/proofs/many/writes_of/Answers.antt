use Rattle.std.proofs.Common.{◌+◌, List, take, arith, sym, subst}
use Rattle.std.proofs.lemmas.List.{take_all}
use Rattle.std.proofs.lemmas.List.Elements.{All-get_or}
use Rattle.iam_types.specs.declared.fact.FactChange.{FactChange}
use Rattle.iam_outer.specs.declared.keeper.RowWrite.{RowWrite}
use Rattle.iam_model.specs.Formed.{IsChange}
use Rattle.iam_rows.specs.Kept.{AreWrites}
use Rattle.iam_rows.proofs.Longer.{write_more}
use Rattle.iam_rows.proofs.many.writes_of.Goals as goal

pub write_of-requires : goal.write_of-requires
write_of-requires c =
    subst (λ (change : FactChange). IsChange change) (sym c.change-item.is)
    (All-get_or IsChange c.args.changes.now c.loop-change.change-index c.change-item.result (omega arith) c.requires)

pub loop-change-preserved : goal.loop-change-preserved
loop-change-preserved c =
    subst (λ (writes : List RowWrite). AreWrites (take (c.loop-change.change-index + 1) c.args.changes.now) writes) (sym c.in_ok-push.ensures.ok)
    (write_more c.args.changes.now c.loop-change.change-index c.loop-change.writes c.change-item.result c.in_ok-write_of.field-0 (omega arith) c.change-item.is c.loop-change.invariant c.in_ok-write_of.ensures)

pub returns : goal.returns
returns c = subst (λ (changes : List FactChange). AreWrites changes c.loop-change.writes) (take_all c.loop-change.change-index c.args.changes.now (omega arith)) c.loop-change.invariant
