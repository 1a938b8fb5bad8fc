use Rattle.std.proofs.Common.{arith}
use Rattle.iam_json_data.proofs.Members.{loop_bad, loop_more}
use Rattle.iam_json_data.proofs.member.read_items.Goals as goal

pub returns-in-Err : goal.returns-in-Err
returns-in-Err g c =
    loop_bad g.T.FromJson.reads c.args.items.now c.loop-place.place c.loop-place.list c.index-items-place.result c.in-Err.stop c.at_item.result
    (omega arith) c.index-items-place.is c.loop-place.invariant c.in-Err.ensures c.at_item.ensures

pub loop-place-preserved : goal.loop-place-preserved
loop-place-preserved g c =
    rw c.in_ok-push-in-Ok.ensures.ok
    (loop_more g.T.FromJson.reads c.args.items.now c.loop-place.place c.loop-place.list c.index-items-place.result c.in-Ok.read
    (omega arith) c.index-items-place.is c.loop-place.invariant c.in-Ok.ensures)
