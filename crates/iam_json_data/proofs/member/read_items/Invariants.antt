use Rattle.std.proofs.Common.{Ok, take}
use Rattle.serde_json.specs.View.{items_view}
use Rattle.iam_json_data.specs.Reading.{ReadsItems}
use Rattle.iam_json_data.proofs.member.read_items.Given as goal

abbrev pub invariant-loop-place : goal.invariant-loop-place
invariant-loop-place g l = ReadsItems g.T.FromJson.reads 0 (items_view (take l.place l.items)) (Ok l.list)
