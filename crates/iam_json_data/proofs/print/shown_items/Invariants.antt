use Rattle.std.proofs.Common.{◌≡◌, map, take}
use Rattle.serde_json.specs.View.{view}
use Rattle.iam_json_data.proofs.print.shown_items.Given as goal

abbrev pub invariant-loop-thing : goal.invariant-loop-thing
invariant-loop-thing g l = map view l.items.items ≡ map g.T.ToJson.shown (take l.thing-index l.things)
