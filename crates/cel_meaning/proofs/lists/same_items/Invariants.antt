use Rattle.std.proofs.Common.{◌≡◌, length}
use Rattle.cel_meaning.specs.Values.{same_items}
use Rattle.cel_meaning.proofs.lists.same_items.Given as goal

abbrev pub invariant-item : goal.invariant-item
invariant-item l = same_items l.items l.others ≡ same_items l.initial.items l.initial.others

abbrev pub decreases-item : goal.decreases-item
decreases-item l = length l.items
