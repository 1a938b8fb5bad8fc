use Rattle.std.proofs.Common.{◌≡◌, map, take}
use Rattle.iam_names.specs.Member.{member_text}
use Rattle.iam_modified.proofs.modified.texts.Given as goal

abbrev pub invariant-loop-member : goal.invariant-loop-member
invariant-loop-member l = l.texts ≡ map (λ member. member_text member) (take l.member-index l.members)
