-- Which answers are no refusals, and which replies tell it.
use Rattle.std.proofs.Common.{◌≡◌, ℕ, Some, None, refl}
use Rattle.std.specs.Option.{option_map_or}
use Rattle.std.specs.declared.option.Option.{Option}
use Rattle.std.specs.Fmt.{digits}
use Rattle.iam_text.specs.declared.moment.Moment.{Moment}
use Rattle.iam_names.specs.declared.node.NodeId.{NodeId}
use Rattle.iam_types.specs.declared.answer.Answer.{Answer}
use Rattle.iam_types.specs.declared.answer.Answer.TheVariants.{Refused}
use Rattle.iam_types.specs.declared.command.Command.{Command}
use Rattle.iam_types.specs.declared.command.Command.TheVariants.{SetAllow, RenameFolder, DeleteNode, UndeleteNode}
use Rattle.iam_types.specs.declared.refusal.Refusal.{Refusal}
use Rattle.iam_types.specs.declared.refusal.Refusal.TheVariants.{NotFound}
use Rattle.iam_types.specs.declared.tables.Tables.{Tables}
use Rattle.iam_model.specs.Nodes.{resolve}
use Rattle.iam_answer.specs.Answer.{accepts, nothing_shown, policy_shown, written_answer}
use Rattle.iam_answer.specs.NodeAnswers.{change_shown}
use Rattle.iam_answer.specs.Replies.{served_reply, shows_ok}

shown_accepts : (t : Tables) (node : Option NodeId) → accepts (option_map_or (policy_shown t) node nothing_shown) ≡ 1
shown_accepts t None = refl
shown_accepts t (Some node) = refl

change_accepts : (t : Tables) (node : Option NodeId) → accepts (option_map_or (change_shown t) node nothing_shown) ≡ 1
change_accepts t None = refl
change_accepts t (Some node) = refl

pub written_accepts : (before later : Tables) (command : Command) → accepts (written_answer before later command) ≡ 1
unfolding written_answer
written_accepts before later (SetAllow name version etag bindings) = shown_accepts later (resolve later name)
written_accepts before later (RenameFolder name display) = change_accepts later (resolve later name)
written_accepts before later (DeleteNode name) = change_accepts later (resolve later name)
written_accepts before later (UndeleteNode name) = change_accepts later (resolve later name)
written_accepts before later command = refl

-- no refusal has code 200
refused_tells : (number : ℕ) (moment : Moment) (refusal : Refusal) → shows_ok (served_reply number moment (Refused refusal)) ≡ 0
unfolding shows_ok served_reply digits
refused_tells number moment (NotFound name) = refl
refused_tells number moment refusal = refl

pub tells_acceptance : (number : ℕ) (moment : Moment) (answer : Answer) → shows_ok (served_reply number moment answer) ≡ accepts answer
unfolding shows_ok served_reply digits
tells_acceptance number moment (Refused refusal) = refused_tells number moment refusal
tells_acceptance number moment answer = refl
