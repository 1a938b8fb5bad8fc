use Rattle.std.proofs.Common.{◌≡◌, ◌∙◌, ap, rules}
use Rattle.std.proofs.lemmas.Result.{IfOk-weaker}
use Rattle.clap.specs.Built.{AddsArg}
use Rattle.clap.specs.Words.{app_of, rule_of, with_rule}
use Rattle.clap.specs.Walk.{Rule}
use Rattle.clap.specs.declared.builder.command.Command.{Command}
use Rattle.iam_plan.specs.Clap.{rule_with}
use Rattle.iam_plan.proofs.options.with_option.Goals as goal

pub returns : goal.returns
returns c =
    let rule : rule_of c.action-option.result ≡ rule_with c.args.name.now = search rules in
    IfOk-weaker _ _ _ (λ (more : Command) (adds : AddsArg c.args.command c.action-option.result more).
    adds.shape (search rules) ∙ ap (λ (r : Rule). with_rule (app_of c.args.command) r) rule) c.arg.ensures
