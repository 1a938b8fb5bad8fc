use Rattle.std.proofs.Common.{◌∙◌, [], List, ℕ, arith, Bor}
use Rattle.clap.specs.Words.{app_of}
use Rattle.iam_plan.proofs.Taken.{one_more, all_made}
use Rattle.iam_plan.proofs.options.command_with.Goals as goal

pub loop-name-preserved : goal.loop-name-preserved
loop-name-preserved c =
    let nothing : Bor (List ℕ) = record { ref_ptr = (0, 0); now = [] } in
    one_more c.args.names.now c.loop-name.name-index nothing (app_of c.loop-name.command) (app_of c.in-Ok.more) (omega arith) c.in-Ok.ensures c.loop-name.invariant

pub returns : goal.returns
returns c = c.loop-name.invariant ∙ all_made c.args.names.now c.loop-name.name-index (omega arith)
