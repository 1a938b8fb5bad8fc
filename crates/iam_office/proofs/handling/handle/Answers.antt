use Rattle.std.proofs.Common.{[], None, subst, refl, ap, arith}
use Rattle.iam_routes.specs.Asked.{IsAsked}
use Rattle.iam_routes.specs.declared.given.Asked.TheVariants.{Given}
use Rattle.iam_office.specs.Turns.{keeper_faults_of}
use Rattle.iam_office.proofs.Answering.{refused, unanswered}
use Rattle.iam_office.proofs.Asks.{write_is}
use Rattle.iam_office.proofs.Clocks.{clocked_no_memory, clocked_plainly, rise_none, rise_plainly}
use Rattle.iam_office.proofs.Counting.{count_stays, none_plainly, none_without_memory}
use Rattle.iam_office.proofs.Leading.{leads_here}
use Rattle.iam_office.proofs.handling.handle.Goals as goal

pub serve_write-requires-clause-command : goal.serve_write-requires-clause-command
serve_write-requires-clause-command g c =
    let asked = subst (λ call. IsAsked c.args.message.now (Given c.in-Ok-Given.caller c.in-Ok-Given.floor call)) c.in-Write.is (subst (IsAsked c.args.message.now) c.in-Ok-Given.field-0-is c.in-Ok-Given.ensures) in
    (write_is c.args.message.now c.in-Ok-Given.caller c.in-Ok-Given.floor _ asked).1

pub returns-in-Ok-Refused-clause-handled : goal.returns-in-Ok-Refused-clause-handled
returns-in-Ok-Refused-clause-handled g c =
    let asked = subst (IsAsked c.args.message.now) c.in-Ok-Refused.field-0-is c.in-Ok-Refused.ensures in
    record {
      answers = leads_here g.O.Office.stands _ _ (λ t h. refused g.O.Office.alone c.args.message.now c.in-Ok-Refused.error _ _ t h asked c.refuse-told.ensures);
      count = count_stays _ _ _ refl (none_plainly c.args.message.now _ _ _ c.refuse-told.ensures);
    }

pub returns-in-Ok-Refused-clause-clock : goal.returns-in-Ok-Refused-clause-clock
returns-in-Ok-Refused-clause-clock g c = clocked_plainly _ _ _ _ _ c.refuse-told.ensures

pub returns-in-Ok-Refused-clause-faults : goal.returns-in-Ok-Refused-clause-faults
returns-in-Ok-Refused-clause-faults g c = rise_plainly _ _ _ _ _ refl c.refuse-told.ensures

pub returns-in-Read-clause-handled : goal.returns-in-Read-clause-handled
returns-in-Read-clause-handled g c =
    c.serve-told.ensures.handled c.args.message.now (subst (λ call. IsAsked c.args.message.now (Given c.in-Ok-Given.caller c.in-Ok-Given.floor call)) c.in-Read.is (subst (IsAsked c.args.message.now) c.in-Ok-Given.field-0-is c.in-Ok-Given.ensures))

pub returns-in-Write-clause-handled : goal.returns-in-Write-clause-handled
returns-in-Write-clause-handled g c =
    c.serve_write.ensures.handled c.args.message.now (subst (λ call. IsAsked c.args.message.now (Given c.in-Ok-Given.caller c.in-Ok-Given.floor call)) c.in-Write.is (subst (IsAsked c.args.message.now) c.in-Ok-Given.field-0-is c.in-Ok-Given.ensures))

pub returns-in-Err-clause-handled : goal.returns-in-Err-clause-handled
returns-in-Err-clause-handled g c = record {
  answers = leads_here g.O.Office.stands _ _ (λ t h. unanswered g.O.Office.alone c.args.message.now None _ _ t h [] tt c.no_memory.ensures (λ one. refl));
  count = count_stays _ _ _ refl (none_without_memory c.args.message.now _ _ _ c.no_memory.ensures);
}

pub returns-in-Err-clause-clock : goal.returns-in-Err-clause-clock
returns-in-Err-clause-clock g c = clocked_no_memory _ _ _ _ c.no_memory.ensures

pub returns-in-Err-clause-faults : goal.returns-in-Err-clause-faults
returns-in-Err-clause-faults g c = rise_none _ _ _ (ap keeper_faults_of c.no_memory.ensures.step) (omega arith)
