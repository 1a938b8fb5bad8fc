use Rattle.std.proofs.Common.{sym, subst}
use Rattle.iam_model.specs.Consistent.{Consistent}
use Rattle.iam_changes.proofs.change.apply.Goals as goal

pub apply_command-requires : goal.apply_command-requires
apply_command-requires c = record {
  next = c.requires.consistent.keeps.numbers.last;
  changes = c.changes_are_countable.ensures c.args.tables.now c.requires.consistent;
}

pub returns-clause-kept : goal.returns-clause-kept
returns-clause-kept c =
    subst Consistent (sym c.in_ok-apply_command.ensures.ok)
    (c.changes_keep_consistent.ensures c.args.tables.now c.args.entry.now c.requires.consistent c.requires.formed c.requires.fitting)

pub returns-in_err-apply_command-clause-kept : goal.returns-in_err-apply_command-clause-kept
returns-in_err-apply_command-clause-kept c = subst Consistent (sym c.in_err-apply_command.ensures.err) c.requires.consistent
