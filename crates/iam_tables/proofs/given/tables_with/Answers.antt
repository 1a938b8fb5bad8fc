use Rattle.std.proofs.Common.{sym}
use Rattle.iam_model.specs.Facts.{tables_with}
use Rattle.iam_tables.proofs.Parts.{only_these}
use Rattle.iam_tables.proofs.given.tables_with.Goals as goal

pub returns : goal.returns
returns c = λ facts formed are_nodes are.
    rw (c.in_ok-copy_org.ensures, c.new.ensures, c.new-2.ensures, c.new-3.ensures, c.new-4.ensures, c.new-5.ensures, c.new-6.ensures, c.new-7.ensures, c.new-8.ensures, c.new-9.ensures, are_nodes, are)
    (sym (only_these (tables_with c.args.org.now facts) (c.nothing_else_is_given.ensures facts c.args.org.now formed)))
