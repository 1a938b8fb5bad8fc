use Rattle.std.proofs.Common.{◌+◌}
use Rattle.iam_lone.specs.Lone.{Alone, waits}
use Rattle.iam_lone.proofs.Alones.{ran_from}
use Rattle.iam_lone.proofs.alone.talk.Goals as goal

pub returns-clause-talked : goal.returns-clause-talked
returns-clause-talked g c =
    ran_from (λ (l : Alone g.row.P.Denot). l.tables.org.changes + waits l.waiting) c.args.office.now c.converse-talk.new.office _ _ _ _ _ _ _ c.requires c.number-good.ensures.good c.keeps.ensures.kept c.converse-talk.ensures.talked
