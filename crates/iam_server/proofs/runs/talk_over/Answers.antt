use Rattle.iam_server.proofs.Endings.{talk_causes}
use Rattle.iam_server.proofs.runs.talk_over.Goals as goal

pub returns-clause-talked : goal.returns-clause-talked
returns-clause-talked g c = (_, c.status_of.ensures, c.converse_alone-talk.ensures.talked)

pub returns-clause-causes : goal.returns-clause-causes
returns-clause-causes g c = talk_causes _ _ _ _ _ _ _ _ _ _ c.status_of.ensures c.converse_alone-talk.ensures.causes
