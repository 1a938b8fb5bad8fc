use Rattle.cel_answers.proofs.Lines.{turn_of_slices, finish}
use Rattle.cel_answers.proofs.escapes.unescaped.Goals as goal

pub line-preserved : goal.line-preserved
line-preserved c =
    turn_of_slices c.args.line.now c.line.found.items c.push.new.self.items c.line.left.now c.front-byte.result c.in-len1-up.len_at_least
    c.in_ok-push.ensures.items c.front-byte.ensures.value c.line.invariant

pub returns : goal.returns
returns c = finish c.args.line.now c.line.found.items c.line.left.now c.in_default.len_below c.line.invariant
