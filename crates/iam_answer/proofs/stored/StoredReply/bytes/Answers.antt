use Rattle.std.proofs.Common.{◌-◌, ◌∙◌, drop, arith, rules, take_all, length-drop}
use Rattle.std.proofs.lemmas.Fmt.{length-decimal-le}
use Rattle.iam_answer.proofs.StoredParts.{assembled}
use Rattle.iam_answer.proofs.stored.StoredReply.bytes.Goals as goal

pub write_digits-digits-requires : goal.write_digits-digits-requires
write_digits-digits-requires c =
    let short = length-decimal-le 20 c.args.number (omega arith) (omega arith) (omega arith) in
    (omega (arith, short), search rules)

pub write_before-front-requires : goal.write_before-front-requires
write_before-front-requires c =
    let short = length-decimal-le 20 c.args.number (omega arith) (omega arith) (omega arith) in
    (omega (arith, short), omega (arith, short))

pub returns : goal.returns
returns c =
    let back = c.write_before-back in
    let digits = c.write_digits-digits in
    let front = c.write_before-front in
    take_all (232 - front.result) (drop front.result front.new.bytes) (omega (arith, length-drop front.result front.new.bytes))
    ∙ assembled c.args.number c.args.self.now.bytes back.new.bytes digits.new.buf front.new.bytes back.result digits.result front.result (omega arith) back.ensures.written digits.ensures.written front.ensures.written
