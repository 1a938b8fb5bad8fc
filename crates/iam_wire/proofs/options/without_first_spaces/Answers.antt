use Rattle.std.proofs.Common.{◌≡◌, ◌<◌, true, false, get_or, length, arith, sym, ◌∙◌}
use Rattle.std.proofs.lemmas.List.{drop_more, take_rest}
use Rattle.httparse.specs.Grammar.{is_ows}
use Rattle.httparse.proofs.TrimLemmas.{skip_ows_yes, skip_ows_no}
use Rattle.iam_wire.proofs.options.without_first_spaces.Goals as goal

pub returns-then-not-is_space : goal.returns-then-not-is_space
returns-then-not-is_space c =
    let inside : c.loop-i.i < length c.args.text.now = omega arith in
    let other : false ≡ is_ows (get_or c.args.text.now c.loop-i.i 0) = cc in
    take_rest c.args.text.now c.loop-i.i ∙ sym (skip_ows_no (drop_more c.args.text.now c.loop-i.i 0 inside) other) ∙ c.loop-i.invariant

pub loop-i-preserved : goal.loop-i-preserved
loop-i-preserved c =
    let inside : c.loop-i.i < length c.args.text.now = omega arith in
    let space : true ≡ is_ows (get_or c.args.text.now c.loop-i.i 0) = cc in
    sym (skip_ows_yes (drop_more c.args.text.now c.loop-i.i 0 inside) space) ∙ c.loop-i.invariant
