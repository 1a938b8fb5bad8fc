use Rattle.std.proofs.Common.{◌≡◌, ◌+◌, ◌-◌, ◌∷◌, ℕ, List, true, false, length, get_or, reverse, take, arith, sym, ap, ◌∙◌}
use Rattle.std.proofs.lemmas.List.{reverse-reverse, take_all}
use Rattle.httparse.specs.Grammar.{is_ows, skip_ows}
use Rattle.httparse.proofs.TrimLemmas.{skip_ows_yes, skip_ows_no}
use Rattle.iam_wire.proofs.Tested.{last_first}
use Rattle.iam_wire.proofs.options.without_last_spaces.Goals as goal

pub loop-end-init : goal.loop-end-init
loop-end-init c = record {
  within = omega arith;
  same = ap (λ (t : List ℕ). reverse (skip_ows (reverse t))) (sym (take_all (length c.args.text.now) c.args.text.now (omega arith)));
}

pub returns-then-not-is_space : goal.returns-then-not-is_space
returns-then-not-is_space c =
    let text = c.args.text.now in
    let end = c.loop-end.end in
    let count : end ≡ (end - 1) + 1 = omega arith in
    let last : reverse (take end text) ≡ get_or text (end - 1) 0 ∷ reverse (take (end - 1) text) = ap (λ (k : ℕ). reverse (take k text)) count ∙ last_first text (end - 1) (omega arith) in
    let other : false ≡ is_ows (get_or text (end - 1) 0) = cc in
    sym (c.loop-end.invariant.same ∙ ap reverse (skip_ows_no last other) ∙ reverse-reverse (take end text))

pub loop-end-preserved : goal.loop-end-preserved
loop-end-preserved c =
    let text = c.args.text.now in
    let end = c.loop-end.end in
    let count : end ≡ (end - 1) + 1 = omega arith in
    let last : reverse (take end text) ≡ get_or text (end - 1) 0 ∷ reverse (take (end - 1) text) = ap (λ (k : ℕ). reverse (take k text)) count ∙ last_first text (end - 1) (omega arith) in
    let space : true ≡ is_ows (get_or text (end - 1) 0) = cc in
    record {
      within = omega arith;
      same = c.loop-end.invariant.same ∙ ap reverse (skip_ows_yes last space);
    }

pub returns : goal.returns
returns c =
    let text = c.args.text.now in
    let none : c.loop-end.end ≡ 0 = omega arith in
    ap (λ (k : ℕ). take k text) none ∙ sym (c.loop-end.invariant.same ∙ ap (λ (k : ℕ). reverse (skip_ows (reverse (take k text)))) none)
