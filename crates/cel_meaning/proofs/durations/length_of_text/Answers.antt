use Rattle.std.proofs.Common.{sym, ap, ◌∙◌, pos, neg_ℤ}
use Rattle.std.specs.Option.{option_map}
use Rattle.cel_meaning.proofs.TimeTexts.{minus_is}
use Rattle.cel_meaning.proofs.durations.length_of_text.Goals as goal

pub returns-then-begins_with : goal.returns-then-begins_with
returns-then-begins_with c =
    minus_is c.args.text.now c.behind.result.now c.before_now.result (sym c.begins_with.ensures ∙ c.if-begins_with.true) c.behind.ensures
    (c.before_now.ensures ∙ ap (option_map (λ n. neg_ℤ (pos n))) c.magnitude_of.ensures.value)
