use Rattle.std.proofs.Common.{ℕ, List, codes, reverse, ap, ◌∙◌}
use Rattle.std.specs.Str.{str_eq_ignore_ascii_case}
use Rattle.httparse.specs.Grammar.{skip_ows, trim_ows}
use Rattle.iam_wire.proofs.Named.{same_name}
use Rattle.iam_wire.proofs.options.is_close.Goals as goal

pub returns : goal.returns
unfolding trim_ows
returns c =
    same_name c.eq_ignore_ascii_case.result c.without_last_spaces.result.now (codes "close") c.eq_ignore_ascii_case.ensures.test
    ∙ ap (λ (t : List ℕ). str_eq_ignore_ascii_case t (codes "close")) (c.without_last_spaces.ensures ∙ ap (λ (t : List ℕ). reverse (skip_ows (reverse t))) c.without_first_spaces.ensures)
