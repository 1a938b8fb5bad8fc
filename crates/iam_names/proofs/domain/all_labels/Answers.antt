use Rattle.std.proofs.Common.{List, ℕ, lit<, rules}
use borrow.Author.Tests.{tests}
use Rattle.std.proofs.lemmas.Iterator.{cases_from_all}
use Rattle.std.proofs.lemmas.Iterator.Splits.{YieldsList-from_str_split}
use Rattle.iam_names.specs.Domain.{IsLabel, parts_of}
use Rattle.iam_names.proofs.Parts.{all_decides}
use Rattle.iam_names.proofs.domain.all_labels.Goals as goal

pub returns : goal.returns
returns c =
    let parts = YieldsList-from_str_split 46 c.args.text.now (lit< tt) c.split.ensures.text c.split.ensures.has_more c.split.ensures.pattern in
    all_decides IsLabel c.all.result (parts_of c.args.text.now)
    (cases_from_all _ _ _ IsLabel (λ (l : List ℕ). ¬ IsLabel l) c.all.ensures.ran parts (λ x q k. search (rules, tests)) (λ x q k. search (rules, tests)))
