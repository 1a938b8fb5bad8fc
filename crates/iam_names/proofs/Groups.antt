-- One more group is written.
use Rattle.std.proofs.Common.{◌≡◌, ◌∙◌, ℕ, ◌+◌, ◌<◌, List, ◌++◌, length, drop, get_or, codes, sym, ap, append_assoc}
use Rattle.std.proofs.lemmas.List.{at_drop_more}
use Rattle.iam_names.specs.Caller.{groups_behind}

pub one_more_group : (groups : List (List ℕ)) (i : ℕ) (group separator text written whole : List ℕ) → i < length groups → group ≡ get_or groups i group → written ≡ text ++ separator ++ group → text ++ groups_behind separator (drop i groups) ≡ whole → written ++ groups_behind (codes ",") (drop (i + 1) groups) ≡ whole
one_more_group groups i group separator text written whole below is so_far before =
    let rest : List ℕ = groups_behind (codes ",") (drop (i + 1) groups) in
    let step : groups_behind separator (drop i groups) ≡ separator ++ group ++ rest =
    at_drop_more (groups_behind separator) groups i group below ∙ ap (λ g. separator ++ g ++ rest) (sym is) in
    ap (λ t. t ++ rest) so_far ∙ append_assoc (text ++ separator) group rest ∙ append_assoc text separator (group ++ rest)
    ∙ ap (λ t. text ++ t) (sym (append_assoc separator group rest)) ∙ ap (λ t. text ++ t) (sym step) ∙ before
