use Rattle.std.proofs.Common.{◌≡◌, ◌∙◌, List, ℕ, IsTrue, sym, ap, ap₂, subst}
use Rattle.std.proofs.lemmas.Result.{IfOk-weaker}
use Rattle.clap.specs.Words.{takes, first_of, matches_of, found_of}
use Rattle.clap.proofs.WalkLemmas.{first_value-rows}
use Rattle.iam_plan.specs.Clap.{given_in}
use Rattle.clap.specs.declared.parser.matches.ArgMatches.{ArgMatches}
use Rattle.iam_plan.specs.Pairs.{Pairs, words_of, values_of, are_options}
use Rattle.iam_plan.specs.Values.{texts}
use Rattle.iam_plan.proofs.Taken.{takes_pairs, value_in_pairs}
use Rattle.iam_plan.proofs.Words.{same_pairs}
use Rattle.iam_plan.proofs.options.matches_of.Goals as goal

pub matches_by-requires : goal.matches_by-requires
matches_by-requires c =
    let pairs = c.requires.pairs in
    ap₂ takes c.in-Ok.ensures pairs.1 ∙ takes_pairs (texts c.args.names.now) pairs.0 c.requires.whole pairs.2

pub returns-in-Ok : goal.returns-in-Ok
unfolding given_in
returns-in-Ok c = IfOk-weaker _ _ _ (λ (matches : ArgMatches) rows.
    let names : List (List ℕ) = texts c.args.names.now in
    let gives : (pairs : Pairs) → texts c.args.words.now ≡ words_of pairs → (name : List ℕ) → given_in matches name ≡ values_of pairs name = λ pairs are name.
    let is = same_pairs c.requires.pairs.0 pairs (sym c.requires.pairs.1 ∙ are) in
    let good = subst (λ (ps : Pairs). IsTrue (are_options names ps)) is c.requires.pairs.2 in
    first_value-rows (found_of matches) name
    ∙ ap (first_of name) (rows ∙ ap₂ matches_of c.in-Ok.ensures are)
    ∙ value_in_pairs names pairs name c.requires.whole good in
    gives) c.matches_by.ensures
