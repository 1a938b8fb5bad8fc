-- The forms of the words.
use Rattle.std.specs.Prelude.{◌≡◌, ℕ, List, ◌∷◌, IsTrue, codes}
use Rattle.iam_plan.specs.Values.{Values}
use Rattle.iam_plan.specs.Pairs.{Pairs, words_of, values_of, are_options}
use Rattle.iam_plan.specs.Commands.{word_of, options_of}
use Rattle.iam_plan.specs.Opening.{SaysOpeningOrNone}
use Rattle.iam_plan.specs.Access.{SaysAccess}
use Rattle.iam_plan.specs.declared.command.CommandName.{CommandName}
use Rattle.iam_plan.specs.declared.command.CommandName.TheVariants as command
use Rattle.iam_plan.specs.declared.plan.Plan.{Plan}
use Rattle.iam_plan.specs.declared.plan.Plan.TheVariants.{Apply, Ask}

-- the command of a plan
abbrev pub command_of : Plan → CommandName
command_of (Apply db opening) = command.Apply
command_of (Ask db principal resource permission) = command.Ask

-- the values of the command's options say the rest of the plan
abbrev pub Says : Values → Plan → Type 0
Says values (Apply db opening) = (db ≡ values (codes "db")) × SaysOpeningOrNone values opening
Says values (Ask db principal resource permission) = (db ≡ values (codes "db")) × SaysAccess values principal resource permission

-- the command's values say the plan
abbrev pub IsSaid : CommandName → Values → Plan → Type 0
IsSaid name values plan = (command_of plan ≡ name) × Says values plan

-- the words are the word of a command and pairs of its options and their values, which say the plan
abbrev pub IsPlan : List (List ℕ) → Plan → Type 0
IsPlan words plan =
    (pairs : Pairs)
    × (words ≡ word_of (command_of plan) ∷ words_of pairs)
    × IsTrue (are_options (options_of (command_of plan)) pairs)
    × Says (values_of pairs) plan
