-- What is said, and what the words say.
use Rattle.std.proofs.Common.{◌≡◌, ◌≢◌, ℕ, List, [], ◌∷◌, length, Some, None, Option, IsTrue, sym, refl, ap, ap₂, subst, codes, arith}
use Rattle.iam_names.specs.declared.caller.Caller.{Caller}
use Rattle.iam_names.specs.declared.node.NodeName.{NodeName}
use Rattle.iam_types.specs.declared.tables.Opening.{Opening}
use Rattle.iam_plan.specs.Access.{IsPrincipal, IsResource}
use Rattle.iam_plan.specs.Clap.{are_whole}
use Rattle.iam_plan.specs.Commands.{word_of, options_of}
use Rattle.iam_plan.specs.Opening.{SaysOpening, SaysNone, SaysOpeningOrNone}
use Rattle.iam_plan.specs.Pairs.{Pairs, words_of, values_of, are_options, ArePairs}
use Rattle.iam_plan.specs.Plan.{command_of, Says, IsSaid, IsPlan}
use Rattle.iam_plan.specs.Values.{Values, HasOption}
use Rattle.iam_plan.specs.declared.command.CommandName.{CommandName}
use Rattle.iam_plan.specs.declared.command.CommandName.TheVariants as command
use Rattle.iam_plan.specs.declared.plan.Plan.{Plan}
use Rattle.iam_plan.specs.declared.plan.Plan.TheVariants.{Apply, Ask}

-- ---- commands

pub same_command : (a b : CommandName) → word_of a ≡ word_of b → a ≡ b
same_command command.Apply command.Apply e = refl
same_command command.Apply command.Ask e = let long : length (codes "apply") ≡ length (codes "ask") = ap length e in absurd (omega arith)
same_command command.Ask command.Apply e = let long : length (codes "ask") ≡ length (codes "apply") = ap length e in absurd (omega arith)
same_command command.Ask command.Ask e = refl

pub options_are_whole : (name : CommandName) → IsTrue (are_whole (options_of name))
options_are_whole command.Apply = refl
options_are_whole command.Ask = refl

-- ---- what the values don't say

pub unsaid_opening : (values : Values) → (SaysNone values → ⊥) → ((opening : Opening) → SaysOpening values opening → ⊥) → (opening : Option Opening) → SaysOpeningOrNone values opening → ⊥
unsaid_opening values some none None is = some is
unsaid_opening values some none (Some opening) is = none opening is

pub no_opening : (values : Values) → ((opening : Option Opening) → SaysOpeningOrNone values opening → ⊥) → (plan : Plan) → IsSaid command.Apply values plan → ⊥
no_opening values none (Apply db opening) is = none opening is.1.1
no_opening values none (Ask db principal resource permission) is = let other : command.Ask ≡ command.Apply = is.0 in cc

pub no_permission : (values : Values) → values (codes "permission") ≡ None → (plan : Plan) → IsSaid command.Ask values plan → ⊥
no_permission values none (Apply db opening) is = let other : command.Apply ≡ command.Ask = is.0 in cc
no_permission values none (Ask db principal resource permission) is = let some : values (codes "permission") ≡ Some permission = is.1.1.asked in cc

pub no_principal : (values : Values) → ((principal : Caller) → HasOption (codes "principal") values (λ text. IsPrincipal text principal) → ⊥) → (plan : Plan) → IsSaid command.Ask values plan → ⊥
no_principal values none (Apply db opening) is = let other : command.Apply ≡ command.Ask = is.0 in cc
no_principal values none (Ask db principal resource permission) is = none principal is.1.1.caller

pub no_resource : (values : Values) → ((resource : NodeName) → HasOption (codes "resource") values (λ text. IsResource text resource) → ⊥) → (plan : Plan) → IsSaid command.Ask values plan → ⊥
no_resource values none (Apply db opening) is = let other : command.Apply ≡ command.Ask = is.0 in cc
no_resource values none (Ask db principal resource permission) is = none resource is.1.1.node

-- ---- what the words say

-- the values are those of the pairs that the words are
abbrev pub AreValuesOf : List (List ℕ) → Values → Type 0
AreValuesOf words values = (pairs : Pairs) → words ≡ words_of pairs → (name : List ℕ) → values name ≡ values_of pairs name

pub said_is_plan : (name : CommandName) (words : List (List ℕ)) (values : Values) (plan : Plan) → ArePairs (options_of name) words → AreValuesOf words values → IsSaid name values plan → IsPlan (word_of name ∷ words) plan
said_is_plan name words values plan pairs given said = (
  pairs.0,
  ap₂ (λ (n : CommandName) (ws : List (List ℕ)). word_of n ∷ ws) (sym said.0) pairs.1,
  subst (λ (n : CommandName). IsTrue (are_options (options_of n) pairs.0)) (sym said.0) pairs.2,
  subst (λ (v : Values). Says v plan) (λ i option. given pairs.0 pairs.1 option i) said.1,
)

-- the command of a plan whose words begin with that of a command, and the pairs behind it
same_first : (name : CommandName) (words : List (List ℕ)) (plan : Plan) → IsPlan (word_of name ∷ words) plan → command_of plan ≡ name
same_first name words plan is =
    let first : word_of (command_of plan) ≡ word_of name = cc (is.1) in
    same_command (command_of plan) name first

behind_first : (name : CommandName) (words : List (List ℕ)) (plan : Plan) (is : IsPlan (word_of name ∷ words) plan) → words ≡ words_of is.0
behind_first name words plan is = cc (is.1)

pub unsaid_is_none : (name : CommandName) (words : List (List ℕ)) (values : Values) → AreValuesOf words values → ((plan : Plan) → IsSaid name values plan → ⊥) → (plan : Plan) → IsPlan (word_of name ∷ words) plan → ⊥
unsaid_is_none name words values given none plan is =
    let behind : words ≡ words_of is.0 = behind_first name words plan is in
    none plan (same_first name words plan is, subst (λ (v : Values). Says v plan) (λ i option. sym (given is.0 behind option) i) is.3)

pub no_pairs : (name : CommandName) (words : List (List ℕ)) → (ArePairs (options_of name) words → ⊥) → (plan : Plan) → IsPlan (word_of name ∷ words) plan → ⊥
no_pairs name words none plan is =
    none (is.0, behind_first name words plan is, subst (λ (n : CommandName). IsTrue (are_options (options_of n) is.0)) (same_first name words plan is) is.2)

pub no_command : (word : List ℕ) (rest words : List (List ℕ)) → words ≡ word ∷ rest → ((name : CommandName) → word ≢ word_of name) → (plan : Plan) → IsPlan words plan → ⊥
no_command word rest words are none plan is =
    let first : word ≡ word_of (command_of plan) = cc (are, is.1) in
    none (command_of plan) first

pub no_words : (words : List (List ℕ)) → length words ≡ 0 → (plan : Plan) → IsPlan words plan → ⊥
no_words [] none plan is = cc (is.1)
no_words (word ∷ words) none plan is = absurd (omega arith)
