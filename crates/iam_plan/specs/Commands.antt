-- The commands by their names, and the options of each.
use Rattle.std.specs.Prelude.{ℕ, List, [], ◌∷◌, codes}
use Rattle.iam_plan.specs.declared.command.CommandName.{CommandName}
use Rattle.iam_plan.specs.declared.command.CommandName.TheVariants.{Apply, Ask}

-- the command's word
abbrev pub word_of : CommandName → List ℕ
word_of Apply = codes "apply"
word_of Ask = codes "ask"

-- the names of its options
abbrev pub options_of : CommandName → List (List ℕ)
options_of Apply = codes "db" ∷ codes "org" ∷ codes "domain" ∷ codes "customer" ∷ codes "admin" ∷ []
options_of Ask = codes "db" ∷ codes "principal" ∷ codes "resource" ∷ codes "permission" ∷ []
