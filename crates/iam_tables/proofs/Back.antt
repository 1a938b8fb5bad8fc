-- The facts of consistent tables give them back.
use Rattle.std.proofs.Common.{◌≡◌, ℕ, List, [], ◌∷◌, ap, refl, sym, ◌∙◌}
use Rattle.std.specs.Prelude.{Result, Ok, Err, IfOk, IsErrOf}
use Rattle.iam_types.specs.declared.fact.Fact.{Fact}
use Rattle.iam_types.specs.declared.node.Org.{Org}
use Rattle.iam_types.specs.declared.tables.Tables.{Tables}
use Rattle.iam_model.specs.Broken.{GiveTables, IsFirstBroken}
use Rattle.iam_model.specs.Facts.{tables_with}
use Rattle.iam_tables.specs.Back.{GivesBack}
use Rattle.iam_tables.specs.declared.stop.TablesStop.{TablesStop}
use Rattle.iam_tables.specs.declared.stop.TablesStop.TheVariants.{Inconsistent, OutOfMemory}

same_org : (a b : Org) → a ∷ [] ≡ b ∷ [] → a ≡ b
same_org a b same = cc

-- facts give one tables at most
one_tables : (facts : List Fact) (a b : Tables) → GiveTables facts a → GiveTables facts b → a ≡ b
one_tables facts a b give_a give_b =
    let orgs : a.org ≡ b.org = same_org a.org b.org (sym give_a.org ∙ give_b.org) in
    give_a.lists ∙ ap (λ (org : Org). tables_with org facts) orgs ∙ sym give_b.lists

pub gives_back : ((facts : List Fact) (tables : Tables) (rule : ℕ) → GiveTables facts tables → IsFirstBroken facts rule → ⊥)
    → (facts : List Fact) (tables : Tables) (result : Result Tables TablesStop) → GiveTables facts tables → IfOk result (GiveTables facts)
    → ((rule : ℕ) → IsErrOf result (Inconsistent rule) → IsFirstBroken facts rule) → GivesBack tables result
gives_back none facts tables (Ok got) given gives broken = one_tables facts got tables gives given
gives_back none facts tables (Err (Inconsistent rule)) given gives broken = none facts tables rule given (broken rule refl)
gives_back none facts tables (Err OutOfMemory) given gives broken = tt
