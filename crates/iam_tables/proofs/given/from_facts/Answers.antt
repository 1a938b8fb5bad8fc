use Rattle.std.proofs.Common.{ℕ, List, sym, subst}
use Rattle.std.specs.Prelude.{IsErrOf}
use Rattle.iam_types.specs.declared.fact.Fact.{Fact}
use Rattle.iam_model.specs.Broken.{GiveTables, IsFirstBroken}
use Rattle.iam_tables.specs.declared.stop.TablesStop.TheVariants.{Inconsistent}
use Rattle.iam_tables.proofs.Back.{gives_back}
use Rattle.iam_tables.proofs.given.from_facts.Goals as goal

pub returns-clause-back : goal.returns-clause-back
returns-clause-back c = λ tables consistent apart same.
    let given = subst (λ (facts : List Fact). GiveTables facts tables) (sym c.as_slice.ensures) (c.consistent_tables_are_given.ensures c.args.facts tables consistent apart same) in
    gives_back c.broken_facts_give_none.ensures c.as_slice.result.now tables c.tables_of.result given c.tables_of.ensures.given c.tables_of.ensures.broken

pub returns-clause-broken : goal.returns-clause-broken
returns-clause-broken c = subst (λ (facts : List Fact). (rule : ℕ) → IsErrOf c.tables_of.result (Inconsistent rule) → IsFirstBroken facts rule) c.as_slice.ensures c.tables_of.ensures.broken
