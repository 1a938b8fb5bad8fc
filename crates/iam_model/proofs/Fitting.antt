-- Rules among rules, and what a command that fits owes.
use Rattle.std.proofs.Common.{◌≡◌, ℕ, suc, ◌+◌, ◌<◌, ◌≤◌, Bool, true, false, cond, List, [], ◌∷◌, Some, None, refl, ap, subst, ◌∙◌, arith}
use Rattle.std.specs.Prelude.{nat_lt}
use Rattle.std.specs.declared.option.Option.{Option}
use Rattle.std.specs.List.{All}
use Rattle.std.specs.Ordering.{match_ordering}
use Rattle.std.specs.declared.cmp.Ordering.TheVariants.{Equal}
use Rattle.std.proofs.lemmas.Bool.{leb-false}
use Rattle.iam_text.specs.Put.{put, IsInOrder}
use Rattle.iam_types.specs.declared.fact.Fact.{Fact}
use Rattle.iam_types.specs.declared.fact.Fact.TheVariants as fact
use Rattle.iam_types.specs.declared.fact.FactChange.{FactChange}
use Rattle.iam_types.specs.declared.fact.FactChange.TheVariants.{Put}
use Rattle.iam_types.specs.declared.node.Node.{Node}
use Rattle.iam_types.specs.declared.node.Org.{Org}
use Rattle.iam_types.specs.declared.refusal.LimitName.{LimitName}
use Rattle.iam_types.specs.declared.refusal.Refusal.TheVariants.{Limit}
use Rattle.iam_types.specs.declared.tables.Tables.{Tables}
use Rattle.iam_model.specs.Consistent.{Consistent, Keeps}
use Rattle.iam_model.specs.Facts.{fact_order, facts_of, sections_with, with_changes}
use Rattle.iam_model.specs.Formed.{IsChange, IsFact, IsOrgFact}
use Rattle.iam_model.specs.Limits.{beyond, limit_of}
use Rattle.iam_model.specs.Part.{order_in}
use Rattle.iam_model.specs.Parts.{node_part, org_part}
use Rattle.iam_model.specs.Refusals.{Asked, Rules, first_of, first_refusal, nothing_asked}
use Rattle.iam_model.specs.Sections.{all_facts}
use Rattle.iam_model.specs.Shared.{changed}
use Rattle.iam_model.proofs.Lists.{org_formed}
use Rattle.iam_model.proofs.Parts.{put_node, put_org}
use Rattle.iam_model.proofs.Places.{changes_keep_formed, changes_keep_order}

-- where there is no first, there is none
pub first_of-None : {X : Type 0} (first : Option X) (more : List (Option X)) → first_of (first ∷ more) ≡ None → (first ≡ None) × (first_of more ≡ None)
first_of-None None more h = (refl, h)
first_of-None (Some first) more h = absurd (cc)

-- no group refuses
pub record Fine (rules : Rules) (asked : Asked) : Type 0 where
  pub names : first_of rules.names ≡ None
  pub active : first_of rules.active ≡ None
  pub fresh : first_of rules.fresh ≡ None
  pub permission : first_of asked.permission ≡ None
  pub early : first_of rules.early ≡ None
  pub conditions : first_of asked.conditions ≡ None
  pub middle : first_of rules.middle ≡ None
  pub operators : first_of asked.operators ≡ None
  pub late : first_of rules.late ≡ None

pub fine : (rules : Rules) (asked : Asked) → first_refusal rules asked ≡ None → Fine rules asked
fine rules asked h =
    let names = first_of-None _ _ h in
    let active = first_of-None _ _ names.1 in
    let fresh = first_of-None _ _ active.1 in
    let permission = first_of-None _ _ fresh.1 in
    let early = first_of-None _ _ permission.1 in
    let conditions = first_of-None _ _ early.1 in
    let middle = first_of-None _ _ conditions.1 in
    let operators = first_of-None _ _ middle.1 in
    let late = first_of-None _ _ operators.1 in
    record {
      names = names.0;
      active = active.0;
      fresh = fresh.0;
      permission = permission.0;
      early = early.0;
      conditions = conditions.0;
      middle = middle.0;
      operators = operators.0;
      late = late.0;
    }

-- what nothing refuses is refused by nothing less
pub rules_fit : (rules : Rules) (asked : Asked) → first_refusal rules asked ≡ None → first_refusal rules nothing_asked ≡ None
rules_fit rules asked h =
    let are : Fine rules asked = fine rules asked h in
    rw (are.names, are.active, are.fresh, are.early, are.middle, are.late) refl

-- a limit that isn't exceeded
pub within_limit : (counted : ℕ) (which : LimitName) → beyond counted which ≡ None → counted ≤ limit_of which
within_limit counted which within = go (nat_lt (limit_of which) counted) refl within
  where
    go : (b : Bool) → nat_lt (limit_of which) counted ≡ b → cond b (Some (Limit counted (limit_of which) which)) None ≡ None → counted ≤ limit_of which
    go true is h = absurd (cc)
    go false is h = let below : counted < suc (limit_of which) = leb-false (suc (limit_of which)) counted is in omega (arith, below)

-- What a command that fits owes: its changes are well formed and lead to the facts of the tables after it, which keep the rules.
pub record Leads (tables : Tables) (changes : List FactChange) (next : Tables) : Type 0 where
  pub formed : All IsChange changes
  pub leads : with_changes (facts_of tables) changes ≡ facts_of next
  pub keeps : Keeps next
  pub counted : next.org.changes ≡ tables.org.changes + 1

-- another organisation in the place of this one
pub org_put : (org new : Org) → order_in org_part new org ≡ Equal → put (order_in org_part) new (org ∷ []) ≡ new ∷ []
org_put org new tied = ap (λ o. match_ordering o (new ∷ org ∷ []) (new ∷ []) (org ∷ new ∷ [])) tied

-- a node that is put, and the organisation in its place
pub node_put : (tables : Tables) (node : Node) (org : Org) → order_in org_part org tables.org ≡ Equal
    → with_changes (facts_of tables) (Put (fact.Node node) ∷ Put (fact.Org org) ∷ []) ≡ facts_of (record tables { org = org; nodes = put (order_in node_part) node tables.nodes })
node_put tables node org tied =
    let put_there : Tables = record tables { nodes = put (order_in node_part) node tables.nodes } in
    ap (put fact_order (fact.Org org)) (put_node node (tables.org ∷ []) tables)
    ∙ put_org org (tables.org ∷ []) put_there
    ∙ ap (λ (orgs : List Org). all_facts (sections_with orgs put_there)) (org_put tables.org org tied)

-- the organisation with one more change is well formed
pub changed_formed : (tables : Tables) → Consistent tables → IsOrgFact (changed tables.org)
changed_formed tables consistent =
    let org : IsOrgFact tables.org = org_formed tables consistent in
    let limit = consistent.keeps.limits.changes in
    record { formed = record { number = org.formed.number; domain = org.formed.domain; customer = org.formed.customer }; next = org.next; changes = omega (arith, limit) }

pub leads_consistent : (tables : Tables) (changes : List FactChange) (next : Tables) → Consistent tables → Leads tables changes next → Consistent next
leads_consistent tables changes next consistent are = record {
  formed = subst (λ (fs : List Fact). All IsFact fs) are.leads (changes_keep_formed changes (facts_of tables) consistent.formed are.formed);
  ordered = subst (λ (fs : List Fact). IsInOrder fact_order fs) are.leads (changes_keep_order changes (facts_of tables) consistent.ordered);
  keeps = are.keeps;
}
