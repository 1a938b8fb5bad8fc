-- Facts taken apart.
use Rattle.std.proofs.Common.{◌≡◌, ◌+◌, ◌++◌, ℕ, List, [], ◌∷◌, length, map, Option, Some, None, refl, sym, ap, subst, ◌∙◌, length-append}
use Rattle.std.proofs.lemmas.List.{length-map}
use Rattle.std.specs.Prelude.{IfSome, IfNone}
use Rattle.iam_text.specs.Put.{placed}
use Rattle.iam_types.specs.declared.allow.AllowPolicy.{AllowPolicy}
use Rattle.iam_types.specs.declared.fact.Fact.{Fact}
use Rattle.iam_types.specs.declared.fact.Fact.TheVariants as fact
use Rattle.iam_types.specs.declared.node.Node.{Node}
use Rattle.iam_types.specs.declared.node.Org.{Org}
use Rattle.iam_types.specs.declared.tables.Tables.{Tables}
use Rattle.iam_model.specs.Broken.{GiveTables, HasOneOrg, IsFirstBroken, IsFirstBrokenBy, IsOnlyOrg}
use Rattle.iam_model.specs.Broken.IsFirstBroken.{tables as by_tables}
use Rattle.iam_model.specs.Consistent.{Keeps, NothingElse}
use Rattle.iam_model.specs.Facts.{AreApart, fact_order, facts_of, tables_with}
use Rattle.iam_model.specs.Part.{rows_in, table_of}
use Rattle.iam_model.specs.Parts.{allow_part, node_part, org_part}

-- two organisations are not one, and none is not either
pub two_not_one : (facts others : List Fact) (a b : Org) (orgs : List Org) → rows_in org_part facts ≡ a ∷ rows_in org_part others → rows_in org_part others ≡ b ∷ orgs → HasOneOrg facts → ⊥
two_not_one facts others a b orgs first second one = let is = one.1 in absurd (cc)

pub none_not_one : (facts : List Fact) → rows_in org_part facts ≡ [] → HasOneOrg facts → ⊥
none_not_one facts none one = let is = one.1 in absurd (cc)

few : (tables : Tables) → NothingElse tables → facts_of tables ≡ map (λ policy. fact.Allow policy) tables.allows ++ (map (λ node. fact.Node node) tables.nodes ++ fact.Org tables.org ∷ [])
few tables else = rw (else.bounds, else.boundaries, else.denies, else.edges, else.groups, else.keys, else.roles, else.tags, else.values) refl

-- the policies and the nodes in their places and the organisation are all facts in their places
pub all_placed : (facts : List Fact) (org : Org) (nodes : List Node) (rows : List AllowPolicy) → NothingElse (tables_with org facts) → facts_of (tables_with org facts) ≡ placed fact_order facts
    → nodes ≡ table_of node_part facts → rows ≡ table_of allow_part facts → length (placed fact_order facts) ≡ length rows + (length nodes + 1)
all_placed facts org nodes rows else same are_nodes are =
    let policies : List AllowPolicy = table_of allow_part facts in
    let others : List Node = table_of node_part facts in
    let behind : length (map (λ (node : Node). fact.Node node) others ++ fact.Org org ∷ []) ≡ length nodes + 1 =
    length-append (map (λ (node : Node). fact.Node node) others) (fact.Org org ∷ []) ∙ ap (λ (n : ℕ). n + 1) (length-map others (λ (node : Node). fact.Node node) ∙ ap length (sym are_nodes)) in
    ap length (sym same ∙ few (tables_with org facts) else)
    ∙ length-append (map (λ (policy : AllowPolicy). fact.Allow policy) policies) (map (λ (node : Node). fact.Node node) others ++ fact.Org org ∷ [])
    ∙ ap (λ (n : ℕ). n + length (map (λ (node : Node). fact.Node node) others ++ fact.Org org ∷ [])) (length-map policies (λ (policy : AllowPolicy). fact.Allow policy) ∙ ap length (sym are))
    ∙ ap (λ (n : ℕ). length rows + n) behind

-- tables without anything else are those of an organisation, nodes and policies
pub only_these : (tables : Tables) → NothingElse tables → tables ≡ record {
  org = tables.org;
  nodes = tables.nodes;
  keys = [];
  values = [];
  tags = [];
  groups = [];
  edges = [];
  roles = [];
  allows = tables.allows;
  denies = [];
  boundaries = [];
  bounds = [];
}
only_these t else =
    let whole : Tables = record { org = t.org; allows = t.allows; bounds = t.bounds; boundaries = t.boundaries; denies = t.denies; edges = t.edges; groups = t.groups; keys = t.keys; nodes = t.nodes; roles = t.roles; tags = t.tags; values = t.values } in
    let none : Tables = record { org = t.org; allows = t.allows; bounds = []; boundaries = []; denies = []; edges = []; groups = []; keys = []; nodes = t.nodes; roles = []; tags = []; values = [] } in
    let same : whole ≡ none = rw (else.bounds, else.boundaries, else.denies, else.edges, else.groups, else.keys, else.roles, else.tags, else.values) refl in
    same

pub broken_later : (facts : List Fact) (org : Org) (tables : Tables) (found : Option ℕ) (rule : ℕ) → IsOnlyOrg facts org → AreApart facts → tables ≡ tables_with org facts
    → found ≡ Some rule → IfSome found (IsFirstBrokenBy tables) → IsFirstBroken facts rule
broken_later facts org tables found rule one apart are is broken =
    let first : IsFirstBrokenBy tables rule = subst (λ (o : Option ℕ). IfSome o (IsFirstBrokenBy tables)) is broken in
    by_tables one apart (subst (λ (t : Tables). IsFirstBrokenBy t rule) are first)

pub given : (facts : List Fact) (org : Org) (tables : Tables) (found : Option ℕ) → IsOnlyOrg facts org → AreApart facts → tables ≡ tables_with org facts
    → found ≡ None → IfNone found (Keeps tables) → GiveTables facts tables
given facts org tables found one apart are is kept =
    let same : tables.org ≡ org = ap (λ (t : Tables). t.org) are in
    record {
      org = subst (IsOnlyOrg facts) (sym same) one;
      apart = apart;
      lists = are ∙ ap (λ (o : Org). tables_with o facts) (sym same);
      keeps = subst (λ (o : Option ℕ). IfNone o (Keeps tables)) is kept;
    }
