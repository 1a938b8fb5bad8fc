-- Parents that lead to a root do so in no more steps than there are rows.
use Rattle.std.proofs.Common.{◌≡◌, ◌⊎◌, inl, inr, ℕ, zero, suc, ◌<◌, ◌≤◌, true, false, not, cond, List, [], ◌∷◌, filter, length, Some, None, refl, sym, ap, subst, ◌∙◌, arith}
use Rattle.std.specs.Option.{option_map, option_map_or}
use Rattle.std.specs.declared.option.Option.{Option}
use Rattle.std.proofs.lemmas.Bool.{and_from, and_parts, both_ways, cases_Bool, false_from_ne_true, or_cases, or_left, or_right}
use Rattle.std.proofs.lemmas.List.Elements.{filter_passes, All-weaker}
use Rattle.std.proofs.lemmas.Bool.{not-true}
use Rattle.iam_names.specs.declared.node.NodeId.{NodeId}
use Rattle.iam_types.specs.declared.node.Node.{Node}
use Rattle.iam_model.specs.Hierarchy.{is_led_up}
use Rattle.iam_model.specs.Nodes.{is_folder, node_at, parent_of}
use Rattle.iam_model.specs.Same.{same_node}
use Rattle.iam_model.proofs.Finding.{find_nothing, left_out}
use Rattle.iam_model.proofs.Sameness.{same_node-back, same_node-true}

-- ---- steps

pub root_is_led : (steps : ℕ) (root : NodeId) (nodes : List Node) (node : NodeId) → same_node node root ≡ true → is_led_up steps root nodes node ≡ true
root_is_led zero root nodes node is = is
root_is_led (suc steps) root nodes node is = or_left (same_node node root) _ is

-- a folder whose parent is led up is led up
pub led_further : (steps : ℕ) (root : NodeId) (nodes : List Node) (node parent : NodeId) → is_folder node ≡ true → parent_of nodes node ≡ Some parent → is_led_up steps root nodes parent ≡ true → is_led_up (suc steps) root nodes node ≡ true
led_further steps root nodes node parent folder is led =
    or_right (same_node node root) _ (and_from (is_folder node) (option_map_or (is_led_up steps root nodes) (parent_of nodes node) false) folder (rw is led))

-- what is led up in some steps is the root, or a folder whose parent is led up in one fewer
pub data Led (steps : ℕ) (root : NodeId) (nodes : List Node) (node : NodeId) : Type 0 where
  here : same_node node root ≡ true → Led steps root nodes node
  through : (fewer : ℕ) (parent : NodeId) → steps ≡ suc fewer → is_folder node ≡ true → parent_of nodes node ≡ Some parent → is_led_up fewer root nodes parent ≡ true → Led steps root nodes node

pub led : (steps : ℕ) (root : NodeId) (nodes : List Node) (node : NodeId) → is_led_up steps root nodes node ≡ true → Led steps root nodes node
led zero root nodes node h = here h
led (suc steps) root nodes node h = elim (or_cases (same_node node root) _ h) [
  | inl is ↦ here is
  | inr below ↦
      let parts = and_parts (is_folder node) (option_map_or (is_led_up steps root nodes) (parent_of nodes node) false) below in
      go (parent_of nodes node) refl parts.0 parts.1
]
  where
    go : (found : Option NodeId) → parent_of nodes node ≡ found → is_folder node ≡ true → option_map_or (is_led_up steps root nodes) found false ≡ true → Led (suc steps) root nodes node
    go None is folder more = absurd (cc)
    go (Some parent) is folder more = through steps parent refl folder is more

pub led_longer : (steps longer : ℕ) (root : NodeId) (nodes : List Node) (node : NodeId) → steps ≤ longer → is_led_up steps root nodes node ≡ true → is_led_up longer root nodes node ≡ true
led_longer zero longer root nodes node upto h = root_is_led longer root nodes node h
led_longer (suc steps) zero root nodes node upto h = absurd (omega (arith, upto))
led_longer (suc steps) (suc longer) root nodes node upto h = elim (led (suc steps) root nodes node h) [
  | here is ↦ root_is_led (suc longer) root nodes node is
  | through fewer parent one folder is more ↦
      led_further longer root nodes node parent folder is (led_longer steps longer root nodes parent (omega (arith, upto)) (subst (λ (n : ℕ). is_led_up n root nodes parent ≡ true) (let same : fewer ≡ steps = omega (arith, one) in same) more))
]

-- ---- without the row of a node

abbrev without : NodeId → List Node → List Node
without node nodes = filter (λ row. not (same_node row.id node)) nodes

-- the rows of other nodes stay
row_stays : (node other : NodeId) (nodes : List Node) → same_node other node ≡ false → node_at (without node nodes) other ≡ node_at nodes other
row_stays node other [] differs = refl
row_stays node other (row ∷ nodes) differs =
    elim (same_node row.id node) as (λ b. same_node row.id node ≡ b → node_at (cond (not b) (row ∷ without node nodes) (without node nodes)) other ≡ node_at (row ∷ nodes) other) [
      | true ↦ λ is.
          let is_node : row.id ≡ node = same_node-true row.id node is in
          let passed : same_node row.id other ≡ false = false_from_ne_true (same_node row.id other) (λ h. both_ways (same_node other node) differs (subst (λ (n : NodeId). same_node other n ≡ true) is_node (same_node-back row.id other h))) in
          rw passed (row_stays node other nodes differs)
      | false ↦ λ is. ap (λ (found : Option Node). cond (same_node row.id other) (Some row) found) (row_stays node other nodes differs)
    ] refl

-- the node itself has none
row_goes : (node : NodeId) (nodes : List Node) → node_at (without node nodes) node ≡ None
row_goes node nodes =
    find_nothing (λ (row : Node). same_node row.id node) (without node nodes)
    (All-weaker (λ (row : Node). not (same_node row.id node) ≡ true) (λ (row : Node). same_node row.id node ≡ false) (λ row h. not-true (same_node row.id node) h) (without node nodes) (filter_passes (λ (row : Node). not (same_node row.id node)) nodes))

-- so what leads up without it leads up with it
led_with : (steps : ℕ) (root node at : NodeId) (nodes : List Node) → is_led_up steps root (without node nodes) at ≡ true → is_led_up steps root nodes at ≡ true
led_with zero root node at nodes h = h
led_with (suc steps) root node at nodes h = elim (led (suc steps) root (without node nodes) at h) [
  | here is ↦ root_is_led (suc steps) root nodes at is
  | through fewer parent one folder is more ↦
      let same : fewer ≡ steps = omega (arith, one) in
      led_further steps root nodes at parent folder (kept parent (cases_Bool (same_node at node)) is) (led_with steps root node parent nodes (subst (λ (n : ℕ). is_led_up n root (without node nodes) parent ≡ true) same more))
]
  where
    kept : (parent : NodeId) → (same_node at node ≡ true) ⊎ (same_node at node ≡ false) → parent_of (without node nodes) at ≡ Some parent → parent_of nodes at ≡ Some parent
    kept parent (inl is) h =
        let none : parent_of (without node nodes) at ≡ None = subst (λ (n : NodeId). parent_of (without node nodes) n ≡ None) (sym (same_node-true at node is)) (ap (option_map (λ (row : Node). row.parent)) (row_goes node nodes)) in
        absurd (cc)
    kept parent (inr differs) h = sym (ap (option_map (λ (row : Node). row.parent)) (row_stays node at nodes differs)) ∙ h

-- what leads up does so without a node's row, or the way goes through the node
led_without : (steps : ℕ) (root node at : NodeId) (nodes : List Node) → is_led_up steps root nodes at ≡ true → (is_led_up steps root (without node nodes) at ≡ true) ⊎ (is_led_up steps root nodes node ≡ true)
led_without zero root node at nodes h = inl h
led_without (suc steps) root node at nodes h = elim (led (suc steps) root nodes at h) [
  | here is ↦ inl (root_is_led (suc steps) root (without node nodes) at is)
  | through fewer parent one folder is more ↦
      let same : fewer ≡ steps = omega (arith, one) in
      go parent folder is (cases_Bool (same_node at node)) (led_without steps root node parent nodes (subst (λ (n : ℕ). is_led_up n root nodes parent ≡ true) same more))
]
  where
    go : (parent : NodeId) → is_folder at ≡ true → parent_of nodes at ≡ Some parent → (same_node at node ≡ true) ⊎ (same_node at node ≡ false)
        → (is_led_up steps root (without node nodes) parent ≡ true) ⊎ (is_led_up steps root nodes node ≡ true) → (is_led_up (suc steps) root (without node nodes) at ≡ true) ⊎ (is_led_up (suc steps) root nodes node ≡ true)
    go parent folder is (inl same) rest = inr (subst (λ (n : NodeId). is_led_up (suc steps) root nodes n ≡ true) (same_node-true at node same) h)
    go parent folder is (inr differs) (inl led_there) = inl (led_further steps root (without node nodes) at parent folder (ap (option_map (λ (row : Node). row.parent)) (row_stays node at nodes differs) ∙ is) led_there)
    go parent folder is (inr differs) (inr through_node) = inr (led_longer steps (suc steps) root nodes node (omega arith) through_node)

-- a node that has a parent has a row
shorter_without : (node parent : NodeId) (nodes : List Node) → parent_of nodes node ≡ Some parent → length (without node nodes) < length nodes
shorter_without node parent nodes is = go (node_at nodes node) refl is
  where
    go : (found : Option Node) → node_at nodes node ≡ found → option_map (λ (row : Node). row.parent) found ≡ Some parent → length (without node nodes) < length nodes
    go None at h = absurd (cc)
    go (Some row) at h = left_out (λ (r : Node). same_node r.id node) nodes row at

pub led_shortly : (steps : ℕ) (root : NodeId) (nodes : List Node) (node : NodeId) → is_led_up steps root nodes node ≡ true → is_led_up (length nodes) root nodes node ≡ true
led_shortly zero root nodes node h = root_is_led (length nodes) root nodes node h
led_shortly (suc steps) root nodes node h = elim (led (suc steps) root nodes node h) [
  | here is ↦ root_is_led (length nodes) root nodes node is
  | through fewer parent one folder is more ↦
      let same : fewer ≡ steps = omega (arith, one) in
      go parent folder is (led_without steps root node parent nodes (subst (λ (n : ℕ). is_led_up n root nodes parent ≡ true) same more)) (led_shortly steps root nodes node) (led_shortly steps root (without node nodes) parent)
]
  where
    go : (parent : NodeId) → is_folder node ≡ true → parent_of nodes node ≡ Some parent → (is_led_up steps root (without node nodes) parent ≡ true) ⊎ (is_led_up steps root nodes node ≡ true)
        → (is_led_up steps root nodes node ≡ true → is_led_up (length nodes) root nodes node ≡ true)
        → (is_led_up steps root (without node nodes) parent ≡ true → is_led_up (length (without node nodes)) root (without node nodes) parent ≡ true) → is_led_up (length nodes) root nodes node ≡ true
    go parent folder is (inr shorter) same_rows fewer_rows = same_rows shorter
    go parent folder is (inl other) same_rows fewer_rows =
        let rest : is_led_up (length (without node nodes)) root (without node nodes) parent ≡ true = fewer_rows other in
        let there : is_led_up (length (without node nodes)) root nodes parent ≡ true = led_with (length (without node nodes)) root node parent nodes rest in
        led_longer (suc (length (without node nodes))) (length nodes) root nodes node (omega (arith, shorter_without node parent nodes is)) (led_further (length (without node nodes)) root nodes node parent folder is there)
