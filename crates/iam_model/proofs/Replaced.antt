-- The hierarchy with another row over that of a node, which keeps its place, its parent and its id: what stood stands.
use Rattle.std.proofs.Common.{◌≡◌, ℕ, zero, suc, Bool, true, false, ◌&&◌, ◌||◌, List, [], ◌∷◌, Some, None, refl, sym, ap, ◌∙◌}
use Rattle.std.specs.Prelude.{Contains}
use Rattle.std.specs.List.{All, list_any}
use Rattle.std.specs.Option.{option_map, option_map_or, is_some}
use Rattle.std.specs.declared.option.Option.{Option}
use Rattle.std.proofs.lemmas.Bool.{both_ways, false_from_ne_true, not-true, not_from_false}
use Rattle.std.proofs.lemmas.Cmp.{nat_list_cmp_total, on_total, tied_itself}
use Rattle.std.proofs.lemmas.List.Folds.{list_any_none}
use Rattle.iam_text.proofs.InOrder.{All-put}
use Rattle.iam_names.specs.declared.node.NodeId.{NodeId}
use Rattle.iam_types.specs.declared.node.Node.{Node}
use Rattle.iam_types.specs.declared.tables.Tables.{Tables}
use Rattle.iam_model.specs.Consistent.{Consistent}
use Rattle.iam_model.specs.Hierarchy.{is_alone, is_led_up}
use Rattle.iam_model.specs.NodeChanges.{replaced, with_node_replaced}
use Rattle.iam_model.specs.Nodes.{climb, exists, is_active, is_folder, longest_path, organization_of, parent_of, way_up}
use Rattle.iam_model.specs.Part.{order_in}
use Rattle.iam_model.specs.Parts.{node_part}
use Rattle.iam_model.specs.Same.{same_node}
use Rattle.iam_model.proofs.Climbing.{way_up_is}
use Rattle.iam_model.proofs.Finding.{All-both, none_passes}
use Rattle.iam_model.proofs.Lists.{nodes_ordered}
use Rattle.iam_model.proofs.Over.{Over, found_elsewhere, put_over, still_found, still_holds}

-- a row with another name to be shown by, or another state
abbrev pub remade : Node → List ℕ → Bool → Node
remade old display active = record old { display = display; active = active }

pub replaced_over : (tables : Tables) (old : Node) (display : List ℕ) (active : Bool) → Consistent tables → Contains tables.nodes old → Over old (remade old display active) tables.nodes (replaced (remade old display active) tables.nodes)
unfolding replaced
replaced_over tables old display active consistent there =
    put_over (order_in node_part) (on_total (λ (node : Node). node_part.key node) nat_list_cmp_total) old (remade old display active) tables.nodes (nodes_ordered tables consistent) (tied_itself nat_list_cmp_total (node_part.key old)) there

pub All-replaced : (P : Node → Type 0) (node : Node) (nodes : List Node) → P node → All P nodes → All P (replaced node nodes)
unfolding replaced
All-replaced P node nodes holds all = All-put P (order_in node_part) node nodes holds all

-- ---- ways up

pub parent_same : (old : Node) (display : List ℕ) (active : Bool) (rows next : List Node) → Over old (remade old display active) rows next → (at : NodeId) → parent_of next at ≡ parent_of rows at
parent_same old display active rows next over at = still_found (λ (row : Node). same_node row.id at) (option_map (λ (row : Node). row.parent)) old (remade old display active) rows next over refl refl

climb_same : (rows next : List Node) → ((at : NodeId) → parent_of next at ≡ parent_of rows at) → (steps : ℕ) (at : NodeId) → climb steps next at ≡ climb steps rows at
climb_same rows next parents zero at = refl
climb_same rows next parents (suc steps) at =
    ap (λ (found : Option NodeId). at ∷ option_map_or (climb steps next) found []) (parents at) ∙ go (parent_of rows at) (climb_same rows next parents steps)
  where
    go : (found : Option NodeId) → ((parent : NodeId) → climb steps next parent ≡ climb steps rows parent) → at ∷ option_map_or (climb steps next) found [] ≡ at ∷ option_map_or (climb steps rows) found []
    go None more = refl
    go (Some parent) more = ap (λ (up : List NodeId). at ∷ up) (more parent)

pub way_same : (rows next : List Node) → ((at : NodeId) → parent_of next at ≡ parent_of rows at) → (at : NodeId) → way_up next at ≡ way_up rows at
way_same rows next parents at = way_up_is next at ∙ climb_same rows next parents longest_path at ∙ sym (way_up_is rows at)

pub led_same : (root : NodeId) (rows next : List Node) → ((at : NodeId) → parent_of next at ≡ parent_of rows at) → (steps : ℕ) (at : NodeId) → is_led_up steps root next at ≡ is_led_up steps root rows at
led_same root rows next parents zero at = refl
led_same root rows next parents (suc steps) at =
    ap (λ (found : Option NodeId). same_node at root || (is_folder at && option_map_or (is_led_up steps root next) found false)) (parents at) ∙ go (parent_of rows at) (led_same root rows next parents steps)
  where
    go : (found : Option NodeId) → ((parent : NodeId) → is_led_up steps root next parent ≡ is_led_up steps root rows parent)
        → (same_node at root || (is_folder at && option_map_or (is_led_up steps root next) found false)) ≡ (same_node at root || (is_folder at && option_map_or (is_led_up steps root rows) found false))
    go None more = refl
    go (Some parent) more = ap (λ b. same_node at root || (is_folder at && b)) (more parent)

-- ---- which there are, and which are ACTIVE

pub exists_same : (tables : Tables) (old : Node) (display : List ℕ) (active : Bool) → Consistent tables → Contains tables.nodes old → (at : NodeId) → exists (with_node_replaced tables (remade old display active)) at ≡ exists tables at
exists_same tables old display active consistent there at =
    ap (λ b. same_node at (organization_of tables) || b)
    (still_found (λ (row : Node). same_node row.id at) (λ (found : Option Node). is_some found) old (remade old display active) tables.nodes (replaced (remade old display active) tables.nodes) (replaced_over tables old display active consistent there) refl refl)

-- with the same state, all have their state
pub active_same : (old : Node) (display : List ℕ) (rows next : List Node) → Over old (remade old display old.active) rows next → (at : NodeId) → is_active next at ≡ is_active rows at
active_same old display rows next over at = still_found (λ (row : Node). same_node row.id at) (λ (found : Option Node). option_map_or (λ (row : Node). row.active) found true) old (remade old display old.active) rows next over refl refl

-- all other nodes have their state
pub active_elsewhere : (old : Node) (display : List ℕ) (active : Bool) (rows next : List Node) → Over old (remade old display active) rows next → (at : NodeId) → same_node old.id at ≡ false → is_active next at ≡ is_active rows at
active_elsewhere old display active rows next over at other =
    ap (λ (found : Option Node). option_map_or (λ (row : Node). row.active) found true) (found_elsewhere (λ (row : Node). same_node row.id at) old (remade old display active) rows next over other other)

-- where the row is made ACTIVE, what was ACTIVE is
pub active_still : (old : Node) (display : List ℕ) (rows next : List Node) → Over old (remade old display true) rows next → (at : NodeId) → is_active rows at ≡ true → is_active next at ≡ true
active_still old display rows next over at was =
    still_holds (λ (row : Node). same_node row.id at) (λ (found : Option Node). option_map_or (λ (row : Node). row.active) found true ≡ true) old (remade old display true) rows next over refl refl was

-- ---- rows that are alone stay so

pub alone_replaced : (alike : Node → Node → Bool) → ((a b : Node) → alike a b ≡ true → alike b a ≡ true) → (node : Node) (nodes : List Node) → alike node node ≡ false → All (λ row. alike node row ≡ false) nodes
    → All (λ row. is_alone alike nodes row ≡ true) nodes → All (λ row. is_alone alike (replaced node nodes) row ≡ true) (replaced node nodes)
alone_replaced alike back node nodes itself none all =
    All-replaced (λ (row : Node). is_alone alike (replaced node nodes) row ≡ true) node nodes
    (apart node (All-replaced (λ (row : Node). alike node row ≡ false) node nodes itself none))
    (All-both (λ (row : Node). alike node row ≡ false) (λ (row : Node). is_alone alike nodes row ≡ true) (λ (row : Node). is_alone alike (replaced node nodes) row ≡ true) still nodes none all)
  where
    apart : (row : Node) → All (λ other. alike row other ≡ false) (replaced node nodes) → is_alone alike (replaced node nodes) row ≡ true
    apart row others = not_from_false (list_any (alike row) (replaced node nodes)) (list_any_none (alike row) (replaced node nodes) others)

    still : (row : Node) → alike node row ≡ false → is_alone alike nodes row ≡ true → is_alone alike (replaced node nodes) row ≡ true
    still row other was =
        let turned : alike row node ≡ false = false_from_ne_true (alike row node) (λ is. both_ways (alike node row) other (back row node is)) in
        apart row (All-replaced (λ (r : Node). alike row r ≡ false) node nodes turned (none_passes (alike row) nodes (not-true (list_any (alike row) nodes) was)))
