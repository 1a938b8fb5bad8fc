-- A node that exists has one path.
use Rattle.std.proofs.Common.{◌≡◌, ◌≤◌, true, List, [], ◌∷◌, ◌++◌, length, Some, None, refl, sym, ap, subst, ◌∙◌, append_assoc, arith}
use Rattle.std.specs.Prelude.{reverse}
use Rattle.std.proofs.lemmas.List.{length-reverse, reverse-append, reverse-reverse}
use Rattle.iam_names.specs.declared.node.NodeId.{NodeId}
use Rattle.iam_types.specs.declared.node.Node.{Node}
use Rattle.iam_types.specs.declared.tables.Tables.{Tables}
use Rattle.iam_model.specs.Consistent.{Consistent}
use Rattle.iam_model.specs.Nodes.{exists, longest_path, organization_of, parent_of, path, way_up}
use Rattle.iam_model.specs.Path.{EndsWith, HaveParentsBefore, IsPath}
use Rattle.iam_model.proofs.Climbing.{IsWayUp, climb_short, organization_is_top, way_stands, way_up_is}

reverse_first : (node : NodeId) (more : List NodeId) → reverse (node ∷ more) ≡ reverse more ++ node ∷ []
reverse_first node more = reverse-append (node ∷ []) more

-- ---- from the way up to the path

parents_more : (rows : List Node) (before : List NodeId) (upper lower : NodeId) → HaveParentsBefore rows (before ++ upper ∷ []) → parent_of rows lower ≡ Some upper → HaveParentsBefore rows ((before ++ upper ∷ []) ++ lower ∷ [])
parents_more rows [] upper lower have is = (is, tt)
parents_more rows (first ∷ []) upper lower have is = (have.0, (is, tt))
parents_more rows (first ∷ next ∷ more) upper lower have is = (have.0, parents_more rows (next ∷ more) upper lower have.1 is)

way_is_path : (tables : Tables) (node : NodeId) (up : List NodeId) → IsWayUp tables node up → IsPath tables node (reverse up)
way_is_path tables node [] way = absurd way
way_is_path tables node (first ∷ []) way = record {
  begins = ([], ap (λ (n : NodeId). n ∷ []) (way.0 ∙ way.1));
  ends = ([], ap (λ (n : NodeId). n ∷ []) way.0);
  parents = tt;
}
way_is_path tables node (first ∷ next ∷ more) way =
    let above : IsPath tables next (reverse (next ∷ more)) = way_is_path tables next (next ∷ more) way.2 in
    let same : reverse (first ∷ next ∷ more) ≡ reverse (next ∷ more) ++ node ∷ [] = reverse_first first (next ∷ more) ∙ ap (λ (n : NodeId). reverse (next ∷ more) ++ n ∷ []) way.0 in
    let parents : HaveParentsBefore tables.nodes (reverse (next ∷ more) ++ node ∷ []) =
    subst (λ (ns : List NodeId). HaveParentsBefore tables.nodes (ns ++ node ∷ [])) (sym above.ends.1)
    (parents_more tables.nodes above.ends.0 next node (subst (λ (ns : List NodeId). HaveParentsBefore tables.nodes ns) above.ends.1 above.parents) way.1) in
    record {
      begins = (above.begins.0 ++ node ∷ [], same ∙ ap (λ (ns : List NodeId). ns ++ node ∷ []) above.begins.1);
      ends = (reverse (next ∷ more), same);
      parents = subst (λ (ns : List NodeId). HaveParentsBefore tables.nodes ns) (sym same) parents;
    }

-- ---- and back

ends_alone : (node upper : NodeId) (before : List NodeId) → upper ∷ [] ≡ before ++ node ∷ [] → upper ≡ node
ends_alone node upper [] same = cc
ends_alone node upper (first ∷ before) same =
    let counted : 1 ≡ length (first ∷ before ++ node ∷ []) = ap (λ (ns : List NodeId). length ns) same in
    absurd (long before counted)
  where
    long : (ns : List NodeId) → 1 ≡ length (first ∷ ns ++ node ∷ []) → ⊥
    long [] h = omega (arith, h)
    long (n ∷ ns) h = omega (arith, h)

ends_later : (node upper lower : NodeId) (more before : List NodeId) → upper ∷ lower ∷ more ≡ before ++ node ∷ [] → EndsWith node (lower ∷ more)
ends_later node upper lower more [] same = let counted : length (upper ∷ lower ∷ more) ≡ 1 = ap (λ (ns : List NodeId). length ns) same in absurd (omega (arith, counted))
ends_later node upper lower more (first ∷ before) same = (before, let rest : lower ∷ more ≡ before ++ node ∷ [] = cc in rest)

way_from : (tables : Tables) (node upper : NodeId) (done rest : List NodeId) → IsWayUp tables upper (upper ∷ done) → HaveParentsBefore tables.nodes (upper ∷ rest) → EndsWith node (upper ∷ rest) → IsWayUp tables node (reverse rest ++ upper ∷ done)
way_from tables node upper done [] way have ends = subst (λ (n : NodeId). IsWayUp tables n (upper ∷ done)) (ends_alone node upper ends.0 ends.1) way
way_from tables node upper done (lower ∷ more) way have ends =
    let all : IsWayUp tables node (reverse more ++ lower ∷ upper ∷ done) = way_from tables node lower (upper ∷ done) more (refl, have.0, way) have.1 (ends_later node upper lower more ends.0 ends.1) in
    subst (λ (ns : List NodeId). IsWayUp tables node ns) (sym (ap (λ (ns : List NodeId). ns ++ upper ∷ done) (reverse_first lower more) ∙ append_assoc (reverse more) (lower ∷ []) (upper ∷ done))) all

path_is_way : (tables : Tables) (node : NodeId) (nodes : List NodeId) → IsPath tables node nodes → IsWayUp tables node (reverse nodes)
path_is_way tables node nodes is =
    let root = organization_of tables in
    let begins : nodes ≡ root ∷ is.begins.0 = is.begins.1 in
    let have : HaveParentsBefore tables.nodes (root ∷ is.begins.0) = subst (λ (ns : List NodeId). HaveParentsBefore tables.nodes ns) begins is.parents in
    let ends : EndsWith node (root ∷ is.begins.0) = subst (λ (ns : List NodeId). EndsWith node ns) begins is.ends in
    let way : IsWayUp tables node (reverse is.begins.0 ++ root ∷ []) = way_from tables node root [] is.begins.0 (refl, refl) have ends in
    subst (λ (ns : List NodeId). IsWayUp tables node ns) (sym (ap (λ (ns : List NodeId). reverse ns) begins ∙ reverse_first root is.begins.0)) way

-- ---- one way

same_way : (tables : Tables) (node : NodeId) (a b : List NodeId) → parent_of tables.nodes (organization_of tables) ≡ None → IsWayUp tables node a → IsWayUp tables node b → a ≡ b
same_way tables node [] b top way other = absurd way
same_way tables node (first ∷ []) [] top way other = absurd other
same_way tables node (first ∷ next ∷ more) [] top way other = absurd other
same_way tables node (first ∷ []) (second ∷ []) top way other = ap (λ (n : NodeId). n ∷ []) (way.0 ∙ sym other.0)
same_way tables node (first ∷ []) (second ∷ next ∷ more) top way other =
    let none : parent_of tables.nodes node ≡ None = subst (λ (n : NodeId). parent_of tables.nodes n ≡ None) (sym way.1) top in
    let some : parent_of tables.nodes node ≡ Some next = other.1 in
    absurd (cc)
same_way tables node (first ∷ next ∷ more) (second ∷ []) top way other =
    let none : parent_of tables.nodes node ≡ None = subst (λ (n : NodeId). parent_of tables.nodes n ≡ None) (sym other.1) top in
    let some : parent_of tables.nodes node ≡ Some next = way.1 in
    absurd (cc)
same_way tables node (first ∷ next ∷ more) (second ∷ another ∷ others) top way other =
    let heads : first ≡ second = way.0 ∙ sym other.0 in
    let found : Some next ≡ Some another = sym way.1 ∙ other.1 in
    let nexts : next ≡ another = cc in
    let rest : next ∷ more ≡ another ∷ others = same_way tables next (next ∷ more) (another ∷ others) top way.2 (subst (λ (n : NodeId). IsWayUp tables n (another ∷ others)) (sym nexts) other.2) in
    ap (λ (n : NodeId). n ∷ next ∷ more) heads ∙ ap (λ (ns : List NodeId). second ∷ ns) rest

-- ---- the laws

pub path_stands : (tables : Tables) (node : NodeId) → Consistent tables → exists tables node ≡ true → IsPath tables node (path tables node)
path_stands tables node consistent there = way_is_path tables node (way_up tables.nodes node) (way_stands tables node consistent there)

pub path_few : (tables : Tables) (node : NodeId) → length (path tables node) ≤ longest_path
path_few tables node =
    let reversed : length (reverse (way_up tables.nodes node)) ≡ length (way_up tables.nodes node) = length-reverse (way_up tables.nodes node) in
    let few : length (way_up tables.nodes node) ≤ 12 = subst (λ (up : List NodeId). length up ≤ 12) (sym (way_up_is tables.nodes node)) (climb_short 12 tables.nodes node) in
    omega (arith, reversed, few)

pub path_one : (tables : Tables) (node : NodeId) (a b : List NodeId) → Consistent tables → IsPath tables node a → IsPath tables node b → a ≡ b
path_one tables node a b consistent first second =
    let same : reverse a ≡ reverse b = same_way tables node (reverse a) (reverse b) (organization_is_top tables consistent) (path_is_way tables node a first) (path_is_way tables node b second) in
    sym (reverse-reverse a) ∙ ap (λ (ns : List NodeId). reverse ns) same ∙ reverse-reverse b
