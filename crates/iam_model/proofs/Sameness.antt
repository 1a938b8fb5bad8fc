-- Nodes that are the same.
use Rattle.std.proofs.Common.{◌≡◌, ℕ, true, false, List, refl, sym, ap, subst}
use Rattle.std.specs.Bool.{◌==◌}
use Rattle.std.specs.Str.{bytes_eq}
use Rattle.std.specs.Ordering.{is_eq, nat_cmp}
use Rattle.std.specs.Cmp.Lexicographic.{slice_cmp}
use Rattle.std.proofs.lemmas.Bool.{and_from, and_parts, eq-eqb, eqb-true, false_from_ne_true}
use Rattle.std.proofs.lemmas.Cmp.{nat_list_cmp_total, tied_itself}
use Rattle.std.proofs.lemmas.Slice.Eq.{bytes_eq-Decides}
use Rattle.iam_names.specs.declared.node.NodeKind.{NodeKind}
use Rattle.iam_names.specs.declared.node.NodeKind.TheVariants.{Organization, Folder, Project}
use Rattle.iam_names.specs.declared.node.NodeId.{NodeId}
use Rattle.iam_names.specs.Node.{node_id_text}
use Rattle.iam_types.specs.declared.node.Node.{Node}
use Rattle.iam_model.specs.Part.{order_in}
use Rattle.iam_model.specs.Parts.{node_part}
use Rattle.iam_model.specs.Same.{same_kind, same_node}

pub same_kind-true : (a b : NodeKind) → same_kind a b ≡ true → a ≡ b
same_kind-true Organization Organization h = refl
same_kind-true Folder Folder h = refl
same_kind-true Project Project h = refl
same_kind-true Organization Folder h = absurd (cc)
same_kind-true Organization Project h = absurd (cc)
same_kind-true Folder Organization h = absurd (cc)
same_kind-true Folder Project h = absurd (cc)
same_kind-true Project Organization h = absurd (cc)
same_kind-true Project Folder h = absurd (cc)

same_kind-itself : (a : NodeKind) → same_kind a a ≡ true
same_kind-itself Organization = refl
same_kind-itself Folder = refl
same_kind-itself Project = refl

pub same_kind-from : (a b : NodeKind) → a ≡ b → same_kind a b ≡ true
same_kind-from a b is = subst (λ (k : NodeKind). same_kind a k ≡ true) is (same_kind-itself a)

pub same_node-true : (a b : NodeId) → same_node a b ≡ true → a ≡ b
same_node-true a b h =
    let parts = and_parts (same_kind a.kind b.kind) (a.number == b.number) h in
    let kinds : a.kind ≡ b.kind = same_kind-true a.kind b.kind parts.0 in
    let numbers : a.number ≡ b.number = eqb-true a.number b.number parts.1 in
    λ i. record { kind = kinds i; number = numbers i }

pub same_node-itself : (a : NodeId) → same_node a a ≡ true
same_node-itself a = and_from (same_kind a.kind a.kind) (a.number == a.number) (same_kind-itself a.kind) (eq-eqb a.number a.number refl)

pub same_node-from : (a b : NodeId) → a ≡ b → same_node a b ≡ true
same_node-from a b is = subst (λ (c : NodeId). same_node a c ≡ true) is (same_node-itself a)

pub same_node-back : (a b : NodeId) → same_node a b ≡ true → same_node b a ≡ true
same_node-back a b h = same_node-from b a (sym (same_node-true a b h))

pub other_node-back : (a b : NodeId) → same_node a b ≡ false → same_node b a ≡ false
other_node-back a b h = false_from_ne_true (same_node b a) (λ is. let back : same_node a b ≡ true = same_node-back b a is in absurd (cc))

pub same_bytes : (a b : List ℕ) → bytes_eq a b ≡ true → a ≡ b
same_bytes a b h = (bytes_eq-Decides a b).0 h

pub same_bytes-back : (a b : List ℕ) → bytes_eq a b ≡ true → bytes_eq b a ≡ true
same_bytes-back a b h = (bytes_eq-Decides b a).1 (sym (same_bytes a b h))

-- nodes in two places are two
pub places_differ : (a b : Node) → is_eq (order_in node_part a b) ≡ false → same_node a.id b.id ≡ false
places_differ a b apart = false_from_ne_true (same_node a.id b.id) (λ is.
    let texts : node_id_text a.id ≡ node_id_text b.id = ap node_id_text (same_node-true a.id b.id is) in
    let tied : is_eq (slice_cmp nat_cmp (node_id_text a.id) (node_id_text b.id)) ≡ true = subst (λ (t : List ℕ). is_eq (slice_cmp nat_cmp (node_id_text a.id) t) ≡ true) texts (ap is_eq (tied_itself nat_list_cmp_total (node_id_text a.id))) in
    absurd (cc))
