-- The function gives the kind of the relation, or its first fault.
use Rattle.std.proofs.Common.{◌≡◌, ℕ, suc, zero, ◌≤◌, List, [], ◌∷◌, map, Result, Ok, Err, MatchResult, ap, subst, arith}
use Rattle.std.specs.List.{All}
use Rattle.std.specs.Prelude.{◌↔◌}
use Rattle.std.proofs.lemmas.List.Elements.{All-head, All-tail, All-weaker}
use Rattle.cel_tree.specs.Tree.{size}
use Rattle.cel_tree.specs.declared.tree.Expr.{Expr, out-Expr}
use Rattle.cel_types.specs.HasKind.{FirstFault, FirstFaultAmong, HasKind, HaveKinds, children}
use Rattle.cel_types.specs.declared.checking.TypeFault.{TypeFault}
use Rattle.cel_types.specs.declared.checking.TypeKind.{TypeKind}
use Rattle.cel_types.specs.KindOf.{all_kinds, at_node, from_parts, kind_of, kind_within, with_first}
use Rattle.cel_types.specs.Nodes.{node_kind}
use Rattle.cel_types.specs.declared.kind.Kind.{Kind}
use Rattle.cel_types.specs.Sight.{Sight}
use Rattle.cel_types.proofs.OneKind.{all_plain, no_kind, one_first, one_kind}
use Rattle.cel_types.proofs.Judged.{Answers, judged}
use Rattle.cel_types.proofs.Smaller.{one_at_least, smaller}

abbrev pub IsSo : Sight → Expr → Result Kind TypeFault → Type 0
IsSo sight e r = MatchResult r (HasKind sight e) (FirstFault sight e)

abbrev AreSo : Sight → List Expr → Result (List Kind) TypeFault → Type 0
AreSo sight es r = MatchResult r (HaveKinds sight es) (FirstFaultAmong sight es)

more_so : (sight : Sight) (e : Expr) (es : List Expr) (k : Kind) (r : Result (List Kind) TypeFault)
    → HasKind sight e k → AreSo sight es r → AreSo sight (e ∷ es) (with_first k r)
more_so sight e es k (Ok ks) has have = HaveKinds.more has have
more_so sight e es k (Err fault) has fails = FirstFaultAmong.later has fails

among_so : (sight : Sight) (f : Expr → Result Kind TypeFault) (es : List Expr) → All (λ e. IsSo sight e (f e)) es
    → AreSo sight es (all_kinds (map f es))
among_so sight f [] all = HaveKinds.none
among_so sight f (e ∷ es) all =
    elim (f e) as (λ r. IsSo sight e r → AreSo sight (e ∷ es) (all_kinds (r ∷ map f es))) [
      | Ok k ↦ λ has. more_so sight e es k (all_kinds (map f es)) has (among_so sight f es (All-tail (λ (c : Expr). IsSo sight c (f c)) e es all))
      | Err fault ↦ λ fails. FirstFaultAmong.first fails
    ] (All-head (λ (c : Expr). IsSo sight c (f c)) e es all)

pub node_so : (sight : Sight) (e : Expr) (ks : List Kind) → HaveKinds sight (children e) ks → IsSo sight e (at_node e (node_kind sight (out-Expr e) ks))
node_so sight e ks have = by (node_kind sight (out-Expr e) ks) (judged sight e ks have)
  where
    by : (r : Result Kind TypeKind) → Answers sight e r → IsSo sight e (at_node e r)
    by (Ok k) h = h
    by (Err what) h = h

parts_so : (sight : Sight) (e : Expr) (r : Result (List Kind) TypeFault) → AreSo sight (children e) r → IsSo sight e (from_parts sight e r)
parts_so sight e (Ok ks) have = node_so sight e ks have
parts_so sight e (Err fault) fails = FirstFault.inside (all_plain (out-Expr e)) fails

within_so : (sight : Sight) (n : ℕ) (e : Expr) → size e ≤ n → IsSo sight e (kind_within n sight e)
within_so sight zero e h = absurd (one_at_least e h)
within_so sight (suc n) e h =
    parts_so sight e (all_kinds (map (kind_within n sight) (children e)))
    (among_so sight (kind_within n sight) (children e)
    (All-weaker (λ (c : Expr). size c ≤ n) (λ (c : Expr). IsSo sight c (kind_within n sight c)) (within_so sight n) (children e) (smaller n e h)))

pub kind_so : (sight : Sight) (e : Expr) → IsSo sight e (kind_of sight e)
kind_so sight e = within_so sight (size e) e (omega arith)

-- the function and the relations are one
pub kind_iff : (sight : Sight) (e : Expr) (k : Kind) → (kind_of sight e ≡ Ok k) ↔ HasKind sight e k
kind_iff sight e k = (λ is. subst (IsSo sight e) is (kind_so sight e), λ has. go has (kind_of sight e) (kind_so sight e))
  where
    go : HasKind sight e k → (r : Result Kind TypeFault) → IsSo sight e r → r ≡ Ok k
    go has (Ok l) other = ap (λ (m : Kind). Ok m) (one_kind other k has)
    go has (Err fault) fails = absurd (no_kind fails k has)

pub fault_iff : (sight : Sight) (e : Expr) (fault : TypeFault) → (kind_of sight e ≡ Err fault) ↔ FirstFault sight e fault
fault_iff sight e fault = (λ is. subst (IsSo sight e) is (kind_so sight e), λ fails. go fails (kind_of sight e) (kind_so sight e))
  where
    go : FirstFault sight e fault → (r : Result Kind TypeFault) → IsSo sight e r → r ≡ Err fault
    go fails (Ok l) has = absurd (no_kind fails l has)
    go fails (Err other) also = ap (λ (m : TypeFault). Err m) (one_first also fault fails)
