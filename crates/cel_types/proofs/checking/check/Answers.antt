use Rattle.std.proofs.Common.{◌≡◌, ◌≢◌, true, false, cond, Bool, Ok, Err, sym, ap, ◌∙◌}
use Rattle.cel_tree.specs.declared.tree.Expr.{Expr}
use Rattle.cel_types.specs.declared.checking.TypeFault.{TypeFault}
use Rattle.cel_types.specs.declared.checking.TypeKind.TheVariants.{NotBool}
use Rattle.cel_types.specs.declared.kind.Kind.{Kind}
use Rattle.cel_types.specs.declared.kind.Place.{Place}
use Rattle.cel_types.specs.HasKind as rule
use Rattle.cel_types.specs.HasKind.{FirstFault, HasKind}
use Rattle.cel_types.specs.KindOf.{checked, condition_or_fault, fault_at}
use Rattle.cel_types.specs.Kinds.{is_kind, truth}
use Rattle.cel_types.proofs.KindOf.{fault_iff, kind_iff}
use Rattle.cel_types.proofs.OneKind.{one_kind, no_kind}
use Rattle.cel_types.specs.Sight.{sight_of}
use Rattle.cel_types.proofs.checking.check.Goals as goal

-- the test says that the kind is another one
differs : (k : Kind) → is_kind k truth ≡ false → k ≢ truth
differs k other e = let same = ap (λ (z : Kind). is_kind z truth) e in let P : ⊥ = cc (other, same) in P

-- what is answered of a tree that has a kind, by the test of the kind, and of one that has a fault
kinded : (place : Place) (e : Expr) (k : Kind) (b : Bool) → HasKind (sight_of place) e k → is_kind k truth ≡ b
    → checked place e ≡ cond b (Ok (record { expr = e; place = place })) (Err (fault_at e NotBool))
kinded place e k b has is =
    ap (condition_or_fault place e) ((kind_iff (sight_of place) e k).1 has)
    ∙ ap (λ (z : Bool). cond z (Ok (record { expr = e; place = place })) (Err (fault_at e NotBool))) is

faulted : (place : Place) (e : Expr) (fault : TypeFault) → FirstFault (sight_of place) e fault → checked place e ≡ Err fault
faulted place e fault fails = ap (condition_or_fault place e) ((fault_iff (sight_of place) e fault).1 fails)

pub returns-in-Ok-clause-exact : goal.returns-in-Ok-clause-exact
returns-in-Ok-clause-exact c =
    (λ e. cc, λ h. absurd (differs _ (sym c.is_kind.ensures ∙ c.if-is_kind.false) (one_kind c.in-Ok.ensures _ h)))

pub returns-in-Ok-clause-fault : goal.returns-in-Ok-clause-fault
returns-in-Ok-clause-fault c =
    rw c.span.ensures (rule.not_bool c.in-Ok.ensures (differs _ (sym c.is_kind.ensures ∙ c.if-is_kind.false)))

pub returns-clause-exact : goal.returns-clause-exact
returns-clause-exact c = (λ e. cc, λ h. absurd (no_kind c.in-Err.ensures _ h))

pub returns-clause-fault : goal.returns-clause-fault
returns-clause-fault c = rule.first c.in-Err.ensures

pub returns-then-is_kind-clause-value : goal.returns-then-is_kind-clause-value
returns-then-is_kind-clause-value c = sym (kinded _ _ _ true c.in-Ok.ensures (sym c.is_kind.ensures ∙ c.if-is_kind.true))

pub returns-in-Ok-clause-value : goal.returns-in-Ok-clause-value
returns-in-Ok-clause-value c =
    rw c.span.ensures (sym (kinded _ _ _ false c.in-Ok.ensures (sym c.is_kind.ensures ∙ c.if-is_kind.false)))

pub returns-clause-value : goal.returns-clause-value
returns-clause-value c = sym (faulted _ _ _ c.in-Err.ensures)
