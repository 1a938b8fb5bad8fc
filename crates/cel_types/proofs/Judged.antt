-- What the checker computes at a node whose parts have kinds is the node's kind or fault.
use Rattle.std.proofs.Common.{◌≡◌, Bool, true, false, not, cond, List, Option, Some, None, Result, Err, MatchResult, refl, sym, ap, ◌∙◌, subst}
use Rattle.cel_tree.specs.declared.tree.Expr.{Expr, out-Expr}
use Rattle.cel_tree.specs.Tree.{span_of}
use Rattle.cel_types.specs.declared.checking.TypeFault.{TypeFault}
use Rattle.cel_types.specs.declared.checking.TypeKind.{TypeKind}
use Rattle.cel_types.specs.declared.checking.TypeKind.TheVariants.{UnknownName, NotHere, NotLiteral, BadTemplate, BadZone, WrongKind}
use Rattle.cel_types.specs.declared.form.Form.{Form}
use Rattle.cel_types.specs.declared.kind.Kind.{Kind}
use Rattle.cel_types.specs.Sight.{Sight}
use Rattle.cel_types.specs.Arguments.{arguments_of, has_literals, has_template, has_zone}
use Rattle.cel_types.specs.Forms.{form_of}
use Rattle.cel_types.specs.HasKind as rule
use Rattle.cel_types.specs.HasKind.{HasKind, HaveKinds, KindFrom, Fits, FirstFault, children, fault_of, fault_in}
use Rattle.cel_types.specs.Nodes.{form_kind, kind_or_fault, node_kind}
use Rattle.cel_types.specs.Places.{stands_in}
use Rattle.cel_types.specs.Rows.{kind_from}
use Rattle.cel_types.proofs.OneKind.{all_plain, same_some, same_kinds}
use Rattle.cel_types.proofs.KindFrom.{computed, given}

-- a fault at the first byte of a node
abbrev pub at : Expr → TypeKind → TypeFault
at e t = record { offset = (span_of e).from; kind = t }

-- the answer at a node
abbrev pub Answers : Sight → Expr → Result Kind TypeKind → Type 0
Answers sight e r = MatchResult r (λ k. HasKind sight e k) (λ t. FirstFault sight e (at e t))

never_true : {X : Type 0} {b : Bool} → b ≡ false → b ≡ true → X
never_true e h = absurd (let P : ⊥ = cc in P)

-- the first test that fails
abbrev pick : Bool → Bool → Bool → Bool → TypeKind
pick a b c d =
    cond (not a) NotHere (cond (not b) NotLiteral (cond (not c) BadTemplate (cond (not d) BadZone WrongKind)))

pick_same : {a b c d a' b' c' d' : Bool} → a ≡ a' → b ≡ b' → c ≡ c' → d ≡ d' → pick a b c d ≡ pick a' b' c' d'
pick_same {a} {b} {c} {d} {a'} {b'} {c'} {d'} p q r s =
    ap (λ z. pick z b c d) p ∙ ap (λ z. pick a' z c d) q ∙ ap (λ z. pick a' b' z d) r ∙ ap (λ z. pick a' b' c' z) s

-- a node with no kind, and its fault
faulty : (sight : Sight) (e : Expr) (ks : List Kind) (t : TypeKind) → HaveKinds sight (children e) ks → fault_of sight e ≡ t
    → ((k : Kind) → ¬ HasKind sight e k) → FirstFault sight e (at e t)
faulty sight e ks t have same none = subst (λ z. FirstFault sight e (at e z)) same (rule.here (all_plain (out-Expr e)) have none)

not_unknown : {sight : Sight} {e : Expr} {k : Kind} → HasKind sight e k → form_of (out-Expr e) ≡ None → ⊥
not_unknown (rule.node plain form fits have from) none = let P : ⊥ = cc in P

-- a node of a form has a kind only where it fits and its parts have the kinds of a row
row_of : {sight : Sight} {e : Expr} {k : Kind} → HasKind sight e k → (ks : List Kind) (f : Form) → HaveKinds sight (children e) ks
    → form_of (out-Expr e) ≡ Some f → Fits sight f (arguments_of (out-Expr e)) × KindFrom f ks k
row_of {sight} {e} {k} (rule.node {f = g} plain form' fits have' from) ks f have form =
    let same : g ≡ f = same_some (sym form' ∙ form) in
    let kinds = same_kinds have' ks have in (
      subst (λ z. Fits sight z (arguments_of (out-Expr e))) same fits,
      subst (λ z. KindFrom z ks k) same (subst (λ z. KindFrom g z k) kinds from),
    )

fault_is : (sight : Sight) (e : Expr) (f : Form) (a b c d : Bool) → form_of (out-Expr e) ≡ Some f
    → stands_in sight.place f ≡ a → has_literals f (arguments_of (out-Expr e)) ≡ b
    → has_template f (arguments_of (out-Expr e)) ≡ c → has_zone f (arguments_of (out-Expr e)) ≡ d
    → fault_of sight e ≡ pick a b c d
fault_is sight e f a b c d form p q r s =
    ap (λ z. fault_in z sight (arguments_of (out-Expr e))) form ∙ pick_same p q r s

last : (sight : Sight) (e : Expr) (ks : List Kind) (f : Form) (o : Option Kind) → HaveKinds sight (children e) ks
    → form_of (out-Expr e) ≡ Some f → Fits sight f (arguments_of (out-Expr e)) → fault_of sight e ≡ WrongKind
    → kind_from f ks ≡ o → Answers sight e (kind_or_fault o)
last sight e ks f (Some k) have form fits fault is = rule.node (all_plain (out-Expr e)) form fits have (given f ks k is)
last sight e ks f None have form fits fault is =
    faulty sight e ks WrongKind have fault
    (λ k d. let row = computed (row_of d ks f have form).1 in let P : ⊥ = cc (sym row ∙ is) in P)

decide : (sight : Sight) (e : Expr) (ks : List Kind) (f : Form) (a b c d : Bool) → HaveKinds sight (children e) ks
    → form_of (out-Expr e) ≡ Some f
    → stands_in sight.place f ≡ a → has_literals f (arguments_of (out-Expr e)) ≡ b
    → has_template f (arguments_of (out-Expr e)) ≡ c → has_zone f (arguments_of (out-Expr e)) ≡ d
    → Answers sight e (cond (not a) (Err NotHere) (cond (not b) (Err NotLiteral) (cond (not c) (Err BadTemplate)
    (cond (not d) (Err BadZone) (kind_or_fault (kind_from f ks))))))
decide sight e ks f false b c d have form p q r s =
    faulty sight e ks NotHere have (fault_is sight e f false b c d form p q r s)
    (λ k h. never_true p (row_of h ks f have form).0.here)
decide sight e ks f true false c d have form p q r s =
    faulty sight e ks NotLiteral have (fault_is sight e f true false c d form p q r s)
    (λ k h. never_true q (row_of h ks f have form).0.literals)
decide sight e ks f true true false d have form p q r s =
    faulty sight e ks BadTemplate have (fault_is sight e f true true false d form p q r s)
    (λ k h. never_true r (row_of h ks f have form).0.template)
decide sight e ks f true true true false have form p q r s =
    faulty sight e ks BadZone have (fault_is sight e f true true true false form p q r s)
    (λ k h. never_true s (row_of h ks f have form).0.zone)
decide sight e ks f true true true true have form p q r s =
    last sight e ks f (kind_from f ks) have form (record { here = p; literals = q; template = r; zone = s })
    (fault_is sight e f true true true true form p q r s) refl

judged_form : (sight : Sight) (e : Expr) (ks : List Kind) (o : Option Form) → HaveKinds sight (children e) ks
    → form_of (out-Expr e) ≡ o → Answers sight e (form_kind o sight (arguments_of (out-Expr e)) ks)
judged_form sight e ks None have form =
    faulty sight e ks UnknownName have (ap (λ z. fault_in z sight (arguments_of (out-Expr e))) form) (λ k d. not_unknown d form)
judged_form sight e ks (Some f) have form =
    decide sight e ks f (stands_in sight.place f) (has_literals f (arguments_of (out-Expr e))) (has_template f (arguments_of (out-Expr e)))
    (has_zone f (arguments_of (out-Expr e))) have form refl refl refl refl

-- what is computed at a node whose parts have kinds
pub judged : (sight : Sight) (e : Expr) (ks : List Kind) → HaveKinds sight (children e) ks
    → Answers sight e (node_kind sight (out-Expr e) ks)
judged sight e ks have = judged_form sight e ks (form_of (out-Expr e)) have refl
