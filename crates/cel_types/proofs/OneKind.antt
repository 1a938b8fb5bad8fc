-- A tree has at most one kind in a place, and a tree with a fault has none.
use Rattle.std.proofs.Common.{◌≡◌, true, List, ◌∷◌, Some, refl, sym, ap, ◌∙◌}
use Rattle.cel_tree.specs.declared.tree.Expr.{Expr}
use Rattle.cel_tree.specs.declared.tree.Expr.TheOpen.{Expr-F}
use Rattle.cel_types.specs.declared.checking.TypeFault.{TypeFault}
use Rattle.cel_types.specs.declared.form.Form.{Form}
use Rattle.cel_types.specs.declared.kind.Kind.{Kind}
use Rattle.cel_types.specs.Sight.{Sight}
use Rattle.cel_types.specs.HasKind as rule
use Rattle.cel_types.specs.HasKind.{HasKind, HaveKinds, KindFrom, FirstFault, FirstFaultAmong, IsFaultOf, children, is_plain}
use Rattle.cel_types.specs.Kinds.{truth}
use Rattle.cel_types.specs.Rows.{kind_from}
use Rattle.cel_types.proofs.KindFrom.{computed}

pub same_some : {A : Type 0} {a b : A} → Some a ≡ Some b → a ≡ b
same_some e = cc

-- each node is a plain one by now
pub all_plain : (x : Expr-F Expr) → is_plain x ≡ true
all_plain (Expr-F.Bool span value) = refl
all_plain (Expr-F.Int span number) = refl
all_plain (Expr-F.Str span text) = refl
all_plain (Expr-F.Name span name) = refl
all_plain (Expr-F.Select span base field) = refl
all_plain (Expr-F.Call span name arguments) = refl
all_plain (Expr-F.Method span base name arguments) = refl
all_plain (Expr-F.Many span items) = refl
all_plain (Expr-F.Not span operand) = refl
all_plain (Expr-F.Neg span operand) = refl
all_plain (Expr-F.Two span op left right) = refl
all_plain (Expr-F.Pick span condition picked other) = refl

-- one form and the same kinds of parts have one kind
one_row : {f g : Form} {ks ls : List Kind} {k l : Kind} → f ≡ g → ks ≡ ls → KindFrom f ks k → KindFrom g ls l → k ≡ l
one_row {f} {g} {ks} {ls} fg kl r s =
    same_some (sym (computed r) ∙ ap (λ z. kind_from z ks) fg ∙ ap (λ z. kind_from g z) kl ∙ computed s)

pair_up : {k l : Kind} {ks ls : List Kind} → k ≡ l → ks ≡ ls → k ∷ ks ≡ l ∷ ls
pair_up {k} {l} {ks} {ls} e h = ap (λ z. z ∷ ks) e ∙ ap (λ z. l ∷ z) h

mutual
  pub one_kind : {sight : Sight} {e : Expr} {k : Kind} → HasKind sight e k → (l : Kind) → HasKind sight e l → k ≡ l
  one_kind (rule.node plain form fits have from) l (rule.node plain' form' fits' have' from') =
      one_row (same_some (sym form ∙ form')) (same_kinds have _ have') from from'

  pub same_kinds : {sight : Sight} {es : List Expr} {ks : List Kind} → HaveKinds sight es ks → (ls : List Kind) → HaveKinds sight es ls → ks ≡ ls
  same_kinds rule.none ls rule.none = refl
  same_kinds (rule.more d r) ls (rule.more d' r') = pair_up (one_kind d _ d') (same_kinds r _ r')

-- the kinds of the parts of a tree that has a kind
pub kinds_of_parts : {sight : Sight} {e : Expr} {k : Kind} → HasKind sight e k → (ks : List Kind) × HaveKinds sight (children e) ks
kinds_of_parts (rule.node plain form fits have from) = (_, have)

pub first_of_more : {sight : Sight} {e : Expr} {es : List Expr} {ks : List Kind} → HaveKinds sight (e ∷ es) ks
    → ((k : Kind) × HasKind sight e k) × ((ls : List Kind) × HaveKinds sight es ls)
first_of_more (rule.more d r) = ((_, d), (_, r))

mutual
  pub no_kind : {sight : Sight} {e : Expr} {fault : TypeFault} → FirstFault sight e fault → (k : Kind) → ¬ HasKind sight e k
  no_kind (rule.inside plain among) k d = let h = kinds_of_parts d in no_kinds among h.0 h.1
  no_kind (rule.here plain have none) k d = none k d

  pub no_kinds : {sight : Sight} {es : List Expr} {fault : TypeFault} → FirstFaultAmong sight es fault → (ks : List Kind) → ¬ HaveKinds sight es ks
  no_kinds (rule.first fault) ks have = let h = first_of_more have in no_kind fault h.0.0 h.0.1
  no_kinds (rule.later d among) ks have = let h = first_of_more have in no_kinds among h.1.0 h.1.1

mutual
  pub one_first : {sight : Sight} {e : Expr} {fault : TypeFault} → FirstFault sight e fault → (other : TypeFault) → FirstFault sight e other → fault ≡ other
  one_first (rule.inside plain among) other (rule.inside plain' among') = one_among among other among'
  one_first (rule.inside plain among) other (rule.here plain' have none) = absurd (no_kinds among _ have)
  one_first (rule.here plain have none) other (rule.inside plain' among) = absurd (no_kinds among _ have)
  one_first (rule.here plain have none) other (rule.here plain' have' none') = refl

  one_among : {sight : Sight} {es : List Expr} {fault : TypeFault} → FirstFaultAmong sight es fault → (other : TypeFault)
      → FirstFaultAmong sight es other → fault ≡ other
  one_among (rule.first fault) other (rule.first fault') = one_first fault other fault'
  one_among (rule.first fault) other (rule.later d among) = absurd (no_kind fault _ d)
  one_among (rule.later d among) other (rule.first fault) = absurd (no_kind fault _ d)
  one_among (rule.later d among) other (rule.later d' among') = one_among among other among'

pub one_fault : {sight : Sight} {e : Expr} {fault : TypeFault} → IsFaultOf sight e fault → (other : TypeFault) → IsFaultOf sight e other → fault ≡ other
one_fault (rule.first fault) other (rule.first fault') = one_first fault other fault'
one_fault (rule.first fault) other (rule.not_bool d another) = absurd (no_kind fault _ d)
one_fault (rule.not_bool d another) other (rule.first fault) = absurd (no_kind fault _ d)
one_fault (rule.not_bool d another) other (rule.not_bool d' another') = refl

pub no_fault : {sight : Sight} {e : Expr} {fault : TypeFault} → IsFaultOf sight e fault → HasKind sight e truth → ⊥
no_fault (rule.first fault) h = no_kind fault _ h
no_fault (rule.not_bool d another) h = another (one_kind d _ h)
