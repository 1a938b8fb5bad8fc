-- A line has one answer.
use Rattle.std.proofs.Common.{◌≡◌, ℕ, Bool, List, ◌∷◌, Some, None, codes, refl, sym, ap, ◌∙◌, subst}
use Rattle.std.specs.Str.{IsUtf8}
use Rattle.std.specs.Str.Lossy.{utf8_valid_len}
use Rattle.cel_tree.specs.declared.tree.Expr.{Expr}
use Rattle.cel_syntax.specs.declared.fault.SyntaxFault.{SyntaxFault}
use Rattle.cel_syntax.specs.CelText.{CelText, Faults}
use Rattle.cel_meaning.specs.Results.{at}
use Rattle.cel_types.specs.declared.checking.TypeFault.{TypeFault}
use Rattle.cel_types.specs.declared.kind.Place.{Place}
use Rattle.cel_types.specs.declared.kind.Place.TheVariants.{Allow}
use Rattle.cel_value.specs.declared.context.Context.{Context}
use Rattle.cel_value.specs.declared.value.EvalFault.{EvalFault}
use Rattle.cel_value.specs.declared.value.Outcome.{Outcome}
use Rattle.cel_value.specs.declared.value.Outcome.TheVariants.{Given, Stopped}
use Rattle.cel_value.specs.declared.value.Value.{Value, out-Value}
use Rattle.cel_value.specs.declared.value.Value.TheVariants as value
use Rattle.cel_value.specs.declared.value.Value.TheVariants.{outs-Bool}
use Rattle.cel_types.specs.HasKind.{IsFaultOf, HasKind}
use Rattle.cel_types.specs.Laws.{AtMostOneFault, AtMostOneOutcome, ConditionsHaveNoFault}
use Rattle.cel_types.specs.Means.{Means}
use Rattle.cel_types.specs.Kinds.{truth}
use Rattle.cel_answers.specs.declared.task.Task.{Task}
use Rattle.cel_answers.specs.Answers as spec
use Rattle.cel_answers.specs.Answers.{Answer, LineAnswer, tree_line, fault_line}
use Rattle.cel_answers.specs.Escapes as stands
use Rattle.cel_answers.specs.Escapes.{StandsFor, front}
use Rattle.cel_answers.specs.Names.{eval_name_of, name_of, truth_name, type_name_of}
use Rattle.cel_types.specs.Sight.{sight_of}

-- what is known of texts and trees
pub record Laws : Type 0 where
  pub one_tree : (text : List ℕ) (a b : Expr) → CelText text a → CelText text b → a ≡ b
  pub one_fault : (text : List ℕ) (f g : SyntaxFault) → Faults text f → Faults text g → f ≡ g
  pub not_both : (text : List ℕ) (a : Expr) (f : SyntaxFault) → CelText text a → Faults text f → ⊥
  pub one_type_fault : AtMostOneFault
  pub no_fault : ConditionsHaveNoFault
  pub one_outcome : AtMostOneOutcome

one_meaning : {line bytes : List ℕ} → StandsFor line bytes → (other : List ℕ) → StandsFor line other → bytes ≡ other
one_meaning stands.end other stands.end = refl
one_meaning (stands.more {first = first} {rest = rest} h) other (stands.more {bytes = bytes} k) =
    ap (λ (z : List ℕ). (front first rest).0 ∷ z) (one_meaning h bytes k)

same_place : (p q : Place) → Some p ≡ Some q → p ≡ q
same_place p q e = cc

no_place : {A : Type 0} (p : Place) → None ≡ Some p → A
no_place p e = cc

given_back : (v w : Value) → Given v ≡ Given w → v ≡ w
given_back v w e = cc

fault_back : (f g : EvalFault) → Stopped f ≡ Stopped g → f ≡ g
fault_back f g e = cc

truth_back : (b d : Bool) → value.Bool b ≡ value.Bool d → b ≡ d
truth_back b d e = let f = sym (outs-Bool b) ∙ ap out-Value e ∙ outs-Bool d in cc f

-- the same of another tree of the same text
module _ (laws : Laws) (c : Context) where
  one_outcome : (t : List ℕ) (e e' : Expr) (o p : Outcome) → CelText t e → CelText t e' → Means (at c) e o → Means (at c) e' p → o ≡ p
  one_outcome t e e' o p h k m n = laws.one_outcome (at c) e o p m (subst (λ z. Means (at c) z p) (laws.one_tree t e' e k h) n)

  no_condition : {A : Type 0} (t : List ℕ) (p q : Place) (e e' : Expr) (f : TypeFault) → p ≡ q → CelText t e → CelText t e' → HasKind (sight_of p) e truth → IsFaultOf (sight_of q) e' f → A
  no_condition t p q e e' f is h k has fails =
      absurd (laws.no_fault (sight_of p) e f has (subst (λ z. IsFaultOf (sight_of z) e f) (sym is) (subst (λ z. IsFaultOf (sight_of q) z f) (laws.one_tree t e' e k h) fails)))

  one_type_fault : (t : List ℕ) (p q : Place) (e e' : Expr) (f g : TypeFault) → p ≡ q → CelText t e → CelText t e' → IsFaultOf (sight_of p) e f → IsFaultOf (sight_of q) e' g
      → fault_line (type_name_of f.kind) f.offset ≡ fault_line (type_name_of g.kind) g.offset
  one_type_fault t p q e e' f g is h k fails also =
      ap (λ (z : TypeFault). fault_line (type_name_of z.kind) z.offset)
      (laws.one_type_fault (sight_of p) e f g fails (subst (λ z. IsFaultOf (sight_of z) e g) (sym is) (subst (λ z. IsFaultOf (sight_of q) z g) (laws.one_tree t e' e k h) also)))

one_answer : Laws → {c : Context} {task : Task} {text answer : List ℕ} → Answer c task text answer → (other : List ℕ) → Answer c task text other → answer ≡ other
one_answer laws (spec.tree {text = t} {e = e} h) other (spec.tree {e = e'} k) = ap tree_line (laws.one_tree t e e' h k)
one_answer laws (spec.tree h) other (spec.type_fault {place = p} is k f) = no_place p is
one_answer laws (spec.tree {text = t} {e = e} h) other (spec.fault {fault = f} k) = absurd (laws.not_both t e f h k)
one_answer laws (spec.condition {text = t} {e = e} h has) other (spec.condition {e = e'} k also) = ap tree_line (laws.one_tree t e e' h k)
one_answer laws {c} (spec.condition {place = p} {text = t} {e = e} h has) other (spec.type_fault {place = q} {e = e'} {fault = f} is k fails) =
    no_condition laws c t p q e e' f (same_place p q is) h k has fails
one_answer laws (spec.condition {text = t} {e = e} h has) other (spec.fault {fault = f} k) = absurd (laws.not_both t e f h k)
one_answer laws {c} (spec.truth {text = t} {e = e} {b = b} h has m) other (spec.truth {e = e'} {b = d} k also n) =
    ap truth_name (truth_back b d (given_back (value.Bool b) (value.Bool d) (one_outcome laws c t e e' _ _ h k m n)))
one_answer laws {c} (spec.truth {text = t} {e = e} {b = b} h has m) other (spec.stopped {e = e'} {fault = f} k also n) =
    let is : Given (value.Bool b) ≡ Stopped f = one_outcome laws c t e e' _ _ h k m n in cc
one_answer laws {c} (spec.truth {text = t} {e = e} h has m) other (spec.type_fault {place = q} {e = e'} {fault = f} is k fails) =
    no_condition laws c t Allow q e e' f (same_place Allow q is) h k has fails
one_answer laws (spec.truth {text = t} {e = e} h has m) other (spec.fault {fault = f} k) = absurd (laws.not_both t e f h k)
one_answer laws {c} (spec.stopped {text = t} {e = e} {fault = f} h has m) other (spec.truth {e = e'} {b = b} k also n) =
    let is : Stopped f ≡ Given (value.Bool b) = one_outcome laws c t e e' _ _ h k m n in cc
one_answer laws {c} (spec.stopped {text = t} {e = e} {fault = f} h has m) other (spec.stopped {e = e'} {fault = g} k also n) =
    ap eval_name_of (fault_back f g (one_outcome laws c t e e' _ _ h k m n))
one_answer laws {c} (spec.stopped {text = t} {e = e} h has m) other (spec.type_fault {place = q} {e = e'} {fault = f} is k fails) =
    no_condition laws c t Allow q e e' f (same_place Allow q is) h k has fails
one_answer laws (spec.stopped {text = t} {e = e} h has m) other (spec.fault {fault = f} k) = absurd (laws.not_both t e f h k)
one_answer laws (spec.type_fault {place = p} is h fails) other (spec.tree k) = no_place p is
one_answer laws {c} (spec.type_fault {place = q} {text = t} {e = e} {fault = f} is h fails) other (spec.condition {place = p} {e = e'} k has) =
    no_condition laws c t p q e' e f (same_place p q is) k h has fails
one_answer laws {c} (spec.type_fault {place = q} {text = t} {e = e} {fault = f} is h fails) other (spec.truth {e = e'} k has n) =
    no_condition laws c t Allow q e' e f (same_place Allow q is) k h has fails
one_answer laws {c} (spec.type_fault {place = q} {text = t} {e = e} {fault = f} is h fails) other (spec.stopped {e = e'} k has n) =
    no_condition laws c t Allow q e' e f (same_place Allow q is) k h has fails
one_answer laws {c} (spec.type_fault {place = p} {text = t} {e = e} {fault = f} is h fails) other (spec.type_fault {place = q} {e = e'} {fault = g} also k fails') =
    one_type_fault laws c t p q e e' f g (same_place p q (sym is ∙ also)) h k fails fails'
one_answer laws (spec.type_fault {text = t} {e = e} is h fails) other (spec.fault {fault = f} k) = absurd (laws.not_both t e f h k)
one_answer laws (spec.fault {text = t} {fault = f} h) other (spec.tree {e = e} k) = absurd (laws.not_both t e f k h)
one_answer laws (spec.fault {text = t} {fault = f} h) other (spec.condition {e = e} k has) = absurd (laws.not_both t e f k h)
one_answer laws (spec.fault {text = t} {fault = f} h) other (spec.truth {e = e} k has n) = absurd (laws.not_both t e f k h)
one_answer laws (spec.fault {text = t} {fault = f} h) other (spec.stopped {e = e} k has n) = absurd (laws.not_both t e f k h)
one_answer laws (spec.fault {text = t} {fault = f} h) other (spec.type_fault {e = e} is k fails) = absurd (laws.not_both t e f k h)
one_answer laws (spec.fault {text = t} {fault = f} h) other (spec.fault {fault = g} k) =
    ap (λ (z : SyntaxFault). fault_line (name_of z.kind) z.offset) (laws.one_fault t f g h k)

pub one_line_answer : Laws → {c : Context} {task : Task} {line answer : List ℕ} → LineAnswer c task line answer → (other : List ℕ) → LineAnswer c task line other → answer ≡ other
one_line_answer laws {c} (spec.text {task = p} {bytes = z} s u h) other (spec.text {bytes = y} s' u' k) =
    one_answer laws h other (subst (λ (x : List ℕ). Answer c p x other) (sym (one_meaning s y s')) k)
one_line_answer laws (spec.text s u h) other (spec.no_text {bytes = y} s' n) = absurd (n (subst IsUtf8 (one_meaning s y s') u))
one_line_answer laws (spec.no_text s n) other (spec.text {bytes = y} s' u k) = absurd (n (subst IsUtf8 (sym (one_meaning s y s')) u))
one_line_answer laws (spec.no_text s n) other (spec.no_text {bytes = y} s' n') =
    ap (λ (x : List ℕ). fault_line (codes "NOT_UTF8") (utf8_valid_len x)) (one_meaning s y s')
