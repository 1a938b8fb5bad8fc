-- The steps that the reader's functions are made of.
use Rattle.std.proofs.Common.{◌≡◌, ℕ, List, [], ◌∷◌, Option, Some, None, Bool, true, false, cond, ◌⊎◌, inl, inr, refl, ap, rules}
use denote.Enum.Bare.{same_true, true_same}
use Rattle.cel_tree.specs.declared.token.Sign.{Sign}
use Rattle.cel_tree.specs.declared.token.Sign.TheVariants as sign
use Rattle.cel_tree.specs.contracts.token.Sign.{the_type}
use Rattle.cel_tree.specs.declared.token.Token.{Token}
use Rattle.cel_tree.specs.declared.token.TokenKind.{TokenKind}
use Rattle.cel_tree.specs.declared.token.TokenKind.TheVariants as kind
use Rattle.cel_grammar.specs.Position.{Position, Takes, TakesFirst, sees_number}
use Rattle.cel_grammar.specs.Reader.{Parser, and_then, same_sign, is_sign, sees_in, sees, next_in, next, first_in, first, after, sees_negation, after_negation}

pub some_is : {A : Type 0} {x y : A} → Some x ≡ Some y → x ≡ y
some_is e = cc

pub record Bound {A B : Type 0} (r : Option (A × Position)) (f : A → Parser B) (y : B × Position) : Type 0 where
  pub value : A
  pub at : Position
  pub was : r ≡ Some (value, at)
  pub then : f value at ≡ Some y

pub bind_ok : {A B : Type 0} (r : Option (A × Position)) (f : A → Parser B) (y : B × Position) → and_then r f ≡ Some y → Bound r f y
bind_ok None f y e = cc
bind_ok (Some p) f y e = record { value = p.0; at = p.1; was = refl; then = e }

same_is : (a b : Sign) → same_sign a b ≡ true → a ≡ b
unfolding same_sign
same_is a b e = same_true the_type (search rules) a b e

pub is_same : (a : Sign) → same_sign a a ≡ true
unfolding same_sign
is_same a = true_same the_type a a refl

sign_is : (x : Sign) (k : TokenKind) → is_sign x k ≡ true → k ≡ kind.Sign x
sign_is x (kind.Sign y) e = ap kind.Sign (same_is y x e)
sign_is x (kind.Truth b) e = cc
sign_is x (kind.Number n) e = cc
sign_is x (kind.Str t) e = cc
sign_is x (kind.Name t) e = cc

pub seen_in : (x : Sign) (last : ℕ) (rest : List Token) → sees_in x rest ≡ true → TakesFirst (kind.Sign x) rest (next_in last rest)
seen_in x last [] e = cc
seen_in x last (t ∷ rest) e = (sign_is x t.kind e, refl)

pub seen : (x : Sign) (i : Position) → sees x i ≡ true → Takes (kind.Sign x) i (next i)
seen x i e = record { taken = seen_in x i.last i.rest e }

taken_in : (k : TokenKind) (last : ℕ) (rest : List Token) → first_in rest ≡ Some k → TakesFirst k rest (next_in last rest)
taken_in k last [] e = cc
taken_in k last (t ∷ rest) e = (some_is e, refl)

pub first_taken : (k : TokenKind) (i : Position) → first i ≡ Some k → Takes k i (next i)
first_taken k i e = record { taken = taken_in k i.last i.rest e }

pub branches : {A : Type 0} (b : Bool) (x y : Option A) (z : A) → cond b x y ≡ Some z → ((b ≡ true) × (x ≡ Some z)) ⊎ ((b ≡ false) × (y ≡ Some z))
branches true x y z e = inl (refl, e)
branches false x y z e = inr (refl, e)

-- behind the sign, or without it
pub after_ok : {A : Type 0} (x : Sign) (p q : Parser A) (i : Position) (y : A × Position) → after x p q i ≡ Some y
    → (Takes (kind.Sign x) i (next i) × (p (next i) ≡ Some y)) ⊎ (q i ≡ Some y)
after_ok x p q i y e =
    elim (branches (sees x i) (p (next i)) (q i) y e) [ inl h ↦ inl (seen x i h.0, h.1) | inr h ↦ inr h.1 ]

negation : (b n : Bool) → cond b (cond n false true) false ≡ true → (b ≡ true) × (n ≡ false)
negation true true e = cc
negation true false e = (refl, refl)
negation false n e = cc

-- behind a minus that is no part of a literal, or without it
pub negation_ok : {A : Type 0} (p q : Parser A) (i : Position) (y : A × Position) → after_negation p q i ≡ Some y
    → (Takes (kind.Sign sign.Minus) i (next i) × (sees_number (next i) ≡ false) × (p (next i) ≡ Some y)) ⊎ (q i ≡ Some y)
negation_ok p q i y e =
    elim (branches (sees_negation i) (p (next i)) (q i) y e) [
      | inl h ↦ let n = negation (sees sign.Minus i) (sees_number (next i)) h.0 in inl (seen sign.Minus i n.0, n.1, h.1)
      | inr h ↦ inr h.1
    ]
