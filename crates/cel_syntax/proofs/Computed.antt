-- What is computed from a text is its tree or its first fault, and there is no other.
use Rattle.std.proofs.Common.{◌≡◌, ℕ, suc, ◌<◌, ◌≤◌, nat_lt, Bool, true, false, cond, List, length, Option, Some, None, Result, Ok, Err, refl, sym, ap, ◌∙◌, subst, arith}
use Rattle.std.proofs.lemmas.Bool.{lt-ltb, le-ltb, ltb-true, leb-false}
use Rattle.cel_tree.specs.declared.tree.Expr.{Expr}
use Rattle.cel_tree.specs.declared.token.Token.{Token}
use Rattle.cel_lexer.specs.declared.stop.CutFault.{CutFault}
use Rattle.cel_lexer.specs.declared.stop.CutFault.TheVariants as cut
use Rattle.cel_lexer.specs.Cut.{CutInto}
use Rattle.cel_lexer.specs.Tokens.{cut_of}
use Rattle.cel_lexer.proofs.Only.{is_cut, cut_is_of}
use Rattle.cel_grammar.specs.Depth.{deepest}
use Rattle.cel_grammar.specs.Grammar.{IsExpr}
use Rattle.cel_grammar.specs.Reader.{tree_in}
use Rattle.cel_grammar.proofs.Whole.{is_tree, tree_is}
use Rattle.cel_syntax.specs.declared.fault.SyntaxFault.{SyntaxFault}
use Rattle.cel_syntax.specs.declared.fault.SyntaxKind.TheVariants.{TooLong, TooManyTokens, TooDeep, NotAnExpression}
use Rattle.cel_syntax.specs.declared.fault.ReadStop.{ReadStop}
use Rattle.cel_syntax.specs.declared.fault.ReadStop.TheVariants.{Syntax, OutOfMemory}
use Rattle.cel_syntax.specs.CelText as spec
use Rattle.cel_syntax.specs.CelText.{CelText, Faults, Answers, Gives, most_bytes, most_tokens, most_open, at}
use Rattle.cel_syntax.specs.Stops.{cut_fault}
use Rattle.cel_syntax.specs.TreeOf.{tree_or_fault, tree_of_tokens, tree_of_cut, tree_of, Reads}

abbrev IsAnswer : List ℕ → Result Expr SyntaxFault → Type 0
IsAnswer text (Ok a) = CelText text a
IsAnswer text (Err fault) = Faults text fault

no_more : (a b : ℕ) → nat_lt a b ≡ false → b ≤ a
no_more a b e = let h = leb-false (suc a) b e in omega (arith, h)

no_some : {x : Option Expr} {a : Expr} → x ≡ None → x ≡ Some a → ⊥
no_some e f = cc

module _ (text : List ℕ) where
  -- what is computed is an answer
  derived : (tokens : List Token) → length text ≤ most_bytes → CutInto text (Ok tokens) → length tokens ≤ most_tokens → deepest 0 tokens ≤ most_open
      → (o : Option Expr) → tree_in tokens ≡ o → IsAnswer text (tree_or_fault o)
  derived tokens s c f d (Some a) e = record { tokens = tokens; short = s; cut = c; few = f; shallow = d; derived = is_tree tokens a e }
  derived tokens s c f d None e = spec.not_an_expression s c f d (λ a h. no_some e (tree_is tokens a h))

  shallow : (tokens : List Token) → length text ≤ most_bytes → CutInto text (Ok tokens) → length tokens ≤ most_tokens
      → (deep : Bool) → nat_lt most_open (deepest 0 tokens) ≡ deep → IsAnswer text (cond deep (Err (at 0 TooDeep)) (tree_or_fault (tree_in tokens)))
  shallow tokens s c f true e = spec.too_deep s c f (ltb-true most_open (deepest 0 tokens) e)
  shallow tokens s c f false e = derived tokens s c f (no_more most_open (deepest 0 tokens) e) (tree_in tokens) refl

  few : (tokens : List Token) → length text ≤ most_bytes → CutInto text (Ok tokens) → (many : Bool) → nat_lt most_tokens (length tokens) ≡ many
      → IsAnswer text (cond many (Err (at 0 TooManyTokens)) (cond (nat_lt most_open (deepest 0 tokens)) (Err (at 0 TooDeep)) (tree_or_fault (tree_in tokens))))
  few tokens s c true e = spec.too_many_tokens s c (ltb-true most_tokens (length tokens) e)
  few tokens s c false e = shallow tokens s c (no_more most_tokens (length tokens) e) (nat_lt most_open (deepest 0 tokens)) refl

  cut_into : (result : Result (List Token) CutFault) → length text ≤ most_bytes → CutInto text result → IsAnswer text (tree_of_cut result)
  cut_into (Ok tokens) s c = few tokens s c (nat_lt most_tokens (length tokens)) refl
  cut_into (Err (cut.BadToken offset)) s c = spec.bad_token s c
  cut_into (Err (cut.ReservedWord offset)) s c = spec.reserved_word s c

  short : (long : Bool) → nat_lt most_bytes (length text) ≡ long → IsAnswer text (cond long (Err (at 0 TooLong)) (tree_of_cut (cut_of text)))
  short true e = spec.too_long (ltb-true most_bytes (length text) e)
  short false e = cut_into (cut_of text) (no_more most_bytes (length text) e) (is_cut text (cut_of text) refl)

  is_answer : IsAnswer text (tree_of text)
  unfolding tree_of
  is_answer = short (nat_lt most_bytes (length text)) refl

  pub is_text : (a : Expr) → tree_of text ≡ Ok a → CelText text a
  is_text a e = subst (IsAnswer text) e is_answer

  pub is_fault : (f : SyntaxFault) → tree_of text ≡ Err f → Faults text f
  is_fault f e = subst (IsAnswer text) e is_answer

  -- and each answer is what is computed
  long_text : most_bytes < length text → tree_of text ≡ Err (at 0 TooLong)
  unfolding tree_of
  long_text l = ap (λ b. cond b (Err (at 0 TooLong)) (tree_of_cut (cut_of text))) (lt-ltb most_bytes (length text) l)

  of_cut : (result : Result (List Token) CutFault) → length text ≤ most_bytes → CutInto text result → tree_of text ≡ tree_of_cut result
  unfolding tree_of
  of_cut result s c =
      ap (λ b. cond b (Err (at 0 TooLong)) (tree_of_cut (cut_of text))) (le-ltb most_bytes (length text) s) ∙ ap tree_of_cut (cut_is_of text result c)

  of_few : (tokens : List Token) → length tokens ≤ most_tokens
      → tree_of_tokens tokens ≡ cond (nat_lt most_open (deepest 0 tokens)) (Err (at 0 TooDeep)) (tree_or_fault (tree_in tokens))
  of_few tokens f =
      ap (λ b. cond b (Err (at 0 TooManyTokens)) (cond (nat_lt most_open (deepest 0 tokens)) (Err (at 0 TooDeep)) (tree_or_fault (tree_in tokens))))
      (le-ltb most_tokens (length tokens) f)

  of_shallow : (tokens : List Token) → length tokens ≤ most_tokens → deepest 0 tokens ≤ most_open → tree_of_tokens tokens ≡ tree_or_fault (tree_in tokens)
  of_shallow tokens f d = of_few tokens f ∙ ap (λ b. cond b (Err (at 0 TooDeep)) (tree_or_fault (tree_in tokens))) (le-ltb most_open (deepest 0 tokens) d)

  no_tree : (tokens : List Token) → ((a : Expr) → IsExpr tokens a → ⊥) → (o : Option Expr) → tree_in tokens ≡ o → tree_or_fault o ≡ Err (at 0 NotAnExpression)
  no_tree tokens n None e = refl
  no_tree tokens n (Some a) e = absurd (n a (is_tree tokens a e))

  pub text_is : (a : Expr) → CelText text a → tree_of text ≡ Ok a
  text_is a c = of_cut (Ok c.tokens) c.short c.cut ∙ of_shallow c.tokens c.few c.shallow ∙ ap tree_or_fault (tree_is c.tokens a c.derived)

  pub fault_is : (f : SyntaxFault) → Faults text f → tree_of text ≡ Err f
  fault_is f (spec.too_long l) = long_text l
  fault_is f (spec.bad_token {offset = n} s c) = of_cut (Err (cut.BadToken n)) s c
  fault_is f (spec.reserved_word {offset = n} s c) = of_cut (Err (cut.ReservedWord n)) s c
  fault_is f (spec.too_many_tokens {tokens = ts} s c m) =
      of_cut (Ok ts) s c
      ∙ ap (λ b. cond b (Err (at 0 TooManyTokens)) (cond (nat_lt most_open (deepest 0 ts)) (Err (at 0 TooDeep)) (tree_or_fault (tree_in ts))))
      (lt-ltb most_tokens (length ts) m)
  fault_is f (spec.too_deep {tokens = ts} s c m d) =
      of_cut (Ok ts) s c ∙ of_few ts m ∙ ap (λ b. cond b (Err (at 0 TooDeep)) (tree_or_fault (tree_in ts))) (lt-ltb most_open (deepest 0 ts) d)
  fault_is f (spec.not_an_expression {tokens = ts} s c m d n) = of_cut (Ok ts) s c ∙ of_shallow ts m d ∙ no_tree ts n (tree_in ts) refl

pub one_tree : (text : List ℕ) (a b : Expr) → CelText text a → CelText text b → a ≡ b
one_tree text a b c d = let e = text_is text a c in let f = text_is text b d in cc

pub one_fault : (text : List ℕ) (f g : SyntaxFault) → Faults text f → Faults text g → f ≡ g
one_fault text f g c d = let e = fault_is text f c in let h = fault_is text g d in cc

pub not_both : (text : List ℕ) (a : Expr) (f : SyntaxFault) → CelText text a → Faults text f → ⊥
not_both text a f c d = let e = text_is text a c in let h = fault_is text f d in cc

-- an answer is what is computed, and keeps no tree back
pub exact : (text : List ℕ) (answer : Result Expr ReadStop) → Answers text answer → Reads (tree_of text) answer
exact text (Ok a) c = text_is text a c
exact text (Err (Syntax f)) d = fault_is text f d
exact text (Err OutOfMemory) d = tt

pub complete : (text : List ℕ) (answer : Result Expr ReadStop) → Answers text answer → (a : Expr) → CelText text a → Gives a answer
complete text (Ok b) c a d = one_tree text b a c d
complete text (Err (Syntax f)) c a d = not_both text a f d c
complete text (Err OutOfMemory) c a d = tt
