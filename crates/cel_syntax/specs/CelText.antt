-- The texts of expressions, their trees and their faults.
use Rattle.std.specs.Prelude.{◌≡◌, ◌≤◌, ◌<◌, ℕ, List, length, Result, Ok, Err}
use Rattle.cel_tree.specs.declared.tree.Expr.{Expr}
use Rattle.cel_tree.specs.declared.token.Token.{Token}
use Rattle.cel_lexer.specs.declared.stop.CutFault.TheVariants as cut
use Rattle.cel_lexer.specs.Cut.{CutInto}
use Rattle.cel_grammar.specs.Depth.{deepest}
use Rattle.cel_grammar.specs.Grammar.{IsExpr}
use Rattle.cel_syntax.specs.declared.fault.SyntaxFault.{SyntaxFault}
use Rattle.cel_syntax.specs.declared.fault.SyntaxKind.{SyntaxKind}
use Rattle.cel_syntax.specs.declared.fault.SyntaxKind.TheVariants.{TooLong, BadToken, ReservedWord, TooManyTokens, TooDeep, NotAnExpression}
use Rattle.cel_syntax.specs.declared.fault.ReadStop.{ReadStop}
use Rattle.cel_syntax.specs.declared.fault.ReadStop.TheVariants.{Syntax, OutOfMemory}

-- the most bytes of a text, the most tokens, and the most brackets that are open at once
abbrev pub most_bytes : ℕ
most_bytes = 2048

abbrev pub most_tokens : ℕ
most_tokens = 512

abbrev pub most_open : ℕ
most_open = 24

-- The text, cut into the longest tokens, is derived from an expression, and a is the tree of that derivation. The limits hold.
pub record CelText (text : List ℕ) (a : Expr) : Type 0 where
  pub tokens : List Token
  pub short : length text ≤ most_bytes
  pub cut : CutInto text (Ok tokens)
  pub few : length tokens ≤ most_tokens
  pub shallow : deepest 0 tokens ≤ most_open
  pub derived : IsExpr tokens a

abbrev pub at : ℕ → SyntaxKind → SyntaxFault
at offset kind = record { offset = offset; kind = kind }

-- the first fault of the text, where each kind is looked for before those below it
pub data Faults : List ℕ → SyntaxFault → Type 0 where
  too_long : {text : List ℕ} → most_bytes < length text → Faults text (at 0 TooLong)
  bad_token : {text : List ℕ} {offset : ℕ} → length text ≤ most_bytes → CutInto text (Err (cut.BadToken offset)) → Faults text (at offset BadToken)
  reserved_word : {text : List ℕ} {offset : ℕ} → length text ≤ most_bytes → CutInto text (Err (cut.ReservedWord offset))
      → Faults text (at offset ReservedWord)
  too_many_tokens : {text : List ℕ} {tokens : List Token} → length text ≤ most_bytes → CutInto text (Ok tokens) → most_tokens < length tokens
      → Faults text (at 0 TooManyTokens)
  too_deep : {text : List ℕ} {tokens : List Token} → length text ≤ most_bytes → CutInto text (Ok tokens) → length tokens ≤ most_tokens
      → most_open < deepest 0 tokens → Faults text (at 0 TooDeep)
  not_an_expression : {text : List ℕ} {tokens : List Token} → length text ≤ most_bytes → CutInto text (Ok tokens) → length tokens ≤ most_tokens
      → deepest 0 tokens ≤ most_open → ((a : Expr) → IsExpr tokens a → ⊥) → Faults text (at 0 NotAnExpression)

-- the answer is the text's tree or its fault; want of memory is free
abbrev pub Answers : List ℕ → Result Expr ReadStop → Type 0
Answers text (Ok a) = CelText text a
Answers text (Err (Syntax fault)) = Faults text fault
Answers text (Err OutOfMemory) = Unit {0}

-- where a is the text's tree it is given, unless memory runs out
abbrev pub Gives : Expr → Result Expr ReadStop → Type 0
Gives a (Ok b) = b ≡ a
Gives a (Err (Syntax fault)) = ⊥
Gives a (Err OutOfMemory) = Unit {0}
