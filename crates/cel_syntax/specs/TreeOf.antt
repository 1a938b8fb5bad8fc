-- The tree of a text or its first fault, as it is computed.
use Rattle.std.specs.Prelude.{◌≡◌, ℕ, nat_lt, if◌then◌else◌, List, length, Option, Some, None, Result, Ok, Err}
use Rattle.cel_tree.specs.declared.tree.Expr.{Expr}
use Rattle.cel_tree.specs.declared.token.Token.{Token}
use Rattle.cel_lexer.specs.declared.stop.CutFault.{CutFault}
use Rattle.cel_lexer.specs.Tokens.{cut_of}
use Rattle.cel_grammar.specs.Depth.{deepest}
use Rattle.cel_grammar.specs.Reader.{tree_in}
use Rattle.cel_syntax.specs.declared.fault.SyntaxFault.{SyntaxFault}
use Rattle.cel_syntax.specs.declared.fault.SyntaxKind.TheVariants.{TooLong, TooManyTokens, TooDeep, NotAnExpression}
use Rattle.cel_syntax.specs.declared.fault.ReadStop.{ReadStop}
use Rattle.cel_syntax.specs.declared.fault.ReadStop.TheVariants.{Syntax, OutOfMemory}
use Rattle.cel_syntax.specs.CelText.{most_bytes, most_tokens, most_open, at}
use Rattle.cel_syntax.specs.Stops.{cut_fault}

abbrev pub tree_or_fault : Option Expr → Result Expr SyntaxFault
tree_or_fault (Some e) = Ok e
tree_or_fault None = Err (at 0 NotAnExpression)

abbrev pub tree_of_tokens : List Token → Result Expr SyntaxFault
tree_of_tokens tokens =
    if nat_lt most_tokens (length tokens) then Err (at 0 TooManyTokens)
    else (if nat_lt most_open (deepest 0 tokens) then Err (at 0 TooDeep) else tree_or_fault (tree_in tokens))

abbrev pub tree_of_cut : Result (List Token) CutFault → Result Expr SyntaxFault
tree_of_cut (Ok tokens) = tree_of_tokens tokens
tree_of_cut (Err fault) = Err (cut_fault fault)

-- the tree of a text, or its first fault
unfoldable pub tree_of : List ℕ → Result Expr SyntaxFault
tree_of text = if nat_lt most_bytes (length text) then Err (at 0 TooLong) else tree_of_cut (cut_of text)

-- the reader gives what is computed; want of memory is free
abbrev pub Reads : Result Expr SyntaxFault → Result Expr ReadStop → Type 0
Reads tree (Ok e) = tree ≡ Ok e
Reads tree (Err (Syntax fault)) = tree ≡ Err fault
Reads tree (Err OutOfMemory) = Unit {0}
