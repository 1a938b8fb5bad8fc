-- The stops of the layers below are the faults of the text.
use Rattle.std.proofs.Common.{◌≡◌, ℕ, ◌≤◌, List, length, Ok, Err, sym, subst}
use Rattle.cel_tree.specs.declared.tree.Expr.{Expr}
use Rattle.cel_tree.specs.declared.token.Token.{Token}
use Rattle.cel_lexer.specs.declared.stop.CutFault.TheVariants as cut
use Rattle.cel_lexer.specs.declared.stop.Stop.{Stop as CutStop}
use Rattle.cel_lexer.specs.declared.stop.Stop.TheVariants as cut_stop
use Rattle.cel_lexer.specs.Cut.{CutInto, Cuts}
use Rattle.cel_grammar.specs.declared.stop.Stop.{Stop as GrammarStop}
use Rattle.cel_grammar.specs.declared.stop.Stop.TheVariants as stops
use Rattle.cel_grammar.specs.Depth.{deepest}
use Rattle.cel_grammar.specs.Grammar.{IsExpr}
use Rattle.cel_grammar.specs.Answer as grammar
use Rattle.cel_syntax.specs.declared.fault.SyntaxFault.{SyntaxFault}
use Rattle.cel_syntax.specs.declared.fault.ReadStop.{ReadStop}
use Rattle.cel_syntax.specs.declared.fault.ReadStop.TheVariants.{Syntax}
use Rattle.cel_syntax.specs.Stops.{of_cut, of_grammar}
use Rattle.cel_syntax.specs.CelText as spec
use Rattle.cel_syntax.specs.CelText.{Faults, Answers, most_bytes, most_tokens, most_open}

pub faults_at : (text : List ℕ) (stop : ReadStop) (f : SyntaxFault) → stop ≡ Syntax f → Faults text f → Answers text (Err stop)
faults_at text stop f e d = subst (λ (z : ReadStop). Answers text (Err z)) (sym e) d

-- a stop of the cut
pub cut_faults : (text : List ℕ) (stop : CutStop) (answer : ReadStop) → answer ≡ of_cut stop → length text ≤ most_bytes → Cuts text (Err stop) → Answers text (Err answer)
cut_faults text stop answer e l d = subst (λ (z : ReadStop). Answers text (Err z)) (sym e) (go stop d)
  where
    go : (stop : CutStop) → Cuts text (Err stop) → Answers text (Err (of_cut stop))
    go (cut_stop.Fault (cut.BadToken offset)) d = spec.bad_token l d
    go (cut_stop.Fault (cut.ReservedWord offset)) d = spec.reserved_word l d
    go cut_stop.OutOfMemory d = tt

-- a stop of the grammar's reader
pub grammar_faults : (text : List ℕ) (tokens : List Token) (stop : GrammarStop) (answer : ReadStop) → answer ≡ of_grammar stop → length text ≤ most_bytes → CutInto text (Ok tokens) → length tokens ≤ most_tokens
    → deepest 0 tokens ≤ most_open → ((a : Expr) → IsExpr tokens a → grammar.Gives a (Err stop)) → Answers text (Err answer)
grammar_faults text tokens stop answer e l d m s n = subst (λ (z : ReadStop). Answers text (Err z)) (sym e) (go stop n)
  where
    go : (stop : GrammarStop) → ((a : Expr) → IsExpr tokens a → grammar.Gives a (Err stop)) → Answers text (Err (of_grammar stop))
    go stops.NotAnExpression n = spec.not_an_expression l d m s n
    go stops.OutOfMemory n = tt
