-- The stops of the layers below, as answers of the reader.
use Rattle.cel_lexer.specs.declared.stop.CutFault.{CutFault}
use Rattle.cel_lexer.specs.declared.stop.CutFault.TheVariants as cut
use Rattle.cel_lexer.specs.declared.stop.Stop.{Stop as CutStop}
use Rattle.cel_lexer.specs.declared.stop.Stop.TheVariants as cut_stop
use Rattle.cel_grammar.specs.declared.stop.Stop.{Stop as GrammarStop}
use Rattle.cel_grammar.specs.declared.stop.Stop.TheVariants as grammar
use Rattle.cel_syntax.specs.declared.fault.SyntaxFault.{SyntaxFault}
use Rattle.cel_syntax.specs.declared.fault.SyntaxKind.TheVariants.{BadToken, ReservedWord, NotAnExpression}
use Rattle.cel_syntax.specs.declared.fault.ReadStop.{ReadStop}
use Rattle.cel_syntax.specs.declared.fault.ReadStop.TheVariants.{Syntax, OutOfMemory}
use Rattle.cel_syntax.specs.CelText.{at}

-- the fault of a text that is not cut into tokens
abbrev pub cut_fault : CutFault → SyntaxFault
cut_fault (cut.BadToken offset) = at offset BadToken
cut_fault (cut.ReservedWord offset) = at offset ReservedWord

abbrev pub of_cut : CutStop → ReadStop
of_cut (cut_stop.Fault fault) = Syntax (cut_fault fault)
of_cut cut_stop.OutOfMemory = OutOfMemory

abbrev pub of_grammar : GrammarStop → ReadStop
of_grammar grammar.NotAnExpression = Syntax (at 0 NotAnExpression)
of_grammar grammar.OutOfMemory = OutOfMemory
