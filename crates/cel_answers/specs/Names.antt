-- The names of faults and outcomes, as they are written.
use Rattle.std.specs.Prelude.{ℕ, Bool, true, false, List, codes}
use Rattle.cel_value.specs.declared.value.EvalFault.{EvalFault}
use Rattle.cel_value.specs.declared.value.EvalFault.TheVariants.{Overflow, ZeroDivisor, Range, BadTime, BadDuration, UnknownTag}
use Rattle.cel_syntax.specs.declared.fault.SyntaxKind.{SyntaxKind}
use Rattle.cel_types.specs.declared.checking.TypeKind.{TypeKind}
use Rattle.cel_types.specs.declared.checking.TypeKind.TheVariants.{UnknownName, NotHere, NotLiteral, BadTemplate, BadZone, WrongKind, NotBool}
use Rattle.cel_syntax.specs.declared.fault.SyntaxKind.TheVariants.{TooLong, BadToken, ReservedWord, TooManyTokens, TooDeep, NotAnExpression}

abbrev pub name_of : SyntaxKind → List ℕ
name_of TooLong = codes "TOO_LONG"
name_of BadToken = codes "BAD_TOKEN"
name_of ReservedWord = codes "RESERVED_WORD"
name_of TooManyTokens = codes "TOO_MANY_TOKENS"
name_of TooDeep = codes "TOO_DEEP"
name_of NotAnExpression = codes "NOT_AN_EXPRESSION"

abbrev pub type_name_of : TypeKind → List ℕ
type_name_of UnknownName = codes "UNKNOWN_NAME"
type_name_of NotHere = codes "NOT_HERE"
type_name_of NotLiteral = codes "NOT_LITERAL"
type_name_of BadTemplate = codes "BAD_TEMPLATE"
type_name_of BadZone = codes "BAD_ZONE"
type_name_of WrongKind = codes "WRONG_KIND"
type_name_of NotBool = codes "NOT_BOOL"

abbrev pub eval_name_of : EvalFault → List ℕ
eval_name_of Overflow = codes "Overflow"
eval_name_of ZeroDivisor = codes "ZeroDivisor"
eval_name_of Range = codes "Range"
eval_name_of BadTime = codes "BadTime"
eval_name_of BadDuration = codes "BadDuration"
eval_name_of UnknownTag = codes "UnknownTag"

abbrev pub truth_name : Bool → List ℕ
truth_name true = codes "True"
truth_name false = codes "False"
