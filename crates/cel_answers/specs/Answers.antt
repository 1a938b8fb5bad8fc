-- The answers to texts and to lines.
use Rattle.std.specs.Prelude.{◌≡◌, ℕ, Bool, Some, List, ◌∷◌, ◌++◌, codes, IsUtf8}
use Rattle.std.specs.Fmt.{decimal}
use Rattle.std.specs.Str.Lossy.{utf8_valid_len}
use Rattle.cel_tree.specs.declared.tree.Expr.{Expr}
use Rattle.cel_shown.specs.Shown.{written}
use Rattle.cel_shown.specs.Spelled.{bytes_of}
use Rattle.cel_value.specs.declared.context.Context.{Context}
use Rattle.cel_value.specs.declared.value.EvalFault.{EvalFault}
use Rattle.cel_value.specs.declared.value.Outcome.{Outcome}
use Rattle.cel_value.specs.declared.value.Outcome.TheVariants.{Given, Stopped}
use Rattle.cel_value.specs.declared.value.Value.TheVariants as value
use Rattle.cel_meaning.specs.Results.{at}
use Rattle.cel_syntax.specs.declared.fault.SyntaxFault.{SyntaxFault}
use Rattle.cel_syntax.specs.CelText.{CelText, Faults}
use Rattle.cel_types.specs.declared.checking.TypeFault.{TypeFault}
use Rattle.cel_types.specs.declared.kind.Place.{Place}
use Rattle.cel_types.specs.declared.kind.Place.TheVariants.{Allow}
use Rattle.cel_types.specs.HasKind.{HasKind, IsFaultOf}
use Rattle.cel_types.specs.Means.{Means}
use Rattle.cel_types.specs.Kinds as kind
use Rattle.cel_answers.specs.declared.task.Task.{Task}
use Rattle.cel_answers.specs.declared.task.Task.TheVariants.{Read, Check, Value}
use Rattle.cel_answers.specs.Escapes.{StandsFor}
use Rattle.cel_answers.specs.Names.{eval_name_of, name_of, truth_name, type_name_of}
use Rattle.cel_answers.specs.Task.{place_of}
use Rattle.cel_types.specs.Sight.{sight_of}

-- `OK ` and a tree as it is printed
abbrev pub tree_line : Expr → List ℕ
tree_line e = codes "OK " ++ bytes_of (written e)

-- a fault's name and its offset
abbrev pub fault_line : List ℕ → ℕ → List ℕ
fault_line name offset = name ++ 32 ∷ decimal offset

-- the name of what a condition comes to
abbrev pub IsNamed : Outcome → List ℕ → Type 0
IsNamed (Given v) name = (b : Bool) → v ≡ value.Bool b → name ≡ truth_name b
IsNamed (Stopped fault) name = name ≡ eval_name_of fault

-- the answer to a text, of which this is asked, in a context
pub data Answer (c : Context) : Task → List ℕ → List ℕ → Type 0 where
  tree : {text : List ℕ} {e : Expr} → CelText text e → Answer c Read text (tree_line e)
  condition : {place : Place} {text : List ℕ} {e : Expr} → CelText text e → HasKind (sight_of place) e kind.truth
      → Answer c (Check place) text (tree_line e)
  truth : {text : List ℕ} {e : Expr} {b : Bool} → CelText text e → HasKind (sight_of Allow) e kind.truth → Means (at c) e (Given (value.Bool b))
      → Answer c Value text (truth_name b)
  stopped : {text : List ℕ} {e : Expr} {fault : EvalFault} → CelText text e → HasKind (sight_of Allow) e kind.truth → Means (at c) e (Stopped fault)
      → Answer c Value text (eval_name_of fault)
  type_fault : {task : Task} {place : Place} {text : List ℕ} {e : Expr} {fault : TypeFault} → place_of task ≡ Some place → CelText text e
      → IsFaultOf (sight_of place) e fault → Answer c task text (fault_line (type_name_of fault.kind) fault.offset)
  fault : {task : Task} {text : List ℕ} {fault : SyntaxFault} → Faults text fault
      → Answer c task text (fault_line (name_of fault.kind) fault.offset)

-- the answer to a line: to the text that it stands for, or where the bytes that it stands for first are no UTF-8
pub data LineAnswer (c : Context) : Task → List ℕ → List ℕ → Type 0 where
  text : {task : Task} {line bytes answer : List ℕ} → StandsFor line bytes → IsUtf8 bytes → Answer c task bytes answer
      → LineAnswer c task line answer
  no_text : {task : Task} {line bytes : List ℕ} → StandsFor line bytes → ¬ IsUtf8 bytes
      → LineAnswer c task line (fault_line (codes "NOT_UTF8") (utf8_valid_len bytes))
