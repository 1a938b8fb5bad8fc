-- The forms of nodes.
use Rattle.std.specs.Prelude.{ℕ, ◌==◌, Bool, false, ◌&&◌, ◌||◌, if◌then◌else◌, Option, Some, None, is_some, List, [], ◌∷◌, length, codes}
use Rattle.std.specs.Option.{option_map}
use Rattle.std.specs.Str.{bytes_eq}
use Rattle.cel_tree.specs.declared.tree.Expr.{Expr, out-Expr}
use Rattle.cel_tree.specs.declared.tree.Expr.TheOpen.{Expr-F}
use Rattle.cel_types.specs.declared.form.Attribute.{Attribute}
use Rattle.cel_types.specs.declared.form.Attribute.TheVariants.{ResourceType, ResourceService, ResourceName, RequestTime, PrincipalType, PrincipalSubject}
use Rattle.cel_types.specs.declared.form.TagFunction.{TagFunction}
use Rattle.cel_types.specs.declared.form.TagFunction.TheVariants.{MatchTag, MatchTagId, HasTagKey, HasTagKeyId}
use Rattle.cel_types.specs.declared.form.TimePart.{TimePart}
use Rattle.cel_types.specs.declared.form.TimePart.TheVariants.{FullYear, Month, Date, DayOfMonth, DayOfWeek, DayOfYear, Hours, Minutes, Seconds, Milliseconds}
use Rattle.cel_types.specs.declared.form.Form.{Form}
use Rattle.cel_types.specs.declared.form.Form.TheVariants as form

-- the node is this name
abbrev pub is_name : Expr-F Expr → List ℕ → Bool
is_name (Expr-F.Name span own) name = bytes_eq own name
is_name _ name = false

abbrev pub resource_attribute : List ℕ → Option Attribute
resource_attribute field =
    if bytes_eq field (codes "type") then Some ResourceType
    else (if bytes_eq field (codes "service") then Some ResourceService
    else (if bytes_eq field (codes "name") then Some ResourceName else None))

abbrev pub principal_attribute : List ℕ → Option Attribute
principal_attribute field =
    if bytes_eq field (codes "type") then Some PrincipalType
    else (if bytes_eq field (codes "subject") then Some PrincipalSubject else None)

-- the attribute that a field of a base is
abbrev pub attribute_of : Expr-F Expr → List ℕ → Option Attribute
attribute_of base field =
    if is_name base (codes "resource") then resource_attribute field
    else (if is_name base (codes "principal") then principal_attribute field
    else (if is_name base (codes "request") && bytes_eq field (codes "time") then Some RequestTime else None))

-- a function with this number of arguments
abbrev pub call_form : List ℕ → ℕ → Option Form
call_form name arguments =
    if arguments == 1 then
    (if bytes_eq name (codes "timestamp") then Some form.Timestamp
    else (if bytes_eq name (codes "duration") then Some form.Duration else None))
    else None

abbrev pub tag_function : List ℕ → Option TagFunction
tag_function name =
    if bytes_eq name (codes "matchTag") then Some MatchTag
    else (if bytes_eq name (codes "matchTagId") then Some MatchTagId
    else (if bytes_eq name (codes "hasTagKey") then Some HasTagKey
    else (if bytes_eq name (codes "hasTagKeyId") then Some HasTagKeyId else None)))

-- the tag function that a method of a base is
abbrev pub tag_of : Expr-F Expr → List ℕ → Option TagFunction
tag_of base name = if is_name base (codes "resource") then tag_function name else None

abbrev pub arity : TagFunction → ℕ
arity MatchTag = 2
arity MatchTagId = 2
arity HasTagKey = 1
arity HasTagKeyId = 1

abbrev pub tag_form : TagFunction → ℕ → Option Form
tag_form function arguments = if arguments == arity function then Some (form.Tag function) else None

abbrev pub is_api : Expr-F Expr → List ℕ → Bool
is_api base name = is_name base (codes "api") && bytes_eq name (codes "getAttribute")

-- a method that is one node with its base and its arguments
abbrev pub is_whole : Expr-F Expr → List ℕ → Bool
is_whole base name = is_some (tag_of base name) || is_api base name

abbrev pub is_text : Expr-F Expr → List ℕ → Bool
is_text (Expr-F.Str span own) text = bytes_eq own text
is_text _ text = false

abbrev pub is_empty_list : Expr-F Expr → Bool
is_empty_list (Expr-F.Many span items) = length items == 0
is_empty_list _ = false

abbrev pub modified_form : List Expr → Option Form
modified_form (name ∷ default ∷ []) =
    if is_text (out-Expr name) (codes "iam.googleapis.com/modifiedGrantsByRole") && is_empty_list (out-Expr default)
    then Some form.Modified else None
modified_form _ = None

abbrev pub time_part : List ℕ → Option TimePart
time_part name =
    if bytes_eq name (codes "getFullYear") then Some FullYear
    else (if bytes_eq name (codes "getMonth") then Some Month
    else (if bytes_eq name (codes "getDate") then Some Date
    else (if bytes_eq name (codes "getDayOfMonth") then Some DayOfMonth
    else (if bytes_eq name (codes "getDayOfWeek") then Some DayOfWeek
    else (if bytes_eq name (codes "getDayOfYear") then Some DayOfYear
    else (if bytes_eq name (codes "getHours") then Some Hours
    else (if bytes_eq name (codes "getMinutes") then Some Minutes
    else (if bytes_eq name (codes "getSeconds") then Some Seconds
    else (if bytes_eq name (codes "getMilliseconds") then Some Milliseconds else None)))))))))

-- a method of a value with this number of arguments
abbrev pub own_method : List ℕ → ℕ → Option Form
own_method name arguments =
    if arguments == 0 then option_map form.Part (time_part name)
    else (if arguments == 1 then
    (if bytes_eq name (codes "startsWith") then Some form.StartsWith
    else (if bytes_eq name (codes "endsWith") then Some form.EndsWith
    else (if bytes_eq name (codes "extract") then Some form.Extract
    else (if bytes_eq name (codes "hasOnly") then Some form.HasOnly
    else option_map form.Part (time_part name)))))
    else None)

abbrev pub tagged : Option TagFunction → ℕ → Option Form → Option Form
tagged None arguments other = other
tagged (Some function) arguments other = tag_form function arguments

abbrev pub method_form : Expr-F Expr → List ℕ → List Expr → Option Form
method_form base name arguments =
    tagged (tag_of base name) (length arguments)
    (if is_api base name then modified_form arguments else own_method name (length arguments))

-- the form of a node, if there is such a form with this number of arguments
abbrev pub form_of : Expr-F Expr → Option Form
form_of (Expr-F.Bool span truth) = Some form.Bool
form_of (Expr-F.Int span number) = Some form.Int
form_of (Expr-F.Str span text) = Some form.Str
form_of (Expr-F.Name span name) = None
form_of (Expr-F.Select span base field) = option_map form.Attribute (attribute_of (out-Expr base) field)
form_of (Expr-F.Call span name arguments) = call_form name (length arguments)
form_of (Expr-F.Method span base name arguments) = method_form (out-Expr base) name arguments
form_of (Expr-F.Many span items) = Some form.List
form_of (Expr-F.Not span operand) = Some form.Not
form_of (Expr-F.Neg span operand) = Some form.Neg
form_of (Expr-F.Two span op left right) = Some (form.Two op)
form_of (Expr-F.Pick span condition picked other) = Some form.Pick
