-- What tag functions and attributes give in a context.
use Rattle.std.specs.Prelude.{ℕ, ◌^◌, nat_lt, nat_eq, Bool, false, ◌&&◌, if◌then◌else◌, is_some, Option, Some, None, option_and_then, List, [], ◌∷◌, ◌++◌, length, drop, codes}
use Rattle.std.specs.Fmt.{decimal}
use Rattle.std.specs.List.{starts_with}
use Rattle.std.specs.Str.{bytes_eq}
use Rattle.std.specs.Str.Parse.{digits_value}
use Rattle.cel_value.specs.Keys.{key_named, key_numbered}
use Rattle.cel_value.specs.declared.context.Context.{Context}
use Rattle.cel_value.specs.declared.context.KeyFact.{KeyFact}
use Rattle.cel_value.specs.declared.context.ValueFact.{ValueFact}
use Rattle.cel_value.specs.declared.value.EvalFault.TheVariants.{UnknownTag}
use Rattle.cel_value.specs.declared.value.Outcome.{Outcome}
use Rattle.cel_value.specs.declared.value.Outcome.TheVariants.{Given, Stopped}
use Rattle.cel_value.specs.declared.value.Value.TheVariants as value
use Rattle.cel_types.specs.declared.form.Attribute.{Attribute}
use Rattle.cel_types.specs.declared.form.Attribute.TheVariants.{ResourceType, ResourceService, ResourceName, RequestTime, PrincipalType, PrincipalSubject}
use Rattle.cel_types.specs.declared.form.TagFunction.{TagFunction}
use Rattle.cel_types.specs.declared.form.TagFunction.TheVariants.{MatchTag, MatchTagId, HasTagKey, HasTagKeyId}
use Rattle.cel_types.specs.Bounds.{time_outcome, nanos_of_seconds}

abbrev canonical : List ℕ → ℕ → Option ℕ
canonical text n = if nat_lt n (2 ^ 64) && bytes_eq (decimal n) text then Some n else None

-- the number below 2^64 whose decimal the text is
abbrev pub decimal_number : List ℕ → Option ℕ
decimal_number text = canonical text (digits_value 10 text)

-- the number of the id `tagKeys/N`
abbrev pub key_number : List ℕ → Option ℕ
key_number id =
    if starts_with nat_eq id (codes "tagKeys/") then decimal_number (drop (length (codes "tagKeys/")) id) else None

abbrev pub value_id : ValueFact → List ℕ
value_id fact = codes "tagValues/" ++ decimal fact.number

-- the first key with the id, which is that of a number
abbrev pub key_with_id : List ℕ → List KeyFact → Option KeyFact
key_with_id id keys = option_and_then (λ number. key_numbered number keys) (key_number id)

abbrev pub has_short : List ℕ → Option ValueFact → Bool
has_short short None = false
has_short short (Some fact) = bytes_eq fact.short short

abbrev pub has_id : List ℕ → Option ValueFact → Bool
has_id id None = false
has_id id (Some fact) = bytes_eq (value_id fact) id

abbrev pub of_key : Option KeyFact → (Option ValueFact → Bool) → Outcome
of_key None test = Stopped UnknownTag
of_key (Some key) test = Given (value.Bool (test key.value))

-- a tag function of a key, and what its value is to be, where the function asks for that
abbrev pub tag_outcome : Context → TagFunction → List ℕ → List ℕ → Outcome
tag_outcome c MatchTag key asked = of_key (key_named key c.keys) (has_short asked)
tag_outcome c MatchTagId key asked = of_key (key_with_id key c.keys) (has_id asked)
tag_outcome c HasTagKey key asked = of_key (key_named key c.keys) (λ fact. is_some fact)
tag_outcome c HasTagKeyId key asked = of_key (key_with_id key c.keys) (λ fact. is_some fact)

abbrev pub attribute_outcome : Context → Attribute → Outcome
attribute_outcome c ResourceType = Given (value.Str c.resource_kind)
attribute_outcome c ResourceService = Given (value.Str c.resource_service)
attribute_outcome c ResourceName = Given (value.Str c.resource_name)
attribute_outcome c RequestTime = time_outcome (nanos_of_seconds c.moment.0)
attribute_outcome c PrincipalType = Given (value.Str c.principal_kind)
attribute_outcome c PrincipalSubject = Given (value.Str c.principal_subject)
