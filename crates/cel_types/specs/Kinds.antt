-- Kinds by their names, and the tests on them.
use Rattle.std.specs.Prelude.{Bool, true, false}
use Rattle.cel_types.specs.declared.form.Attribute.{Attribute}
use Rattle.cel_types.specs.declared.form.Attribute.TheVariants.{RequestTime}
use Rattle.cel_types.specs.declared.kind.Base.{Base}
use Rattle.cel_types.specs.declared.kind.Base.TheVariants as base
use Rattle.cel_types.specs.declared.kind.Kind.{Kind}
use Rattle.cel_types.specs.declared.kind.Kind.TheVariants.{One, Many}

abbrev pub truth : Kind
truth = One base.Bool

abbrev pub int : Kind
int = One base.Int

abbrev pub str : Kind
str = One base.Str

abbrev pub time : Kind
time = One base.Time

abbrev pub length : Kind
length = One base.Length

abbrev pub strs : Kind
strs = Many base.Str

abbrev pub attribute_kind : Attribute → Kind
attribute_kind RequestTime = time
attribute_kind _ = str

-- two kinds are the same
abbrev pub is_base : Base → Base → Bool
is_base base.Bool base.Bool = true
is_base base.Int base.Int = true
is_base base.Str base.Str = true
is_base base.Time base.Time = true
is_base base.Length base.Length = true
is_base _ _ = false

abbrev pub is_kind : Kind → Kind → Bool
is_kind (One a) (One b) = is_base a b
is_kind (Many a) (Many b) = is_base a b
is_kind _ _ = false
