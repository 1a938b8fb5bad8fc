-- Tests of values. Items of a list are no lists, so one step down suffices.
use Rattle.std.specs.Prelude.{Bool, true, false, ◌&&◌, not, if◌then◌else◌, List, [], ◌∷◌}
use Rattle.std.specs.Cmp.Lexicographic.{slice_cmp}
use Rattle.std.specs.Int.RustNames.{int_lt}
use Rattle.std.specs.List.{list_all, list_any}
use Rattle.std.specs.Ordering.{int_eq, nat_cmp}
use Rattle.std.specs.declared.cmp.Ordering.{Ordering}
use Rattle.std.specs.declared.cmp.Ordering.TheVariants.{Less, Equal, Greater}
use Rattle.std.specs.Str.{bytes_eq}
use Rattle.cel_value.specs.declared.value.Value.{Value, out-Value}
use Rattle.cel_value.specs.declared.value.Value.TheOpen.{Value-F}

abbrev pub same_truth : Bool → Bool → Bool
same_truth a b = if a then b else not b

-- two values that are no lists are equal
abbrev pub same_item : Value-F Value → Value-F Value → Bool
same_item (Value-F.Bool a) (Value-F.Bool b) = same_truth a b
same_item (Value-F.Int m) (Value-F.Int n) = int_eq m n
same_item (Value-F.Str s) (Value-F.Str t) = bytes_eq s t
same_item (Value-F.Time s) (Value-F.Time t) = int_eq s t
same_item (Value-F.Length d) (Value-F.Length f) = int_eq d f
same_item _ _ = false

abbrev pub is_same : Value → Value → Bool
is_same v w = same_item (out-Value v) (out-Value w)

abbrev pub same_items : List Value → List Value → Bool
same_items [] [] = true
same_items (v ∷ vs) (w ∷ ws) = is_same v w && same_items vs ws
same_items _ _ = false

abbrev pub same_layer : Value-F Value → Value-F Value → Bool
same_layer (Value-F.Many vs) (Value-F.Many ws) = same_items vs ws
same_layer v w = same_item v w

-- two values of one kind are equal
abbrev pub same_value : Value → Value → Bool
same_value v w = same_layer (out-Value v) (out-Value w)

abbrev pub is_less : Ordering → Bool
is_less Less = true
is_less Equal = false
is_less Greater = false

abbrev pub below_layer : Value-F Value → Value-F Value → Bool
below_layer (Value-F.Int m) (Value-F.Int n) = int_lt m n
below_layer (Value-F.Str s) (Value-F.Str t) = is_less (slice_cmp nat_cmp s t)
below_layer (Value-F.Time s) (Value-F.Time t) = int_lt s t
below_layer (Value-F.Length d) (Value-F.Length f) = int_lt d f
below_layer _ _ = false

-- the first value comes before the second
abbrev pub is_below : Value → Value → Bool
is_below v w = below_layer (out-Value v) (out-Value w)

-- the value is an item of the list
abbrev pub is_in : Value → List Value → Bool
is_in v ws = list_any (λ w. is_same v w) ws

-- each item of the first list is in the second
abbrev pub all_in : List Value → List Value → Bool
all_in vs ws = list_all (λ v. is_in v ws) vs
