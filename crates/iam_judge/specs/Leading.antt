-- Which binding leads a scan.
use Rattle.std.specs.Prelude.{ℕ, Bool, true, Some, None}
use Rattle.std.specs.declared.option.Option.{Option}
use Rattle.std.specs.Ordering.{nat_cmp, is_lt}
use Rattle.std.specs.Cmp.Lexicographic.{slice_cmp}
use Rattle.iam_names.specs.Role.{role_text}
use Rattle.iam_types.specs.declared.allow.Binding.{Binding}

-- the role's text stands before that of the best so far
abbrev pub role_before : Binding → Option (ℕ × Binding) → Bool
role_before binding None = true
role_before binding (Some best) = is_lt (slice_cmp nat_cmp (role_text binding.role) (role_text best.1.role))
