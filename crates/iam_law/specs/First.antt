-- What the first binding of a policy is that passes.
use Rattle.std.specs.Prelude.{◌≡◌, ℕ, ◌≤◌, Bool, true, false, List, Some, None, ◌⊎◌, slice_get}
use Rattle.std.specs.declared.option.Option.{Option}
use Rattle.std.specs.Ordering.{nat_cmp}
use Rattle.std.specs.declared.cmp.Ordering.TheVariants.{Less, Equal}
use Rattle.std.specs.Cmp.Lexicographic.{slice_cmp}
use Rattle.iam_names.specs.Role.{role_text}
use Rattle.iam_types.specs.declared.allow.Binding.{Binding}

-- a binding at its place stands before another or is the same: by the role's text in bytes, then by place
abbrev pub UpTo : ℕ × Binding → ℕ × Binding → Type 0
UpTo a b =
    (slice_cmp nat_cmp (role_text a.1.role) (role_text b.1.role) ≡ Less)
    ⊎ ((slice_cmp nat_cmp (role_text a.1.role) (role_text b.1.role) ≡ Equal) × (a.0 ≤ b.0))

-- the binding at the place passes, and none that passes stands before it
pub record IsFirst (passes : Binding → Bool) (bindings : List Binding) (first : ℕ × Binding) : Type 0 where
  pub there : slice_get bindings first.0 ≡ Some first.1
  pub passing : passes first.1 ≡ true
  pub before : (k : ℕ) (other : Binding) → slice_get bindings k ≡ Some other → passes other ≡ true → UpTo first (k, other)

-- the first that passes, and none where none passes
abbrev pub IsFirstOf : (Binding → Bool) → List Binding → Option (ℕ × Binding) → Type 0
IsFirstOf passes bindings None = (k : ℕ) (other : Binding) → slice_get bindings k ≡ Some other → passes other ≡ false
IsFirstOf passes bindings (Some first) = IsFirst passes bindings first
