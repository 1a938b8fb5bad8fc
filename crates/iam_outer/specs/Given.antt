-- What a clock tells of the moments that it gave.
use Rattle.std.specs.Prelude.{◌≡◌, ℕ, zero, suc, ◌+◌, ◌-◌, ◌^◌, ◌≤◌, min, pos, List, [], ◌∷◌, ◌++◌, length, slice_index_or, Some, None, MatchResult, nat_lt, if◌then◌else◌}
use Rattle.std.specs.declared.option.Option.{Option}
use Rattle.std.specs.declared.result.Result.{Result}
use Rattle.iam_text.specs.declared.moment.Moment.{Moment}

-- the known moments grow by these; a clock that gave 2^64 - 1 of them tells no more, and what tells none never tells any
abbrev pub AppendsMoments : Option (List Moment) → Option (List Moment) → List Moment → Type 0
AppendsMoments None new ms = new ≡ None
AppendsMoments (Some before) None ms = 2 ^ 64 - 1 ≤ length before + length ms
AppendsMoments (Some before) (Some now) ms = now ≡ before ++ ms

-- `Ok` appends its moment, and an `Err` leaves the moments
abbrev pub GivesMoment : {E : Type 0} → Option (List Moment) → Option (List Moment) → Result Moment E → Type 0
GivesMoment old new result = MatchResult result (λ m. AppendsMoments old new (m ∷ [])) (λ _. new ≡ old)

abbrev pub zero_moment : Moment
zero_moment = record { 0 = pos 0 }

-- the moment that a clock in memory gives when it gave n before: the last one from the end on
abbrev pub moment_at : List Moment → ℕ → Moment
moment_at moments n = slice_index_or moments (min n (length moments - 1)) zero_moment

-- the first n moments that it gives
abbrev pub moments_before : List Moment → ℕ → List Moment
moments_before moments zero = []
moments_before moments (suc n) = moments_before moments n ++ moment_at moments n ∷ []

-- what a clock in memory tells when it gave n moments
abbrev pub moments_told : List Moment → ℕ → Option (List Moment)
moments_told moments n = if nat_lt n (2 ^ 64 - 1) then Some (moments_before moments n) else None
