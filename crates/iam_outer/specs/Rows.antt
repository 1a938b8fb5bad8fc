-- Rows of a keeper, and what writes make of them.
use Rattle.std.specs.Prelude.{◌≡◌, ℕ, ◌≤◌, ◌&&◌, not, Bool, List, [], ◌∷◌, filter, None, Some, IsErrOf}
use Rattle.std.specs.declared.option.Option.{Option}
use Rattle.std.specs.declared.result.Result.{Result}
use Rattle.std.specs.declared.cmp.Ordering.{Ordering}
use Rattle.std.specs.Ordering.{nat_cmp, on, then_cmp}
use Rattle.std.specs.Cmp.{IsTotalOrder, then_total}
use Rattle.std.specs.Cmp.Lexicographic.{slice_cmp, on_texts}
use Rattle.std.specs.Str.{bytes_eq}
use Rattle.iam_text.specs.Put.{put}
use Rattle.iam_outer.specs.declared.keeper.Row.{Row}
use Rattle.iam_outer.specs.declared.keeper.RowWrite.{RowWrite}
use Rattle.iam_outer.specs.declared.keeper.RowWrite.TheVariants.{Put, Cut}
use Rattle.iam_outer.specs.declared.keeper.KeeperStop.{KeeperStop}
use Rattle.iam_outer.specs.declared.keeper.KeeperStop.TheVariants.{Failed}
use Rattle.iam_outer.specs.Causes.{Rose}

-- by part, then by name, in bytes
abbrev pub row_order : Row → Row → Ordering
row_order = then_cmp (on (λ (r : Row). r.part) (slice_cmp nat_cmp)) (on (λ (r : Row). r.name) (slice_cmp nat_cmp))

pub row_order_total : IsTotalOrder row_order
row_order_total = then_total (on_texts (λ (r : Row). r.part)) (on_texts (λ (r : Row). r.name))

-- a row of this part and name
abbrev pub is_at : List ℕ → List ℕ → Row → Bool
is_at part name row = bytes_eq row.part part && bytes_eq row.name name

abbrev pub cut_row : List ℕ → List ℕ → List Row → List Row
cut_row part name rows = filter (λ row. not (is_at part name row)) rows

abbrev pub after_write : RowWrite → List Row → List Row
after_write (Put row) rows = put row_order row rows
after_write (Cut part name) rows = cut_row part name rows

-- after the writes, in order
abbrev pub after_writes : List RowWrite → List Row → List Row
after_writes [] rows = rows
after_writes (write ∷ writes) rows = after_writes writes (after_write write rows)

-- known rows are those after the writes; what tells no rows tells none then
abbrev pub Written : Option (List Row) → Option (List Row) → List RowWrite → Type 0
Written None new writes = new ≡ None
Written (Some rows) new writes = new ≡ Some (after_writes writes rows)

-- the count never falls, and `Failed` is told only where it rose
pub record KeeperCause {T : Type 0} (before now : ℕ) (result : Result T KeeperStop) : Type 0 where
  pub later : before ≤ now
  pub failed : IsErrOf result Failed → Rose before now
