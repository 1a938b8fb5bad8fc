-- Writes keep rows in order.
use Rattle.std.proofs.Common.{◌≡◌, ◌∙◌, ℕ, suc, ◌-◌, ◌<◌, ◌≤◌, List, [], ◌∷◌, length, get_or, drop, not, ap, sym, arith, drop-cons}
use Rattle.iam_text.specs.Put.{put, placed, IsInOrder}
use Rattle.iam_text.proofs.InOrder.{put-IsInOrder, filter-IsInOrder, placed-IsInOrder, placed-in_order}
use Rattle.iam_outer.specs.declared.keeper.Row.{Row}
use Rattle.iam_outer.specs.declared.keeper.RowWrite.{RowWrite}
use Rattle.iam_outer.specs.declared.keeper.RowWrite.TheVariants.{Put, Cut}
use Rattle.iam_outer.specs.Rows.{row_order, row_order_total, is_at, after_write, after_writes}

after_write-IsInOrder : (write : RowWrite) (rows : List Row) → IsInOrder row_order rows → IsInOrder row_order (after_write write rows)
after_write-IsInOrder (Put row) rows h = put-IsInOrder row_order row_order_total row rows h
after_write-IsInOrder (Cut part name) rows h = filter-IsInOrder row_order (λ row. not (is_at part name row)) rows h

after_writes-IsInOrder : (writes : List RowWrite) (rows : List Row) → IsInOrder row_order rows → IsInOrder row_order (after_writes writes rows)
after_writes-IsInOrder [] rows h = h
after_writes-IsInOrder (write ∷ writes) rows h = after_writes-IsInOrder writes (after_write write rows) (after_write-IsInOrder write rows h)

-- what the writes make of rows in their places is in its places
pub placed-after_writes : (writes : List RowWrite) (rows : List Row) → placed row_order (after_writes writes (placed row_order rows)) ≡ after_writes writes (placed row_order rows)
placed-after_writes writes rows = placed-in_order row_order (after_writes writes (placed row_order rows)) (after_writes-IsInOrder writes (placed row_order rows) (placed-IsInOrder row_order row_order_total rows))

-- one row before those that are in their places
pub placed-one_more : (rows so_far next : List Row) (at : ℕ) (row item : Row) → 0 < at → at ≤ length rows → item ≡ get_or rows (at - 1) item → row ≡ item → so_far ≡ placed row_order (drop at rows) → next ≡ put row_order row so_far → next ≡ placed row_order (drop (at - 1) rows)
placed-one_more rows so_far next at row item some within is copy done put_is =
    let step : suc (at - 1) ≡ at = omega arith in
    let split : drop (at - 1) rows ≡ row ∷ drop at rows = drop-cons rows (at - 1) item (omega arith) ∙ ap (λ (x : Row). x ∷ drop (suc (at - 1)) rows) (sym (copy ∙ is)) ∙ ap (λ n. row ∷ drop n rows) step in
    put_is ∙ ap (put row_order row) done ∙ ap (placed row_order) (sym split)
