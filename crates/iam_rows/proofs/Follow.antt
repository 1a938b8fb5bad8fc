-- The rows of facts stand as the facts, and change as they do.
use Rattle.std.proofs.Common.{◌≡◌, ℕ, Bool, true, false, not, cond, ◌&&◌, List, [], ◌∷◌, filter, refl, sym, ap, ◌∙◌, subst}
use Rattle.std.specs.Prelude.{All}
use Rattle.std.specs.declared.cmp.Ordering.{Ordering}
use Rattle.std.specs.declared.cmp.Ordering.TheVariants.{Less, Equal, Greater}
use Rattle.std.specs.Ordering.{match_ordering, ordering_then, nat_cmp, is_eq}
use Rattle.std.specs.Cmp.Lexicographic.{slice_cmp, nat_list_eq_equiv}
use Rattle.std.specs.Str.{bytes_eq}
use Rattle.std.proofs.lemmas.Map.Text.{is_eq-slice_cmp}
use Rattle.std.proofs.lemmas.List.Elements.{All-nil, All-cons, All-head, All-tail}
use Rattle.iam_text.specs.Put.{put, IsInOrder}
use Rattle.iam_types.specs.declared.fact.Fact.{Fact}
use Rattle.iam_types.specs.declared.fact.FactChange.{FactChange}
use Rattle.iam_types.specs.declared.fact.FactChange.TheVariants as change
use Rattle.iam_model.specs.Facts.{fact_order, same_place, with_change, with_changes}
use Rattle.iam_model.specs.Parts.{part_of, key_of}
use Rattle.iam_outer.specs.declared.keeper.Row.{Row}
use Rattle.iam_outer.specs.declared.keeper.RowWrite.{RowWrite}
use Rattle.iam_outer.specs.declared.keeper.RowWrite.TheVariants as write
use Rattle.iam_outer.specs.Rows.{row_order, is_at, cut_row, after_write, after_writes}
use Rattle.iam_rows.specs.Kept.{AreRows, IsWrite, AreWrites}
use Rattle.iam_rows.specs.Rows.{HasRow}

-- ---- the place of a row is its fact's

both_equal : (o p : Ordering) → is_eq (ordering_then o p) ≡ is_eq o && is_eq p
both_equal Less p = refl
both_equal Equal p = refl
both_equal Greater p = refl

order_by : (p q m n part other name last : List ℕ) → part ≡ p → other ≡ q → name ≡ m → last ≡ n
    → ordering_then (slice_cmp nat_cmp p q) (slice_cmp nat_cmp m n) ≡ ordering_then (slice_cmp nat_cmp part other) (slice_cmp nat_cmp name last)
order_by p q m n part other name last a b c d = rw (a, b, c, d) refl

same_order : (a b : Fact) (r s : Row) → HasRow a r → HasRow b s → fact_order a b ≡ row_order r s
same_order a b r s h g =
    order_by (part_of a) (part_of b) (key_of a) (key_of b) r.part s.part r.name s.name h.0 g.0 h.1 g.1

same_bytes : (p q : List ℕ) → is_eq (slice_cmp nat_cmp p q) ≡ bytes_eq q p
same_bytes p q = is_eq-slice_cmp p q ∙ nat_list_eq_equiv.symm p q

at_by : (p q m n other last : List ℕ) → other ≡ q → last ≡ n
    → is_eq (ordering_then (slice_cmp nat_cmp p q) (slice_cmp nat_cmp m n)) ≡ bytes_eq other p && bytes_eq last m
at_by p q m n other last b d =
    rw (b, d) (both_equal (slice_cmp nat_cmp p q) (slice_cmp nat_cmp m n) ∙ ap (λ (e : Bool). e && is_eq (slice_cmp nat_cmp m n)) (same_bytes p q) ∙ ap (λ (e : Bool). bytes_eq q p && e) (same_bytes m n))

same_at : (old fact : Fact) (row : Row) → HasRow fact row → same_place old fact ≡ is_at (part_of old) (key_of old) row
same_at old fact row h =
    at_by (part_of old) (part_of fact) (key_of old) (key_of fact) row.part row.name h.0 h.1

-- ---- changes and their writes

put_follows : (new : Fact) (row : Row) (facts : List Fact) (rows : List Row) → HasRow new row → AreRows facts rows → AreRows (put fact_order new facts) (put row_order row rows)
put_follows new row [] [] h are = (h, tt)
put_follows new row [] (r ∷ rows) h are = absurd are
put_follows new row (f ∷ facts) [] h are = absurd are
put_follows new row (f ∷ facts) (r ∷ rows) h are =
    let more = put_follows new row facts rows h are.1 in
    subst (λ (o : Ordering). AreRows (match_ordering o (new ∷ f ∷ facts) (new ∷ facts) (f ∷ put fact_order new facts)) (put row_order row (r ∷ rows))) (sym (same_order new f row r h are.0))
    (elim (row_order row r) as (λ o. AreRows (match_ordering o (new ∷ f ∷ facts) (new ∷ facts) (f ∷ put fact_order new facts)) (match_ordering o (row ∷ r ∷ rows) (row ∷ rows) (r ∷ put row_order row rows))) [
      | Less ↦ (h, are)
      | Equal ↦ (h, are.1)
      | Greater ↦ (are.0, more)
    ])

abbrev facts_left : Bool → Fact → List Fact → List Fact
facts_left here f facts = cond (not here) (f ∷ facts) facts

abbrev rows_left : Bool → Row → List Row → List Row
rows_left here r rows = cond (not here) (r ∷ rows) rows

cut_follows : (old : Fact) (facts : List Fact) (rows : List Row) → AreRows facts rows → AreRows (filter (λ fact. not (same_place old fact)) facts) (cut_row (part_of old) (key_of old) rows)
cut_follows old [] [] are = tt
cut_follows old [] (r ∷ rows) are = absurd are
cut_follows old (f ∷ facts) [] are = absurd are
cut_follows old (f ∷ facts) (r ∷ rows) are =
    let fs = filter (λ fact. not (same_place old fact)) facts in
    let rs = cut_row (part_of old) (key_of old) rows in
    let more = cut_follows old facts rows are.1 in
    subst (λ (here : Bool). AreRows (facts_left here f fs) (rows_left (is_at (part_of old) (key_of old) r) r rs)) (sym (same_at old f r are.0))
    (elim (is_at (part_of old) (key_of old) r) as (λ here. AreRows (facts_left here f fs) (rows_left here r rs)) [
      | true ↦ more
      | false ↦ (are.0, more)
    ])

change_follows : (one : FactChange) (made : RowWrite) (facts : List Fact) (rows : List Row) → IsWrite one made → AreRows facts rows → AreRows (with_change facts one) (after_write made rows)
change_follows (change.Put new) (write.Put row) facts rows is are = put_follows new row facts rows is are
change_follows (change.Cut old) (write.Cut part name) facts rows is are =
    rw (is.0, is.1) (cut_follows old facts rows are)
change_follows (change.Put new) (write.Cut part name) facts rows is are = absurd is
change_follows (change.Cut old) (write.Put row) facts rows is are = absurd is

pub changes_follow : (facts : List Fact) (rows : List Row) (changes : List FactChange) (writes : List RowWrite) → AreRows facts rows → AreWrites changes writes → AreRows (with_changes facts changes) (after_writes writes rows)
changes_follow facts rows [] [] are each = are
changes_follow facts rows [] (w ∷ writes) are each = absurd each
changes_follow facts rows (c ∷ changes) [] are each = absurd each
changes_follow facts rows (c ∷ changes) (w ∷ writes) are each =
    changes_follow (with_change facts c) (after_write w rows) changes writes (change_follows c w facts rows each.0 are) each.1

-- ---- rows in order

behind : (fact : Fact) (row : Row) (facts : List Fact) (rows : List Row) → HasRow fact row → AreRows facts rows → All (λ other. row_order row other ≡ Less) rows → All (λ other. fact_order fact other ≡ Less) facts
behind fact row [] [] h are all = All-nil (λ (other : Fact). fact_order fact other ≡ Less)
behind fact row [] (r ∷ rows) h are all = absurd are
behind fact row (f ∷ facts) [] h are all = absurd are
behind fact row (f ∷ facts) (r ∷ rows) h are all =
    All-cons (λ (other : Fact). fact_order fact other ≡ Less) f facts (same_order fact f row r h are.0 ∙ All-head (λ (other : Row). row_order row other ≡ Less) r rows all)
    (behind fact row facts rows h are.1 (All-tail (λ (other : Row). row_order row other ≡ Less) r rows all))

pub stand_as : (facts : List Fact) (rows : List Row) → AreRows facts rows → IsInOrder row_order rows → IsInOrder fact_order facts
stand_as [] [] are order = tt
stand_as [] (r ∷ rows) are order = absurd are
stand_as (f ∷ facts) [] are order = absurd are
stand_as (f ∷ facts) (r ∷ rows) are order = (behind f r facts rows are.0 are.1 order.0, stand_as facts rows are.1 order.1)
