-- Lists of writes and of facts, one longer.
use Rattle.std.proofs.Common.{◌≡◌, ℕ, ◌+◌, ◌<◌, List, [], ◌∷◌, ◌++◌, length, get_or, map, take, drop, suc, refl, sym, ap, ◌∙◌, subst, drop-cons}
use Rattle.std.specs.Prelude.{All}
use Rattle.std.proofs.lemmas.List.{map-append, take_more, take-append-drop}
use Rattle.std.proofs.lemmas.List.Elements.{All-nil, All-cons}
use Rattle.iam_types.specs.declared.fact.Fact.{Fact}
use Rattle.iam_types.specs.declared.fact.FactChange.{FactChange}
use Rattle.iam_types.specs.declared.fact.FactChange.TheVariants as change
use Rattle.iam_model.specs.Formed.{IsFact}
use Rattle.iam_outer.specs.declared.keeper.Row.{Row}
use Rattle.iam_outer.specs.declared.keeper.RowWrite.{RowWrite}
use Rattle.iam_outer.specs.declared.keeper.RowWrite.TheVariants as write
use Rattle.iam_rows.specs.Finding.{IsFactOf}
use Rattle.iam_rows.specs.Kept.{IsWrite, AreWrites, AreFactsOf, IsFirstBadRow}
use Rattle.iam_rows.specs.Rows.{HasRow}

write_last : (changes : List FactChange) (writes : List RowWrite) (change : FactChange) (write : RowWrite) → AreWrites changes writes → IsWrite change write → AreWrites (changes ++ change ∷ []) (writes ++ write ∷ [])
write_last [] [] change write are is = (is, tt)
write_last [] (w ∷ writes) change write are is = absurd are
write_last (c ∷ changes) [] change write are is = absurd are
write_last (c ∷ changes) (w ∷ writes) change write are is = (are.0, write_last changes writes change write are.1 is)

pub write_more : (changes : List FactChange) (i : ℕ) (writes : List RowWrite) (change : FactChange) (write : RowWrite) → i < length changes → change ≡ get_or changes i change
    → AreWrites (take i changes) writes → IsWrite change write → AreWrites (take (i + 1) changes) (writes ++ write ∷ [])
write_more changes i writes change write inside at are is =
    let longer : take i changes ++ change ∷ [] ≡ take (i + 1) changes = ap (λ (c : FactChange). take i changes ++ c ∷ []) at ∙ sym (take_more changes i change inside) in
    subst (λ (cs : List FactChange). AreWrites cs (writes ++ write ∷ [])) longer (write_last (take i changes) writes change write are is)

-- a fact that is put, behind the others
pub put_more : (facts : List Fact) (i : ℕ) (writes : List RowWrite) (fact : Fact) (row : Row) → i < length facts → fact ≡ get_or facts i fact
    → AreWrites (map change.Put (take i facts)) writes → HasRow fact row → AreWrites (map change.Put (take (i + 1) facts)) (writes ++ write.Put row ∷ [])
put_more facts i writes fact row inside at are is =
    let longer : take i facts ++ fact ∷ [] ≡ take (i + 1) facts = ap (λ (f : Fact). take i facts ++ f ∷ []) at ∙ sym (take_more facts i fact inside) in
    let puts : map change.Put (take i facts) ++ change.Put fact ∷ [] ≡ map change.Put (take (i + 1) facts) = sym (map-append change.Put (take i facts) (fact ∷ [])) ∙ ap (map change.Put) longer in
    subst (λ (cs : List FactChange). AreWrites cs (writes ++ write.Put row ∷ [])) puts (write_last (map change.Put (take i facts)) writes (change.Put fact) (write.Put row) are is)

fact_last : (rows : List Row) (facts : List Fact) (row : Row) (fact : Fact) → AreFactsOf rows facts → IsFactOf row fact → AreFactsOf (rows ++ row ∷ []) (facts ++ fact ∷ [])
fact_last [] [] row fact are is = (is, tt)
fact_last [] (f ∷ facts) row fact are is = absurd are
fact_last (r ∷ rows) [] row fact are is = absurd are
fact_last (r ∷ rows) (f ∷ facts) row fact are is = (are.0, fact_last rows facts row fact are.1 is)

pub fact_more : (rows : List Row) (i : ℕ) (facts : List Fact) (row : Row) (fact : Fact) → i < length rows → row ≡ get_or rows i row
    → AreFactsOf (take i rows) facts → IsFactOf row fact → AreFactsOf (take (i + 1) rows) (facts ++ fact ∷ [])
fact_more rows i facts row fact inside at are is =
    let longer : take i rows ++ row ∷ [] ≡ take (i + 1) rows = ap (λ (r : Row). take i rows ++ r ∷ []) at ∙ sym (take_more rows i row inside) in
    subst (λ (rs : List Row). AreFactsOf rs (facts ++ fact ∷ [])) longer (fact_last (take i rows) facts row fact are is)

as_many : (rows : List Row) (facts : List Fact) → AreFactsOf rows facts → length rows ≡ length facts
as_many [] [] are = refl
as_many [] (f ∷ facts) are = absurd are
as_many (r ∷ rows) [] are = absurd are
as_many (r ∷ rows) (f ∷ facts) are = ap suc (as_many rows facts are.1)

pub are_formed : (rows : List Row) (facts : List Fact) → AreFactsOf rows facts → All IsFact facts
are_formed [] [] are = All-nil IsFact
are_formed [] (f ∷ facts) are = absurd are
are_formed (r ∷ rows) [] are = absurd are
are_formed (r ∷ rows) (f ∷ facts) are = All-cons IsFact f facts are.0.0 (are_formed rows facts are.1)

pub first_bad : (rows : List Row) (i : ℕ) (facts : List Fact) (row : Row) → i < length rows → row ≡ get_or rows i row
    → AreFactsOf (take i rows) facts → ((fact : Fact) → IsFactOf row fact → ⊥) → IsFirstBadRow rows (length facts)
first_bad rows i facts row inside at are none =
    let split : drop i rows ≡ row ∷ drop (suc i) rows = drop-cons rows i row inside ∙ ap (λ (r : Row). r ∷ drop (suc i) rows) (sym at) in
    let whole : rows ≡ take i rows ++ row ∷ drop (suc i) rows = sym (take-append-drop i rows) ∙ ap (λ (rs : List Row). take i rows ++ rs) split in
    (take i rows, row, drop (suc i) rows, facts, whole, as_many (take i rows) facts are, are, none)
