-- Facts that are put one after another, and how changes keep facts well formed and in order.
use Rattle.std.proofs.Common.{◌≡◌, not, List, [], ◌∷◌, ◌++◌, map, sym, ap, ◌∙◌, append_assoc, append-nil}
use Rattle.std.specs.List.{All}
use Rattle.std.specs.declared.cmp.Ordering.TheVariants.{Less}
use Rattle.std.proofs.lemmas.List.Elements.{All-filter, All-head, All-push, All-tail, All-nil, All-weaker}
use Rattle.iam_text.specs.Put.{placed, IsInOrder}
use Rattle.iam_text.proofs.InOrder.{All-put, filter-IsInOrder, placed-in_order, put-IsInOrder}
use Rattle.iam_types.specs.declared.fact.Fact.{Fact}
use Rattle.iam_types.specs.declared.fact.FactChange.{FactChange}
use Rattle.iam_types.specs.declared.fact.FactChange.TheVariants.{Put, Cut}
use Rattle.iam_model.specs.Facts.{AreApart, fact_order, same_place, with_change, with_changes}
use Rattle.iam_model.specs.Formed.{IsChange, IsFact}
use Rattle.iam_model.proofs.Parted.{fact_order_total}
use Rattle.iam_model.proofs.Placing.{All-placed, ordered_apart, put_last}

pub ordered_placed : (facts : List Fact) → IsInOrder fact_order facts → (placed fact_order facts ≡ facts) × AreApart facts
ordered_placed facts ordered = (placed-in_order fact_order facts ordered, ordered_apart fact_order facts ordered)

-- facts that stand in order behind others are put behind them
put_behind : (before facts : List Fact) → All (λ fact. All (λ other. fact_order fact other ≡ Less) facts) before → IsInOrder fact_order facts → with_changes before (map Put facts) ≡ before ++ facts
put_behind before [] all ordered = sym (append-nil before)
put_behind before (first ∷ facts) all ordered =
    let heads : All (λ (fact : Fact). fact_order fact first ≡ Less) before =
    All-weaker (λ (fact : Fact). All (λ (other : Fact). fact_order fact other ≡ Less) (first ∷ facts)) (λ (fact : Fact). fact_order fact first ≡ Less) (λ fact. All-head (λ (other : Fact). fact_order fact other ≡ Less) first facts) before all in
    let tails : All (λ (fact : Fact). All (λ (other : Fact). fact_order fact other ≡ Less) facts) before =
    All-weaker (λ (fact : Fact). All (λ (other : Fact). fact_order fact other ≡ Less) (first ∷ facts)) (λ (fact : Fact). All (λ (other : Fact). fact_order fact other ≡ Less) facts) (λ fact. All-tail (λ (other : Fact). fact_order fact other ≡ Less) first facts) before all in
    ap (λ (facts_now : List Fact). with_changes facts_now (map Put facts)) (put_last fact_order fact_order_total first before heads)
    ∙ put_behind (before ++ first ∷ []) facts (All-push (λ (fact : Fact). All (λ (other : Fact). fact_order fact other ≡ Less) facts) before first tails ordered.0) ordered.1
    ∙ append_assoc before (first ∷ []) facts

pub all_put : (facts : List Fact) → IsInOrder fact_order facts → with_changes [] (map Put facts) ≡ facts
all_put facts ordered = put_behind [] facts (All-nil (λ (fact : Fact). All (λ (other : Fact). fact_order fact other ≡ Less) facts)) ordered

-- ---- changes of facts

pub placed_formed : (facts : List Fact) → All IsFact facts → All IsFact (placed fact_order facts)
placed_formed facts formed = All-placed IsFact fact_order facts formed

change_keeps_formed : (facts : List Fact) (change : FactChange) → All IsFact facts → IsChange change → All IsFact (with_change facts change)
change_keeps_formed facts (Put new) formed is = All-put IsFact fact_order new facts is formed
change_keeps_formed facts (Cut old) formed is = All-filter (λ fact. not (same_place old fact)) IsFact facts formed

pub changes_keep_formed : (changes : List FactChange) (facts : List Fact) → All IsFact facts → All IsChange changes → All IsFact (with_changes facts changes)
changes_keep_formed [] facts formed are = formed
changes_keep_formed (change ∷ changes) facts formed are =
    changes_keep_formed changes (with_change facts change) (change_keeps_formed facts change formed (All-head IsChange change changes are)) (All-tail IsChange change changes are)

change_keeps_order : (facts : List Fact) (change : FactChange) → IsInOrder fact_order facts → IsInOrder fact_order (with_change facts change)
change_keeps_order facts (Put new) ordered = put-IsInOrder fact_order fact_order_total new facts ordered
change_keeps_order facts (Cut old) ordered = filter-IsInOrder fact_order (λ fact. not (same_place old fact)) facts ordered

pub changes_keep_order : (changes : List FactChange) (facts : List Fact) → IsInOrder fact_order facts → IsInOrder fact_order (with_changes facts changes)
changes_keep_order [] facts ordered = ordered
changes_keep_order (change ∷ changes) facts ordered = changes_keep_order changes (with_change facts change) (change_keeps_order facts change ordered)
