-- Facts by parts, whatever the parts are.
use Rattle.std.proofs.Common.{◌≡◌, ◌⊎◌, inl, inr, ℕ, Bool, true, false, not, cond, List, [], ◌∷◌, ◌++◌, map, filter, Some, None, refl, sym, ap, ◌∙◌}
use Rattle.std.specs.declared.option.Option.{Option}
use Rattle.std.specs.Option.{option_map_or}
use Rattle.std.specs.List.{All}
use Rattle.std.specs.Cmp.{IsTotalOrder}
use Rattle.std.specs.Cmp.Lexicographic.{slice_cmp}
use Rattle.std.specs.declared.cmp.Ordering.{Ordering}
use Rattle.std.specs.declared.cmp.Ordering.TheVariants.{Less, Equal, Greater}
use Rattle.std.specs.Ordering.{nat_cmp, match_ordering, ordering_then, is_eq}
use Rattle.std.proofs.lemmas.Cmp.{nat_list_cmp_total, on_total, then_total, tied_itself}
use Rattle.std.proofs.lemmas.List.Concat.{flat_map-append}
use Rattle.std.proofs.lemmas.List.Elements.{All-append, All-cons, All-head, All-map, All-tail, All-nil, All-weaker, filter-append}
use Rattle.iam_text.specs.Put.{put, IsInOrder}
use Rattle.iam_text.proofs.InOrder.{put-front}
use Rattle.iam_types.specs.declared.fact.Fact.{Fact}
use Rattle.iam_model.specs.Part.{Part, found, order_in, rows_in}
use Rattle.iam_model.specs.Facts.{fact_order, same_place}
use Rattle.iam_model.specs.Parts.{key_of, part_of}
use Rattle.iam_model.specs.Sections.{Section, all_facts, Ascending}

-- what a part owes: its rows are found again, only in it, and stand under its name and their key
pub record IsPart (A : Type 0) (p : Part A) : Type 0 where
  pub back : (row : A) → p.out (p.wrap row) ≡ Some row
  pub own : (fact : Fact) → (p.out fact ≡ None) ⊎ ((row : A) × (fact ≡ p.wrap row))
  pub named : (row : A) → part_of (p.wrap row) ≡ p.name
  pub keyed : (row : A) → key_of (p.wrap row) ≡ p.key row

abbrev pub by_name : List ℕ → List ℕ → Ordering
by_name a b = slice_cmp nat_cmp a b

abbrev pub AreSections : List Section → Type 0
AreSections [] = Unit {0}
AreSections (s ∷ ss) = All (λ fact. part_of fact ≡ s.part) s.facts × AreSections ss

pub fact_order_total : IsTotalOrder fact_order
fact_order_total = then_total (on_total part_of nat_list_cmp_total) (on_total key_of nat_list_cmp_total)

pub section_is : {A : Type 0} (p : Part A) → IsPart A p → (rows : List A) → All (λ fact. part_of fact ≡ p.name) (map p.wrap rows)
section_is p is [] = All-nil (λ (fact : Fact). part_of fact ≡ p.name)
section_is p is (row ∷ rows) = All-cons (λ (fact : Fact). part_of fact ≡ p.name) (p.wrap row) (map p.wrap rows) (is.named row) (section_is p is rows)

-- ---- the order of two facts, by the names of their parts

by_part : (a b : Fact) (name : List ℕ) (o : Ordering) → part_of b ≡ name → by_name (part_of a) name ≡ o → fact_order a b ≡ ordering_then o (by_name (key_of a) (key_of b))
by_part a b name o named compared =
    ap (λ (n : List ℕ). ordering_then (by_name (part_of a) n) (by_name (key_of a) (key_of b))) named
    ∙ ap (λ c. ordering_then c (by_name (key_of a) (key_of b))) compared

all_less : (row : Fact) (s : Section) → All (λ fact. part_of fact ≡ s.part) s.facts → by_name (part_of row) s.part ≡ Less → All (λ other. fact_order row other ≡ Less) s.facts
all_less row s named less = All-weaker (λ (f : Fact). part_of f ≡ s.part) (λ (f : Fact). fact_order row f ≡ Less) (λ f is. by_part row f s.part Less is less) s.facts named

all_greater : (row : Fact) (s : Section) → All (λ fact. part_of fact ≡ s.part) s.facts → by_name (part_of row) s.part ≡ Greater → All (λ other. fact_order row other ≡ Greater) s.facts
all_greater row s named greater = All-weaker (λ (f : Fact). part_of f ≡ s.part) (λ (f : Fact). fact_order row f ≡ Greater) (λ f is. by_part row f s.part Greater is greater) s.facts named

-- what stands before a part stands before the parts behind it
later_less : (row : Fact) (s : Section) (ss : List Section) → AreSections ss → Ascending (s ∷ ss) → (by_name (part_of row) s.part ≡ Less) ⊎ (by_name (part_of row) s.part ≡ Equal) → All (λ other. fact_order row other ≡ Less) (all_facts ss)
later_less row s [] are ascending upto = All-nil (λ (other : Fact). fact_order row other ≡ Less)
later_less row s (next ∷ ss) are ascending upto =
    let less : by_name (part_of row) next.part ≡ Less = elim upto [
      | inl before ↦ nat_list_cmp_total.trans (part_of row) s.part next.part before ascending.0
      | inr same ↦ nat_list_cmp_total.congr (part_of row) s.part next.part same ∙ ascending.0
    ] in
    All-append (λ (other : Fact). fact_order row other ≡ Less) next.facts (all_facts ss) (all_less row next are.0 less) (later_less row next ss are.1 ascending.1 (inl less))

-- ---- a fact that is put

-- among facts that stand before it, behind them
pub put_behind : {X : Type 0} (order : X → X → Ordering) (row : X) (before rows : List X) → All (λ other. order row other ≡ Greater) before → put order row (before ++ rows) ≡ before ++ put order row rows
put_behind order row [] rows all = refl
put_behind {X} order row (first ∷ before) rows all =
    ap (λ o. match_ordering o (row ∷ first ∷ before ++ rows) (row ∷ before ++ rows) (first ∷ put order row (before ++ rows))) (All-head (λ (x : X). order row x ≡ Greater) first before all)
    ∙ ap (λ (xs : List X). first ∷ xs) (put_behind order row before rows (All-tail (λ (x : X). order row x ≡ Greater) first before all))

-- among facts that stand behind it, before them
pub put_before : {X : Type 0} (order : X → X → Ordering) (row : X) (rows later : List X) → All (λ other. order row other ≡ Less) later → put order row (rows ++ later) ≡ put order row rows ++ later
put_before order row [] later all = put-front order row later all
put_before {X} order row (first ∷ rows) later all =
    elim (order row first) as (λ o. match_ordering o (row ∷ first ∷ rows ++ later) (row ∷ rows ++ later) (first ∷ put order row (rows ++ later)) ≡ match_ordering o (row ∷ first ∷ rows) (row ∷ rows) (first ∷ put order row rows) ++ later) [
      | Less ↦ refl
      | Equal ↦ refl
      | Greater ↦ ap (λ (xs : List X). first ∷ xs) (put_before order row rows later all)
    ]

abbrev pub put_in : Fact → List Section → List Section
put_in row [] = record { part = part_of row; facts = row ∷ [] } ∷ []
put_in row (s ∷ ss) = match_ordering (by_name (part_of row) s.part) (record { part = part_of row; facts = row ∷ [] } ∷ s ∷ ss) (record { part = s.part; facts = put fact_order row s.facts } ∷ ss) (s ∷ put_in row ss)

after_first : (s : Section) (ss : List Section) → Ascending (s ∷ ss) → Ascending ss
after_first s [] h = tt
after_first s (next ∷ ss) h = h.1

pub put_all : (row : Fact) (ss : List Section) → AreSections ss → Ascending ss → put fact_order row (all_facts ss) ≡ all_facts (put_in row ss)
put_all row [] are ascending = refl
put_all row (s ∷ ss) are ascending =
    elim (by_name (part_of row) s.part) as (λ o. by_name (part_of row) s.part ≡ o → put fact_order row (s.facts ++ all_facts ss)
    ≡ all_facts (match_ordering o (record { part = part_of row; facts = row ∷ [] } ∷ s ∷ ss) (record { part = s.part; facts = put fact_order row s.facts } ∷ ss) (s ∷ put_in row ss))) [
      | Less ↦ λ less. put-front fact_order row (s.facts ++ all_facts ss) (All-append (λ (f : Fact). fact_order row f ≡ Less) s.facts (all_facts ss) (all_less row s are.0 less) (later_less row s ss are.1 ascending (inl less)))
      | Equal ↦ λ same. put_before fact_order row s.facts (all_facts ss) (later_less row s ss are.1 ascending (inr same))
      | Greater ↦ λ greater. put_behind fact_order row s.facts (all_facts ss) (all_greater row s are.0 greater) ∙ ap (λ (fs : List Fact). s.facts ++ fs) (put_all row ss are.1 (after_first s ss ascending))
    ] refl

-- two rows of a part stand as its own order says
pub wrap_order : {A : Type 0} (p : Part A) → IsPart A p → (a b : A) → fact_order (p.wrap a) (p.wrap b) ≡ order_in p a b
wrap_order p is a b =
    by_part (p.wrap a) (p.wrap b) p.name Equal (is.named b) (ap (λ (n : List ℕ). by_name n p.name) (is.named a) ∙ tied_itself nat_list_cmp_total p.name)
    ∙ ap (λ (n : List ℕ). by_name n (key_of (p.wrap b))) (is.keyed a) ∙ ap (by_name (p.key a)) (is.keyed b)

pub put_wrapped : {A : Type 0} (p : Part A) → IsPart A p → (row : A) (rows : List A) → put fact_order (p.wrap row) (map p.wrap rows) ≡ map p.wrap (put (order_in p) row rows)
put_wrapped p is row [] = refl
put_wrapped {A} p is row (other ∷ rows) =
    ap (λ o. match_ordering o (p.wrap row ∷ p.wrap other ∷ map p.wrap rows) (p.wrap row ∷ map p.wrap rows) (p.wrap other ∷ put fact_order (p.wrap row) (map p.wrap rows))) (wrap_order p is row other)
    ∙ (elim (order_in p row other) as (λ o. match_ordering o (p.wrap row ∷ p.wrap other ∷ map p.wrap rows) (p.wrap row ∷ map p.wrap rows) (p.wrap other ∷ put fact_order (p.wrap row) (map p.wrap rows)) ≡ map p.wrap (match_ordering o (row ∷ other ∷ rows) (row ∷ rows) (other ∷ put (order_in p) row rows))) [
      | Less ↦ refl
      | Equal ↦ refl
      | Greater ↦ ap (λ (fs : List Fact). p.wrap other ∷ fs) (put_wrapped p is row rows)
    ])

-- ---- a fact that is cut

abbrev pub left_by : Fact → Fact → Bool
left_by old fact = not (same_place old fact)

abbrev pub cut_in : Fact → List Section → List Section
cut_in old [] = []
cut_in old (s ∷ ss) = cond (is_eq (by_name (part_of old) s.part)) (record { part = s.part; facts = filter (left_by old) s.facts }) s ∷ cut_in old ss

all_kept : {X : Type 0} (keep : X → Bool) (rows : List X) → All (λ row. keep row ≡ true) rows → filter keep rows ≡ rows
all_kept keep [] all = refl
all_kept {X} keep (row ∷ rows) all =
    ap (λ b. cond b (row ∷ filter keep rows) (filter keep rows)) (All-head (λ (x : X). keep x ≡ true) row rows all)
    ∙ ap (λ (xs : List X). row ∷ xs) (all_kept keep rows (All-tail (λ (x : X). keep x ≡ true) row rows all))

pub cut_all : (old : Fact) (ss : List Section) → AreSections ss → filter (left_by old) (all_facts ss) ≡ all_facts (cut_in old ss)
cut_all old [] are = refl
cut_all old (s ∷ ss) are =
    filter-append (left_by old) s.facts (all_facts ss)
    ∙ ap (λ (fs : List Fact). filter (left_by old) s.facts ++ fs) (cut_all old ss are.1)
    ∙ (elim (by_name (part_of old) s.part) as (λ o. by_name (part_of old) s.part ≡ o → filter (left_by old) s.facts ++ all_facts (cut_in old ss)
    ≡ (cond (is_eq o) (record { part = s.part; facts = filter (left_by old) s.facts }) s).facts ++ all_facts (cut_in old ss)) [
      | Less ↦ λ less. ap (λ (fs : List Fact). fs ++ all_facts (cut_in old ss)) (all_kept (left_by old) s.facts (All-weaker (λ (f : Fact). fact_order old f ≡ Less) (λ (f : Fact). left_by old f ≡ true) (λ f h. ap (λ o. not (is_eq o)) h) s.facts (all_less old s are.0 less)))
      | Equal ↦ λ same. refl
      | Greater ↦ λ greater. ap (λ (fs : List Fact). fs ++ all_facts (cut_in old ss)) (all_kept (left_by old) s.facts (All-weaker (λ (f : Fact). fact_order old f ≡ Greater) (λ (f : Fact). left_by old f ≡ true) (λ f h. ap (λ o. not (is_eq o)) h) s.facts (all_greater old s are.0 greater)))
    ] refl)

pub cut_wrapped : {A : Type 0} (p : Part A) → IsPart A p → (old : A) (rows : List A) → filter (left_by (p.wrap old)) (map p.wrap rows) ≡ map p.wrap (filter (λ row. not (is_eq (order_in p old row))) rows)
cut_wrapped p is old [] = refl
cut_wrapped {A} p is old (row ∷ rows) =
    ap (λ o. cond (not (is_eq o)) (p.wrap row ∷ filter (left_by (p.wrap old)) (map p.wrap rows)) (filter (left_by (p.wrap old)) (map p.wrap rows))) (wrap_order p is old row)
    ∙ (elim (not (is_eq (order_in p old row))) as (λ b. cond b (p.wrap row ∷ filter (left_by (p.wrap old)) (map p.wrap rows)) (filter (left_by (p.wrap old)) (map p.wrap rows)) ≡ map p.wrap (cond b (row ∷ filter (λ r. not (is_eq (order_in p old r))) rows) (filter (λ r. not (is_eq (order_in p old r))) rows))) [
      | true ↦ ap (λ (fs : List Fact). p.wrap row ∷ fs) (cut_wrapped p is old rows)
      | false ↦ cut_wrapped p is old rows
    ])

-- ---- a part is found again

pub rows_back : {A : Type 0} (p : Part A) → IsPart A p → (rows : List A) → rows_in p (map p.wrap rows) ≡ rows
rows_back p is [] = refl
rows_back {A} p is (row ∷ rows) =
    ap (λ (o : Option A). option_map_or (λ r. r ∷ []) o [] ++ rows_in p (map p.wrap rows)) (is.back row)
    ∙ ap (λ (rs : List A). row ∷ rs) (rows_back p is rows)

abbrev pub rows_at : {A : Type 0} → Part A → List Section → List A
rows_at p [] = []
rows_at p (s ∷ ss) = cond (is_eq (by_name s.part p.name)) (rows_in p s.facts ++ rows_at p ss) (rows_at p ss)

-- no row of a part is found in another
none_there : {A : Type 0} (p : Part A) → IsPart A p → (name : List ℕ) → is_eq (by_name name p.name) ≡ false → (facts : List Fact) → All (λ fact. part_of fact ≡ name) facts → rows_in p facts ≡ []
none_there p is name differs [] all = refl
none_there {A} p is name differs (fact ∷ facts) all =
    let none : p.out fact ≡ None = elim (is.own fact) [
      | inl h ↦ h
      | inr same ↦
          let named : part_of fact ≡ p.name = ap part_of same.1 ∙ is.named same.0 in
          let equal : is_eq (by_name name p.name) ≡ true = ap (λ (n : List ℕ). is_eq (by_name n p.name)) (sym (All-head (λ (f : Fact). part_of f ≡ name) fact facts all) ∙ named) ∙ ap is_eq (tied_itself nat_list_cmp_total p.name) in
          absurd (cc)
    ] in
    ap (λ (o : Option A). option_map_or (λ r. r ∷ []) o [] ++ rows_in p facts) none
    ∙ none_there p is name differs facts (All-tail (λ (f : Fact). part_of f ≡ name) fact facts all)

pub rows_found : {A : Type 0} (p : Part A) → IsPart A p → (ss : List Section) → AreSections ss → rows_in p (all_facts ss) ≡ rows_at p ss
rows_found p is [] are = refl
rows_found {A} p is (s ∷ ss) are =
    flat_map-append (found p) s.facts (all_facts ss)
    ∙ ap (λ (rs : List A). rows_in p s.facts ++ rs) (rows_found p is ss are.1)
    ∙ (elim (is_eq (by_name s.part p.name)) as (λ b. is_eq (by_name s.part p.name) ≡ b → rows_in p s.facts ++ rows_at p ss ≡ cond b (rows_in p s.facts ++ rows_at p ss) (rows_at p ss)) [
      | true ↦ λ same. refl
      | false ↦ λ differs. ap (λ (rs : List A). rs ++ rows_at p ss) (none_there p is s.part differs s.facts are.0)
    ] refl)

-- ---- in order

wrapped_behind : {A : Type 0} (p : Part A) → IsPart A p → (row : A) (rows : List A) → All (λ other. order_in p row other ≡ Less) rows → All (λ other. fact_order (p.wrap row) other ≡ Less) (map p.wrap rows)
wrapped_behind {A} p is row rows all =
    All-map (λ (f : Fact). fact_order (p.wrap row) f ≡ Less) p.wrap rows (All-weaker (λ (other : A). order_in p row other ≡ Less) (λ (other : A). fact_order (p.wrap row) (p.wrap other) ≡ Less) (λ other less. wrap_order p is row other ∙ less) rows all)

pub wrapped_in_order : {A : Type 0} (p : Part A) → IsPart A p → (rows : List A) → IsInOrder (order_in p) rows → IsInOrder fact_order (map p.wrap rows)
wrapped_in_order p is [] ordered = tt
wrapped_in_order p is (row ∷ rows) ordered = (wrapped_behind p is row rows ordered.0, wrapped_in_order p is rows ordered.1)

abbrev pub EachInOrder : List Section → Type 0
EachInOrder [] = Unit {0}
EachInOrder (s ∷ ss) = IsInOrder fact_order s.facts × EachInOrder ss

-- rows in order before rows in order that all stand behind them
append_in_order : (facts later : List Fact) → IsInOrder fact_order facts → IsInOrder fact_order later → All (λ fact. All (λ other. fact_order fact other ≡ Less) later) facts → IsInOrder fact_order (facts ++ later)
append_in_order [] later ordered more behind = more
append_in_order (fact ∷ facts) later ordered more behind = (
  All-append (λ (f : Fact). fact_order fact f ≡ Less) facts later ordered.0 (All-head (λ (f : Fact). All (λ (other : Fact). fact_order f other ≡ Less) later) fact facts behind),
  append_in_order facts later ordered.1 more (All-tail (λ (f : Fact). All (λ (other : Fact). fact_order f other ≡ Less) later) fact facts behind),
)

pub all_in_order : (ss : List Section) → AreSections ss → Ascending ss → EachInOrder ss → IsInOrder fact_order (all_facts ss)
all_in_order [] are ascending each = tt
all_in_order (s ∷ ss) are ascending each =
    append_in_order s.facts (all_facts ss) each.0 (all_in_order ss are.1 (after_first s ss ascending) each.1)
    (All-weaker (λ (f : Fact). part_of f ≡ s.part) (λ (f : Fact). All (λ (other : Fact). fact_order f other ≡ Less) (all_facts ss))
    (λ f named. later_less f s ss are.1 ascending (inr (ap (λ (n : List ℕ). by_name n s.part) named ∙ tied_itself nat_list_cmp_total s.part))) s.facts are.0)
