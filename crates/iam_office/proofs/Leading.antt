-- An office leads from its pairs to later ones.
use Rattle.std.proofs.Common.{◌≡◌, ◌+◌, List, [], ◌++◌, length, subst, sym, arith, append_assoc, append-nil, length-append}
use Rattle.iam_types.specs.declared.command.Entry.{Entry}
use Rattle.iam_types.specs.declared.tables.Tables.{Tables}
use Rattle.iam_office.specs.Office.{Leads, Number}

-- to the pair itself
pub leads_here : {O : Type 0} (stands : O → Tables → List Entry → Type 0) (o : O) (P : Tables → List Entry → List Entry → Type 0) → ((t : Tables) (h : List Entry) → P t h []) → Leads stands o o P
leads_here stands o P p t h s = ([], subst (stands o t) (sym (append-nil h)) s, p t h)

-- by one property in place of another
pub leads_as : {O : Type 0} (stands : O → Tables → List Entry → Type 0) (a b : O) (P Q : Tables → List Entry → List Entry → Type 0) → Leads stands a b P → ((t : Tables) (h more : List Entry) → P t h more → Q t h more) → Leads stands a b Q
leads_as stands a b P Q p f t h s = let d = p t h s in (d.0, d.1, f t h d.0 d.2)

-- one after another
pub leads_on : {O : Type 0} (stands : O → Tables → List Entry → Type 0) (a b c : O) (P Q R : Tables → List Entry → List Entry → Type 0) → Leads stands a b P → Leads stands b c Q → ((t : Tables) (h x y : List Entry) → P t h x → Q t (h ++ x) y → R t h (x ++ y)) → Leads stands a c R
leads_on stands a b c P Q R p q f t h s =
    let d = p t h s in
    let e = q t (h ++ d.0) d.1 in
    (d.0 ++ e.0, subst (stands c t) (append_assoc h d.0 e.0) e.1, f t h d.0 e.0 d.2 e.2)

pub number_after : (t : Tables) (h more : List Entry) → Number t (h ++ more) ≡ Number t h + length more
number_after t h more = omega (arith, length-append h more)
