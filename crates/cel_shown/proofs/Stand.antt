-- What stands between two positions, taken apart.
use Rattle.std.proofs.Common.{◌≡◌, false, List, [], ◌∷◌, ◌++◌, refl, ap, subst}
use Rattle.cel_tree.specs.declared.token.Sign.TheVariants as sign
use Rattle.cel_tree.specs.declared.token.Token.{Token}
use Rattle.cel_tree.specs.declared.token.TokenKind.{TokenKind}
use Rattle.cel_tree.specs.declared.token.TokenKind.TheVariants as kind
use Rattle.cel_grammar.specs.Position.{Position, Takes, TakesFirst, is_number, starts_with_number, sees_number}
use Rattle.cel_shown.specs.Shown.{Piece, Blank, Word, Stands, none, blank, word, signed, bracketed}

pub record Split (ps qs : List Piece) (i j : Position) : Type 0 where
  pub at : Position
  pub front : Stands ps i at
  pub back : Stands qs at j

pub split : (ps qs : List Piece) {i j : Position} → Stands (ps ++ qs) i j → Split ps qs i j
split [] qs {i} s = record { at = i; front = none; back = s }
split (Blank ∷ ps) qs (blank s) = let r = split ps qs s in record { at = r.at; front = blank r.front; back = r.back }
split (Word k ∷ ps) qs (word t s) = let r = split ps qs s in record { at = r.at; front = word t r.front; back = r.back }

pub record First (k : TokenKind) (ps : List Piece) (i j : Position) : Type 0 where
  pub at : Position
  pub takes : Takes k i at
  pub back : Stands ps at j

pub first_of_them : {k : TokenKind} {ps : List Piece} {i j : Position} → Stands (Word k ∷ ps) i j → First k ps i j
first_of_them (word {j = m} t s) = record { at = m; takes = t; back = s }

pub unblanked : {ps : List Piece} {i j : Position} → Stands (Blank ∷ ps) i j → Stands ps i j
unblanked (blank s) = s

ends : {i j : Position} → Stands [] i j → i ≡ j
ends none = refl

pub only_one : {k : TokenKind} {i j : Position} → Stands (Word k ∷ []) i j → Takes k i j
only_one {k} {i} {j} s = let f = first_of_them s in subst (λ (z : Position). Takes k i z) (ends f.back) f.takes

-- between brackets

pub record Inside (ps : List Piece) (i j : Position) : Type 0 where
  pub open_at : Position
  pub close_at : Position
  pub opens : Takes (kind.Sign sign.OpenParenthesis) i open_at
  pub inner : Stands ps open_at close_at
  pub closes : Takes (kind.Sign sign.CloseParenthesis) close_at j

pub inside : (ps : List Piece) {i j : Position} → Stands (bracketed ps) i j → Inside ps i j
inside ps s =
    let f = first_of_them s in
    let m = split ps (signed sign.CloseParenthesis ∷ []) f.back in
    record { open_at = f.at; close_at = m.at; opens = f.takes; inner = m.front; closes = only_one m.back }

-- whether the next token is a number

taken_is : (k : TokenKind) (rest : List Token) (j : Position) → TakesFirst k rest j → starts_with_number rest ≡ is_number k
taken_is k [] j t = elim t [ ]
taken_is k (u ∷ rest) j t = ap is_number t.0

pub begins_with : {k : TokenKind} {i j : Position} → Takes k i j → sees_number i ≡ is_number k
begins_with {k} {i} {j} t = taken_is k i.rest j t.taken

pub brackets_begin : (ps : List Piece) {i j : Position} → Stands (bracketed ps) i j → sees_number i ≡ false
brackets_begin ps s = begins_with (inside ps s).opens
