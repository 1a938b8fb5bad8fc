-- What is seen of the tokens that are left.
use Rattle.std.proofs.Common.{◌≡◌, List, [], ◌∷◌, drop, Option, Some, None, refl, ap}
use Rattle.std.specs.Prelude.{slice_get}
use Rattle.cel_tree.specs.declared.token.Token.{Token}
use Rattle.cel_grammar.proofs.Steps.{some_is}

pub is_first : (ts : List Token) (t : Token) → slice_get ts 0 ≡ Some t → ts ≡ t ∷ drop 1 ts
is_first [] t e = cc
is_first (u ∷ us) t e = ap (λ (z : Token). z ∷ us) (some_is e)

pub is_empty : (ts : List Token) → slice_get ts 0 ≡ None → ts ≡ []
is_empty [] e = refl
is_empty (u ∷ us) e = cc

pub is_second : (ts : List Token) (t : Token) → slice_get ts 1 ≡ Some t → drop 1 ts ≡ t ∷ drop 2 ts
is_second [] t e = cc
is_second (u ∷ []) t e = cc
is_second (u ∷ v ∷ us) t e = ap (λ (z : Token). z ∷ us) (some_is e)

pub is_short : (ts : List Token) → slice_get ts 1 ≡ None → drop 1 ts ≡ []
is_short [] e = refl
is_short (u ∷ []) e = refl
is_short (u ∷ v ∷ us) e = cc
