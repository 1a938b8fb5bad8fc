-- Signs: those of one and of two bytes are found by their spellings.
use Rattle.std.proofs.Common.{◌≡◌, ℕ, ◌<◌, Bool, true, false, cond, List, [], ◌∷◌, Some, refl, sym, subst, find, arith}
use Rattle.std.specs.Prelude.{nat_lt, bytes_eq}
use Rattle.std.specs.List.{list_all}
use Rattle.std.proofs.lemmas.Bool.{and_parts}
use Rattle.std.proofs.lemmas.Bool.Decides.{nat_tests}
use Rattle.std.proofs.lemmas.Slice.Eq.{bytes_eq-Decides}
use Rattle.cel_tree.specs.declared.token.Sign.{Sign}
use Rattle.cel_tree.specs.declared.token.Sign.TheVariants as sign
use Rattle.cel_tree.specs.Spelling.{spelling}
use Rattle.cel_lexeme.specs.Front.{sign_one, sign_two, signs_of_one, signs_of_two}
use Rattle.cel_lexeme.proofs.Tests.{some_is}

-- what is found passes the test
found_passes : {A : Type 0} (p : A → Bool) (xs : List A) (x : A) → find p xs ≡ Some x → p x ≡ true
found_passes p [] x e = cc
found_passes p (y ∷ ys) x e = go (p y) refl (λ later. found_passes p ys x later) e
  where
    go : (t : Bool) → p y ≡ t → (find p ys ≡ Some x → p x ≡ true) → cond t (Some y) (find p ys) ≡ Some x → p x ≡ true
    go true h rest e = subst (λ z. p z ≡ true) (some_is e) h
    go false h rest e = rest e

pub record IsOne (b : ℕ) (s : Sign) : Type 0 where
  pub spelled : spelling s ≡ b ∷ []

pub record IsTwo (b c : ℕ) (s : Sign) : Type 0 where
  pub spelled : spelling s ≡ b ∷ c ∷ []
  pub some : 0 < c

-- no sign has the byte 0
some_bytes : (s : Sign) → list_all (nat_lt 0) (spelling s) ≡ true
some_bytes sign.Question = refl
some_bytes sign.Colon = refl
some_bytes sign.OrOr = refl
some_bytes sign.AndAnd = refl
some_bytes sign.Less = refl
some_bytes sign.LessEqual = refl
some_bytes sign.Greater = refl
some_bytes sign.GreaterEqual = refl
some_bytes sign.EqualEqual = refl
some_bytes sign.NotEqual = refl
some_bytes sign.In = refl
some_bytes sign.Plus = refl
some_bytes sign.Minus = refl
some_bytes sign.Star = refl
some_bytes sign.Slash = refl
some_bytes sign.Percent = refl
some_bytes sign.Bang = refl
some_bytes sign.Dot = refl
some_bytes sign.Comma = refl
some_bytes sign.OpenParenthesis = refl
some_bytes sign.CloseParenthesis = refl
some_bytes sign.OpenBracket = refl
some_bytes sign.CloseBracket = refl

positive : (c : ℕ) → nat_lt 0 c ≡ true → 0 < c
positive c h = grind (arith, nat_tests)

second_is_some : (b c : ℕ) → list_all (nat_lt 0) (b ∷ c ∷ []) ≡ true → 0 < c
second_is_some b c h = positive c (and_parts (nat_lt 0 c) true (and_parts (nat_lt 0 b) (list_all (nat_lt 0) (c ∷ [])) h).1).0

pub one_is : (b : ℕ) (s : Sign) → sign_one b ≡ Some s → IsOne b s
one_is b s e = record { spelled = sym ((bytes_eq-Decides (b ∷ []) (spelling s)).0 (found_passes (λ x. bytes_eq (b ∷ []) (spelling x)) signs_of_one s e)) }

pub two_is : (b c : ℕ) (s : Sign) → sign_two b c ≡ Some s → IsTwo b c s
two_is b c s e =
    let spelled : spelling s ≡ b ∷ c ∷ [] = sym ((bytes_eq-Decides (b ∷ c ∷ []) (spelling s)).0 (found_passes (λ x. bytes_eq (b ∷ c ∷ []) (spelling x)) signs_of_two s e)) in
    record { spelled = spelled; some = second_is_some b c (subst (λ z. list_all (nat_lt 0) z ≡ true) spelled (some_bytes s)) }
