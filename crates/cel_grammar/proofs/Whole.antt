-- The reader and the grammar agree on whole lists of tokens.
use Rattle.std.proofs.Common.{◌≡◌, ℕ, suc, ◌+◌, ◌<◌, List, [], ◌∷◌, length, Option, Some, None, Err, refl, sym, ap, ◌∙◌, subst, arith}
use Rattle.cel_tree.specs.declared.tree.Expr.{Expr}
use Rattle.cel_tree.specs.declared.token.Token.{Token}
use Rattle.cel_grammar.specs.declared.stop.Stop.{Stop}
use Rattle.cel_grammar.specs.declared.stop.Stop.TheVariants.{OutOfMemory, NotAnExpression}
use Rattle.cel_grammar.specs.Position.{Position, start_of}
use Rattle.cel_grammar.specs.Grammar.{IsExpr}
use Rattle.cel_grammar.specs.Reader.{whole_at, finished, done, tree_in, Reads}
use Rattle.cel_grammar.specs.Answer.{Gives}
use Rattle.cel_grammar.proofs.Steps.{some_is}
use Rattle.cel_grammar.proofs.Sound.{whole_sound}
use Rattle.cel_grammar.proofs.Complete.{whole_complete}

empty : {A : Type 0} (xs : List A) → length xs ≡ 0 → xs ≡ []
empty [] e = refl
empty (x ∷ xs) e = absurd (omega (arith, e))

pub is_expr : (tokens : List Token) (n : ℕ) (j : Position) (a : Expr) → whole_at n (start_of tokens) ≡ Some (a, j) → length j.rest ≡ 0 → IsExpr tokens a
is_expr tokens n j a e l = (j, empty j.rest l, (whole_sound n).at (start_of tokens) (a, j) e)

pub is_read : (tokens : List Token) (n : ℕ) (a : Expr) (d : IsExpr tokens a) → length tokens < n → whole_at n (start_of tokens) ≡ Some (a, d.0)
is_read tokens n a d h = whole_complete n (start_of tokens) d.0 a d.2 h d.1

pub at_most_one : (tokens : List Token) (a b : Expr) → IsExpr tokens a → IsExpr tokens b → a ≡ b
at_most_one tokens a b d e =
    let n : length tokens < suc (length tokens) = omega arith in
    let p = is_read tokens (suc (length tokens)) a d n in
    let q = is_read tokens (suc (length tokens)) b e n in
    ap (λ (z : Expr × Position). z.0) (some_is (sym p ∙ q))

pub gives_ok : (tokens : List Token) (n : ℕ) (j : Position) (a b : Expr) → whole_at n (start_of tokens) ≡ Some (b, j) → length tokens < n → IsExpr tokens a → (b ≡ a) × (length j.rest ≡ 0)
gives_ok tokens n j a b e h d =
    let p = some_is (sym e ∙ is_read tokens n a d h) in
    (ap (λ (z : Expr × Position). z.0) p, ap (λ (z : Expr × Position). length z.1.rest) p ∙ ap length d.1)

both : (x : Option (Expr × Position)) (y : Expr × Position) → x ≡ None → x ≡ Some y → ⊥
both x y p q = cc

pub gives_err : (tokens : List Token) (i : Position) (n : ℕ) (j : Position) (a : Expr) (e : Stop) → i ≡ start_of tokens → Reads {A = Expr} (whole_at n i) (Err e) j → length tokens < n → IsExpr tokens a → Gives a (Err e)
gives_err tokens i n j a OutOfMemory s r h d = tt
gives_err tokens i n j a NotAnExpression s r h d =
    both (whole_at n i) (a, d.0) r (ap (whole_at n) s ∙ is_read tokens n a d h)

-- what is computed is the tree
finished_is : (tokens : List Token) (n : ℕ) (a b : Expr) (j : Position) → whole_at n (start_of tokens) ≡ Some (b, j) → (rest : List Token) → j.rest ≡ rest → finished b rest ≡ Some a → IsExpr tokens a
finished_is tokens n a b j e [] r f = subst (IsExpr tokens) (some_is f) (is_expr tokens n j b e (ap length r))
finished_is tokens n a b j e (t ∷ rest) r f = cc

done_is : (tokens : List Token) (n : ℕ) (a : Expr) (o : Option (Expr × Position)) → whole_at n (start_of tokens) ≡ o → done o ≡ Some a → IsExpr tokens a
done_is tokens n a None e f = cc
done_is tokens n a (Some (b, j)) e f = finished_is tokens n a b j e j.rest refl f

pub is_tree : (tokens : List Token) (a : Expr) → tree_in tokens ≡ Some a → IsExpr tokens a
unfolding tree_in
is_tree tokens a e = done_is tokens (length tokens + 1) a (whole_at (length tokens + 1) (start_of tokens)) refl e

pub tree_is : (tokens : List Token) (a : Expr) → IsExpr tokens a → tree_in tokens ≡ Some a
unfolding tree_in
tree_is tokens a d = ap done (is_read tokens (length tokens + 1) a d (omega arith)) ∙ ap (finished a) d.1
