-- What each arm of the printer has written, from what its steps wrote.
use Rattle.std.proofs.Common.{◌≡◌, ℕ, Bool, true, false, List, ◌∷◌, ◌++◌, map, Result, OnOk, sym, ap, ◌∙◌}
use Rattle.cel_tree.specs.declared.tree.Span.{Span}
use Rattle.cel_tree.specs.declared.tree.Op.{Op}
use Rattle.cel_tree.specs.declared.tree.Expr.{Expr}
use Rattle.cel_tree.specs.declared.tree.Expr.TheVariants as tree
use Rattle.cel_tree.specs.declared.token.Sign.{Sign}
use Rattle.cel_tree.specs.declared.token.Sign.TheVariants as sign
use Rattle.cel_tree.specs.Spelling.{spelling}
use Rattle.cel_grammar.specs.declared.level.Level.{Level}
use Rattle.cel_grammar.specs.declared.level.Level.TheVariants.{Or}
use Rattle.cel_grammar.specs.declared.level.Sort.{Sort}
use Rattle.cel_grammar.specs.declared.level.Sort.TheVariants.{Whole, Binary, Nots, Negs, Member}
use Rattle.cel_grammar.specs.Grammar.{operand}
use Rattle.cel_shown.specs.Shown.{Piece, signed, separated, spaced, shown, level_of, sign_of, bracketed}
use Rattle.cel_shown.specs.Spelled.{bytes_of}
use Rattle.cel_print.proofs.Bytes.{on_ok, blanked, called, called_bytes, prefixed_bytes, spaced_bytes, select_bytes, call_bytes, method_bytes, many_bytes, not_bytes, neg_bytes, two_bytes, pick_bytes, bracket_bytes}

module _ {V E : Type 0} (r : Result V E) (e : Expr) (m : Bool) (old new : List ℕ) where
  pub select_arm : (a a' : Expr) (p : Span) (x x' one two : List ℕ) → e ≡ tree.Select p a x → a' ≡ a → one ≡ old ++ bytes_of (shown a' Member m) → two ≡ one ++ spelling sign.Dot → x' ≡ x
      → OnOk r (new ≡ two ++ x') → OnOk r (new ≡ old ++ bytes_of (shown e Whole m))
  select_arm a a' p x x' one two is ia h i ix o =
      on_ok r new (two ++ x') (old ++ bytes_of (shown e Whole m)) o
      (ap (λ (z : List ℕ). z ++ x') (i ∙ ap (λ (z : List ℕ). z ++ spelling sign.Dot) (h ∙ ap (λ (z : Expr). old ++ bytes_of (shown z Member m)) ia))
      ∙ ap (λ (z : List ℕ). ((old ++ bytes_of (shown a Member m)) ++ spelling sign.Dot) ++ z) ix ∙ select_bytes e a p x is m old)

  pub call_arm : (p : Span) (x x' : List ℕ) (es es' : List Expr) → e ≡ tree.Call p x es → x' ≡ x → es' ≡ es → OnOk r (new ≡ old ++ bytes_of (called x' es')) → OnOk r (new ≡ old ++ bytes_of (shown e Whole m))
  call_arm p x x' es es' is ix ie o =
      on_ok r new (old ++ bytes_of (called x' es')) (old ++ bytes_of (shown e Whole m)) o (rw (ix, ie) (call_bytes e p x es is m old))

  pub method_arm : (a a' : Expr) (p : Span) (x x' : List ℕ) (es es' : List Expr) (one two : List ℕ) → e ≡ tree.Method p a x es → a' ≡ a → one ≡ old ++ bytes_of (shown a' Member m)
      → two ≡ one ++ spelling sign.Dot → x' ≡ x → es' ≡ es → OnOk r (new ≡ two ++ bytes_of (called x' es')) → OnOk r (new ≡ old ++ bytes_of (shown e Whole m))
  method_arm a a' p x x' es es' one two is ia h i ix ie o =
      on_ok r new (two ++ bytes_of (called x' es')) (old ++ bytes_of (shown e Whole m)) o (rw (i, h, ia, ix, ie) (method_bytes e a p x es is m old))

  pub many_arm : (p : Span) (es es' : List Expr) (one two : List ℕ) → e ≡ tree.Many p es → one ≡ old ++ spelling sign.OpenBracket → es' ≡ es
      → two ≡ one ++ bytes_of (separated (map shown es')) → OnOk r (new ≡ two ++ spelling sign.CloseBracket) → OnOk r (new ≡ old ++ bytes_of (shown e Whole m))
  many_arm p es es' one two is h ie i o =
      on_ok r new (two ++ spelling sign.CloseBracket) (old ++ bytes_of (shown e Whole m)) o
      (rw (i, h, ie) (many_bytes e p es is m old))

  pub not_arm : (a a' : Expr) (p : Span) → e ≡ tree.Not p a → a' ≡ a → OnOk r (new ≡ old ++ bytes_of (signed sign.Bang ∷ shown a' Nots false)) → OnOk r (new ≡ old ++ bytes_of (shown e Whole m))
  not_arm a a' p is ia o =
      on_ok r new (old ++ bytes_of (signed sign.Bang ∷ shown a' Nots false)) (old ++ bytes_of (shown e Whole m)) o (rw ia (not_bytes e a p is m old))

  pub neg_arm : (a a' : Expr) (p : Span) → e ≡ tree.Neg p a → a' ≡ a → OnOk r (new ≡ old ++ bytes_of (signed sign.Minus ∷ shown a' Negs true)) → OnOk r (new ≡ old ++ bytes_of (shown e Whole m))
  neg_arm a a' p is ia o =
      on_ok r new (old ++ bytes_of (signed sign.Minus ∷ shown a' Negs true)) (old ++ bytes_of (shown e Whole m)) o (rw ia (neg_bytes e a p is m old))

  pub two_arm : (a a' b b' : Expr) (p : Span) (o : Op) (l : Level) (x : Sign) (s : Sort) (one : List ℕ) → e ≡ tree.Two p o a b → l ≡ level_of o → a' ≡ a → one ≡ old ++ bytes_of (shown a' (Binary l) false)
      → x ≡ sign_of o → b' ≡ b → s ≡ operand l → OnOk r (new ≡ one ++ bytes_of (spaced x (shown b' s false))) → OnOk r (new ≡ old ++ bytes_of (shown e Whole m))
  two_arm a a' b b' p o l x s one is il ia h ix ib ir k =
      on_ok r new (one ++ bytes_of (spaced x (shown b' s false))) (old ++ bytes_of (shown e Whole m)) k (rw (h, ir, il, ix, ia, ib) (two_bytes e a b p o is m old))

  pub pick_arm : (c c' a a' b b' : Expr) (p : Span) (one two : List ℕ) → e ≡ tree.Pick p c a b → c' ≡ c → one ≡ old ++ bytes_of (shown c' (Binary Or) false)
      → a' ≡ a → two ≡ one ++ bytes_of (spaced sign.Question (shown a' (Binary Or) false)) → b' ≡ b → OnOk r (new ≡ two ++ bytes_of (spaced sign.Colon (shown b' Whole false)))
      → OnOk r (new ≡ old ++ bytes_of (shown e Whole m))
  pick_arm c c' a a' b b' p one two is ic h ia i ib o =
      on_ok r new (two ++ bytes_of (spaced sign.Colon (shown b' Whole false))) (old ++ bytes_of (shown e Whole m)) o (rw (i, h, ic, ia, ib) (pick_bytes e c a b p is m old))

  pub bracket_arm : (s : Sort) (one two : List ℕ) → shown e s m ≡ bracketed (shown e Whole false) → one ≡ old ++ spelling sign.OpenParenthesis → two ≡ one ++ bytes_of (shown e Whole false)
      → OnOk r (new ≡ two ++ spelling sign.CloseParenthesis) → OnOk r (new ≡ old ++ bytes_of (shown e s m))
  bracket_arm s one two is h i o =
      on_ok r new (two ++ spelling sign.CloseParenthesis) (old ++ bytes_of (shown e s m)) o
      (ap (λ (z : List ℕ). z ++ spelling sign.CloseParenthesis) (i ∙ ap (λ (z : List ℕ). z ++ bytes_of (shown e Whole false)) h)
      ∙ bracket_bytes (shown e Whole false) old ∙ ap (λ ps. old ++ bytes_of ps) (sym is))

  pub bare_arm : (s : Sort) → shown e s m ≡ shown e Whole m → OnOk r (new ≡ old ++ bytes_of (shown e Whole m)) → OnOk r (new ≡ old ++ bytes_of (shown e s m))
  bare_arm s is o = on_ok r new (old ++ bytes_of (shown e Whole m)) (old ++ bytes_of (shown e s m)) o (ap (λ ps. old ++ bytes_of ps) (sym is))

-- what the parts of the arms have written
module _ {V E : Type 0} (r : Result V E) (old new : List ℕ) where
  pub call_part : (x : List ℕ) (es : List Expr) (one two three : List ℕ) → one ≡ old ++ x → two ≡ one ++ spelling sign.OpenParenthesis → three ≡ two ++ bytes_of (separated (map shown es))
      → OnOk r (new ≡ three ++ spelling sign.CloseParenthesis) → OnOk r (new ≡ old ++ bytes_of (called x es))
  call_part x es one two three h i j o =
      on_ok r new (three ++ spelling sign.CloseParenthesis) (old ++ bytes_of (called x es)) o (rw (j, i, h) (called_bytes x es old))

  pub prefixed_part : (x : Sign) (ps : List Piece) (one : List ℕ) → one ≡ old ++ spelling x → OnOk r (new ≡ one ++ bytes_of ps) → OnOk r (new ≡ old ++ bytes_of (signed x ∷ ps))
  prefixed_part x ps one h o = on_ok r new (one ++ bytes_of ps) (old ++ bytes_of (signed x ∷ ps)) o (rw h (prefixed_bytes x ps old))

  pub appended_part : (x : Sign) (ps : List Piece) (one : List ℕ) → one ≡ old ++ blanked x → OnOk r (new ≡ one ++ bytes_of ps) → OnOk r (new ≡ old ++ bytes_of (spaced x ps))
  appended_part x ps one h o = on_ok r new (one ++ bytes_of ps) (old ++ bytes_of (spaced x ps)) o (rw h (spaced_bytes x ps old))
