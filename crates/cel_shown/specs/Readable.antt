-- The trees that can be read: their names are names, and their numbers have 64 bits.
use Rattle.std.specs.Prelude.{◌≡◌, ℤ, pos, negsuc, ◌^◌, nat_lt, Bool, true, ◌&&◌, List, [], ◌∷◌}
use Rattle.cel_tree.specs.declared.tree.Expr.{Expr, fold-Expr}
use Rattle.cel_tree.specs.declared.tree.Expr.TheOpen.{Expr-F}
use Rattle.cel_tree.specs.Tree.{unplaced}
use Rattle.cel_tree.specs.declared.token.Token.{Token}
use Rattle.cel_tree.specs.declared.token.TokenKind.{TokenKind}
use Rattle.cel_tree.specs.declared.token.TokenKind.TheVariants as kind
use Rattle.cel_tree.specs.Spelling.{is_name}
use Rattle.cel_grammar.specs.Position.{Position}
use Rattle.cel_grammar.specs.declared.level.Sort.{Sort}
use Rattle.cel_grammar.specs.Grammar.{Derives}

abbrev pub all_true : List Bool → Bool
all_true [] = true
all_true (b ∷ bs) = b && all_true bs

abbrev pub is_literal_number : ℤ → Bool
is_literal_number (pos n) = nat_lt n (2 ^ 63)
is_literal_number (negsuc n) = nat_lt n (2 ^ 63)

-- one level, where each child says whether it can be read
abbrev pub layer_readable : Expr-F Bool → Bool
layer_readable (Expr-F.Bool span truth) = true
layer_readable (Expr-F.Int span n) = is_literal_number n
layer_readable (Expr-F.Str span text) = true
layer_readable (Expr-F.Name span name) = is_name name
layer_readable (Expr-F.Select span a field) = a && is_name field
layer_readable (Expr-F.Call span name es) = is_name name && all_true es
layer_readable (Expr-F.Method span a name es) = a && (is_name name && all_true es)
layer_readable (Expr-F.Many span es) = all_true es
layer_readable (Expr-F.Not span a) = a
layer_readable (Expr-F.Neg span a) = a
layer_readable (Expr-F.Two span o a b) = a && b
layer_readable (Expr-F.Pick span c a b) = c && (a && b)

abbrev pub readable : Expr → Bool
readable = fold-Expr Bool layer_readable

-- what stands between the positions is derived from s, with the tree a but for spans
pub record DerivesAgain (s : Sort) (i j : Position) (a : Expr) : Type 0 where
  pub tree : Expr
  pub same : unplaced tree ≡ unplaced a
  pub derived : Derives s i j tree

-- the names among the tokens are names
abbrev pub passes : TokenKind → Bool
passes (kind.Name name) = is_name name
passes _ = true

abbrev pub all_pass : List Token → Bool
all_pass [] = true
all_pass (t ∷ ts) = passes t.kind && all_pass ts
