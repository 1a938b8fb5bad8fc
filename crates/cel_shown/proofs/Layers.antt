-- A fold over a tree is its layer over the folds of the children.
use Rattle.std.proofs.Common.{◌≡◌, ℕ, ℤ, Bool, List, map, sym, ap, ◌∙◌}
use Rattle.cel_tree.specs.declared.tree.Span.{Span}
use Rattle.cel_tree.specs.declared.tree.Op.{Op}
use Rattle.cel_tree.specs.declared.tree.Expr.{Expr, fold-Expr, fold-roll-Expr}
use Rattle.cel_tree.specs.declared.tree.Expr.TheOpen.{Expr-F}
use Rattle.cel_tree.specs.declared.tree.Expr.TheVariants as tree
use Rattle.cel_tree.specs.declared.tree.Expr.TheVariants.{rolls-Bool, rolls-Int, rolls-Str, rolls-Name, rolls-Select, rolls-Call, rolls-Method, rolls-Many, rolls-Not, rolls-Neg, rolls-Two, rolls-Pick}

pub fold_bool : {A : Type 0} (layer : Expr-F A → A) (span : Span) (truth : Bool) → fold-Expr A layer (tree.Bool span truth) ≡ layer (Expr-F.Bool span truth)
fold_bool {A} layer span truth = ap (fold-Expr A layer) (sym (rolls-Bool span truth)) ∙ fold-roll-Expr A layer (Expr-F.Bool span truth)

pub fold_int : {A : Type 0} (layer : Expr-F A → A) (span : Span) (n : ℤ) → fold-Expr A layer (tree.Int span n) ≡ layer (Expr-F.Int span n)
fold_int {A} layer span n = ap (fold-Expr A layer) (sym (rolls-Int span n)) ∙ fold-roll-Expr A layer (Expr-F.Int span n)

pub fold_str : {A : Type 0} (layer : Expr-F A → A) (span : Span) (text : List ℕ) → fold-Expr A layer (tree.Str span text) ≡ layer (Expr-F.Str span text)
fold_str {A} layer span text = ap (fold-Expr A layer) (sym (rolls-Str span text)) ∙ fold-roll-Expr A layer (Expr-F.Str span text)

pub fold_name : {A : Type 0} (layer : Expr-F A → A) (span : Span) (name : List ℕ) → fold-Expr A layer (tree.Name span name) ≡ layer (Expr-F.Name span name)
fold_name {A} layer span name = ap (fold-Expr A layer) (sym (rolls-Name span name)) ∙ fold-roll-Expr A layer (Expr-F.Name span name)

pub fold_select : {A : Type 0} (layer : Expr-F A → A) (span : Span) (a : Expr) (field : List ℕ) → fold-Expr A layer (tree.Select span a field) ≡ layer (Expr-F.Select span (fold-Expr A layer a) field)
fold_select {A} layer span a field = ap (fold-Expr A layer) (sym (rolls-Select span a field)) ∙ fold-roll-Expr A layer (Expr-F.Select span a field)

pub fold_call : {A : Type 0} (layer : Expr-F A → A) (span : Span) (name : List ℕ) (es : List Expr) → fold-Expr A layer (tree.Call span name es) ≡ layer (Expr-F.Call span name (map (fold-Expr A layer) es))
fold_call {A} layer span name es = ap (fold-Expr A layer) (sym (rolls-Call span name es)) ∙ fold-roll-Expr A layer (Expr-F.Call span name es)

pub fold_method : {A : Type 0} (layer : Expr-F A → A) (span : Span) (a : Expr) (name : List ℕ) (es : List Expr) → fold-Expr A layer (tree.Method span a name es) ≡ layer (Expr-F.Method span (fold-Expr A layer a) name (map (fold-Expr A layer) es))
fold_method {A} layer span a name es = ap (fold-Expr A layer) (sym (rolls-Method span a name es)) ∙ fold-roll-Expr A layer (Expr-F.Method span a name es)

pub fold_many : {A : Type 0} (layer : Expr-F A → A) (span : Span) (es : List Expr) → fold-Expr A layer (tree.Many span es) ≡ layer (Expr-F.Many span (map (fold-Expr A layer) es))
fold_many {A} layer span es = ap (fold-Expr A layer) (sym (rolls-Many span es)) ∙ fold-roll-Expr A layer (Expr-F.Many span es)

pub fold_not : {A : Type 0} (layer : Expr-F A → A) (span : Span) (a : Expr) → fold-Expr A layer (tree.Not span a) ≡ layer (Expr-F.Not span (fold-Expr A layer a))
fold_not {A} layer span a = ap (fold-Expr A layer) (sym (rolls-Not span a)) ∙ fold-roll-Expr A layer (Expr-F.Not span a)

pub fold_neg : {A : Type 0} (layer : Expr-F A → A) (span : Span) (a : Expr) → fold-Expr A layer (tree.Neg span a) ≡ layer (Expr-F.Neg span (fold-Expr A layer a))
fold_neg {A} layer span a = ap (fold-Expr A layer) (sym (rolls-Neg span a)) ∙ fold-roll-Expr A layer (Expr-F.Neg span a)

pub fold_two : {A : Type 0} (layer : Expr-F A → A) (span : Span) (o : Op) (a b : Expr) → fold-Expr A layer (tree.Two span o a b) ≡ layer (Expr-F.Two span o (fold-Expr A layer a) (fold-Expr A layer b))
fold_two {A} layer span o a b = ap (fold-Expr A layer) (sym (rolls-Two span o a b)) ∙ fold-roll-Expr A layer (Expr-F.Two span o a b)

pub fold_pick : {A : Type 0} (layer : Expr-F A → A) (span : Span) (c a b : Expr) → fold-Expr A layer (tree.Pick span c a b) ≡ layer (Expr-F.Pick span (fold-Expr A layer c) (fold-Expr A layer a) (fold-Expr A layer b))
fold_pick {A} layer span c a b = ap (fold-Expr A layer) (sym (rolls-Pick span c a b)) ∙ fold-roll-Expr A layer (Expr-F.Pick span c a b)
