-- What is derived from a sort is derived from each sort that it is within.
use Rattle.std.proofs.Common.{◌≡◌, Bool, true, false, cond, List, Some, refl}
use Rattle.cel_tree.specs.declared.tree.Op.{Op}
use Rattle.cel_tree.specs.declared.tree.Op.TheVariants as op
use Rattle.cel_tree.specs.declared.tree.Expr.{Expr}
use Rattle.cel_tree.specs.Tree.{unplaced}
use Rattle.cel_grammar.specs.declared.level.Level.{Level}
use Rattle.cel_grammar.specs.declared.level.Level.TheVariants.{Or, And, Rel, Add, Mul}
use Rattle.cel_grammar.specs.Position.{Position, sees_number}
use Rattle.cel_grammar.specs.Grammar as g
use Rattle.cel_grammar.specs.declared.level.Sort.{Sort}
use Rattle.cel_grammar.specs.declared.level.Sort.TheVariants.{Whole, Binary, Unary, Nots, Negs, Member, Primary}
use Rattle.cel_grammar.specs.Grammar.{op_of, Derives}
use Rattle.cel_shown.specs.Shown.{Piece, Stands, within, level_of, sign_of, bracketed, placed}
use Rattle.cel_shown.specs.Readable.{DerivesAgain}
use Rattle.cel_shown.proofs.Stand.{inside, brackets_begin}

pub op_is : (o : Op) → op_of (level_of o) (sign_of o) ≡ Some o
op_is op.Or = refl
op_is op.And = refl
op_is op.Lt = refl
op_is op.Le = refl
op_is op.Gt = refl
op_is op.Ge = refl
op_is op.Eq = refl
op_is op.Ne = refl
op_is op.In = refl
op_is op.Add = refl
op_is op.Sub = refl
op_is op.Mul = refl
op_is op.Div = refl
op_is op.Rem = refl

module _ (i j : Position) (a : Expr) where
  at_level : (l : Level) → Derives Unary i j a → Derives (Binary l) i j a
  at_level Mul d = g.alone d
  at_level Add d = g.alone (g.alone d)
  at_level Rel d = g.alone (g.alone (g.alone d))
  at_level And d = g.alone (g.alone (g.alone (g.alone d)))
  at_level Or d = g.alone (g.alone (g.alone (g.alone (g.alone d))))

  pub unary_fits : (s : Sort) → within Unary s ≡ true → Derives Unary i j a → Derives s i j a
  unary_fits Whole e d = g.whole (at_level Or d)
  unary_fits (Binary l) e d = at_level l d
  unary_fits Unary e d = d
  unary_fits Nots e d = cc
  unary_fits Negs e d = cc
  unary_fits Member e d = cc
  unary_fits Primary e d = cc

  pub nots_fit : (s : Sort) → within Nots s ≡ true → Derives Nots i j a → Derives s i j a
  nots_fit Whole e d = g.whole (at_level Or (g.unary d))
  nots_fit (Binary l) e d = at_level l (g.unary d)
  nots_fit Unary e d = g.unary d
  nots_fit Nots e d = d
  nots_fit Negs e d = cc
  nots_fit Member e d = cc
  nots_fit Primary e d = cc

  pub negs_fit : (s : Sort) → within Negs s ≡ true → Derives Unary i j a × Derives Negs i j a → Derives s i j a
  negs_fit Whole e d = g.whole (at_level Or d.0)
  negs_fit (Binary l) e d = at_level l d.0
  negs_fit Unary e d = d.0
  negs_fit Nots e d = cc
  negs_fit Negs e d = d.1
  negs_fit Member e d = cc
  negs_fit Primary e d = cc

  pub member_fits : (s : Sort) → within Member s ≡ true → Derives Member i j a → Derives s i j a
  member_fits Whole e d = g.whole (at_level Or (g.unary (g.not_end d)))
  member_fits (Binary l) e d = at_level l (g.unary (g.not_end d))
  member_fits Unary e d = g.unary (g.not_end d)
  member_fits Nots e d = g.not_end d
  member_fits Negs e d = g.neg_end d
  member_fits Member e d = d
  member_fits Primary e d = cc

  pub primary_fits : (s : Sort) → Derives Primary i j a → Derives s i j a
  primary_fits Whole d = g.whole (at_level Or (g.unary (g.not_end (g.primary d))))
  primary_fits (Binary l) d = at_level l (g.unary (g.not_end (g.primary d)))
  primary_fits Unary d = g.unary (g.not_end (g.primary d))
  primary_fits Nots d = g.not_end (g.primary d)
  primary_fits Negs d = g.neg_end (g.primary d)
  primary_fits Member d = g.primary d
  primary_fits Primary d = d

  pub level_fits : (l : Level) (s : Sort) → within (Binary l) s ≡ true → Derives (Binary l) i j a → Derives s i j a
  level_fits Or Whole e d = g.whole d
  level_fits And Whole e d = g.whole (g.alone d)
  level_fits Rel Whole e d = g.whole (g.alone (g.alone d))
  level_fits Add Whole e d = g.whole (g.alone (g.alone (g.alone d)))
  level_fits Mul Whole e d = g.whole (g.alone (g.alone (g.alone (g.alone d))))
  level_fits Or (Binary Or) e d = d
  level_fits And (Binary Or) e d = g.alone d
  level_fits Rel (Binary Or) e d = g.alone (g.alone d)
  level_fits Add (Binary Or) e d = g.alone (g.alone (g.alone d))
  level_fits Mul (Binary Or) e d = g.alone (g.alone (g.alone (g.alone d)))
  level_fits And (Binary And) e d = d
  level_fits Rel (Binary And) e d = g.alone d
  level_fits Add (Binary And) e d = g.alone (g.alone d)
  level_fits Mul (Binary And) e d = g.alone (g.alone (g.alone d))
  level_fits Rel (Binary Rel) e d = d
  level_fits Add (Binary Rel) e d = g.alone d
  level_fits Mul (Binary Rel) e d = g.alone (g.alone d)
  level_fits Add (Binary Add) e d = d
  level_fits Mul (Binary Add) e d = g.alone d
  level_fits Mul (Binary Mul) e d = d
  level_fits _ _ e d = cc

  pub whole_fits : (s : Sort) → within Whole s ≡ true → Derives Whole i j a → Derives s i j a
  whole_fits Whole e d = d
  whole_fits (Binary Or) e d = cc
  whole_fits (Binary And) e d = cc
  whole_fits (Binary Rel) e d = cc
  whole_fits (Binary Add) e d = cc
  whole_fits (Binary Mul) e d = cc
  whole_fits Unary e d = cc
  whole_fits Nots e d = cc
  whole_fits Negs e d = cc
  whole_fits Member e d = cc
  whole_fits Primary e d = cc

pub level_in_whole : (l : Level) → within (Binary l) Whole ≡ true
level_in_whole Or = refl
level_in_whole And = refl
level_in_whole Rel = refl
level_in_whole Add = refl
level_in_whole Mul = refl

-- what stands between the positions has this property, with the tree a but for spans
pub record Owned (has : Position → Position → Expr → Type 0) (i j : Position) (a : Expr) : Type 0 where
  pub tree : Expr
  pub same : unplaced tree ≡ unplaced a
  pub owned : has i j tree

-- as it stands, or in brackets
pub placed_derives : (own : Sort) (has : Position → Position → Expr → Type 0) (f : Bool → List Piece) (a : Expr) → within own Whole ≡ true
    → ((i j : Position) (t : Expr) (s : Sort) → within own s ≡ true → has i j t → Derives s i j t)
    → ((m : Bool) (i j : Position) → Stands (f m) i j → Owned has i j a) → (s : Sort) (m : Bool) (i j : Position) → Stands (placed own f s m) i j → DerivesAgain s i j a
placed_derives own has f a whole fit inner s m i j t = go (within own s) refl t
  where
    go : (b : Bool) → within own s ≡ b → Stands (cond b (f m) (bracketed (f false))) i j → DerivesAgain s i j a
    go true e t = let w = inner m i j t in record { tree = w.tree; same = w.same; derived = fit i j w.tree s e w.owned }
    go false e t =
        let b = inside (f false) t in
        let w = inner false b.open_at b.close_at b.inner in
        record { tree = w.tree; same = w.same; derived = primary_fits i j w.tree s (g.group b.opens (fit b.open_at b.close_at w.tree Whole whole w.owned) b.closes) }

pub placed_begins : (own : Sort) (f : Bool → List Piece) → ((i j : Position) → Stands (f true) i j → sees_number i ≡ false)
    → (s : Sort) (i j : Position) → Stands (placed own f s true) i j → sees_number i ≡ false
placed_begins own f inner s i j t = go (within own s) t
  where
    go : (b : Bool) → Stands (cond b (f true) (bracketed (f false))) i j → sees_number i ≡ false
    go true t = inner i j t
    go false t = brackets_begin (f false) t

-- what may stand directly behind a minus
abbrev pub tight : Sort → Bool
tight Negs = true
tight Member = true
tight _ = false

pub level_is_loose : (l : Level) (s : Sort) → tight s ≡ true → within (Binary l) s ≡ false
level_is_loose Or Negs e = refl
level_is_loose And Negs e = refl
level_is_loose Rel Negs e = refl
level_is_loose Add Negs e = refl
level_is_loose Mul Negs e = refl
level_is_loose Or Member e = refl
level_is_loose And Member e = refl
level_is_loose Rel Member e = refl
level_is_loose Add Member e = refl
level_is_loose Mul Member e = refl
level_is_loose l _ e = cc

pub whole_is_loose : (s : Sort) → tight s ≡ true → within Whole s ≡ false
whole_is_loose Negs e = refl
whole_is_loose Member e = refl
whole_is_loose _ e = cc

pub loose_begins : (own : Sort) (f : Bool → List Piece) (s : Sort) → within own s ≡ false → (i j : Position) → Stands (placed own f s true) i j → sees_number i ≡ false
loose_begins own f s e i j t = go (within own s) e t
  where
    go : (b : Bool) → b ≡ false → Stands (cond b (f true) (bracketed (f false))) i j → sees_number i ≡ false
    go true e t = cc
    go false e t = brackets_begin (f false) t
