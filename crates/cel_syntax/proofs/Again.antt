-- What is printed is read again.
use Rattle.std.proofs.Common.{◌≡◌, ℕ, false, List, [], ◌∷◌, refl, arith}
use Rattle.cel_tree.specs.declared.tree.Expr.{Expr}
use Rattle.cel_tree.specs.declared.token.Token.{Token}
use Rattle.cel_grammar.specs.declared.level.Sort.TheVariants.{Whole}
use Rattle.cel_grammar.specs.Position.{Position, start_of}
use Rattle.cel_shown.specs.Shown.{Piece, Blank, Word, Stands, none, blank, word, tokens_of, written, kinds_of}
use Rattle.cel_shown.specs.Spelled.{bytes_of}
use Rattle.cel_shown.proofs.Again.{again}
use Rattle.cel_shown.proofs.Cutting.{printed}
use Rattle.cel_shown.proofs.Light.{lighter}
use Rattle.cel_shown.proofs.Named.{derived_reads}
use Rattle.cel_shown.proofs.Separated.{runs}
use Rattle.cel_syntax.specs.CelText.{CelText}
use Rattle.cel_syntax.specs.Back.{ReadsBack}
use Rattle.cel_syntax.proofs.Names.{cut_passes}

-- pieces stand between the places before and behind their tokens
record Behind (ps : List Piece) (i : Position) : Type 0 where
  at : Position
  ended : at.rest ≡ []
  stands : Stands ps i at

behind : (ps : List Piece) (ts : List Token) (last : ℕ) → kinds_of ts ≡ tokens_of ps → Behind ps (record { last = last; rest = ts })
behind [] [] last e = record { at = record { last = last; rest = [] }; ended = refl; stands = none }
behind [] (t ∷ ts) last e = cc
behind (Blank ∷ ps) ts last e = let b = behind ps ts last e in record { at = b.at; ended = b.ended; stands = blank b.stands }
behind (Word k ∷ ps) [] last e = cc
behind (Word k ∷ ps) (t ∷ ts) last e =
    let head : t.kind ≡ k = cc in
    let tail : kinds_of ts ≡ tokens_of ps = cc in
    let b = behind ps ts t.span.to tail in
    record { at = b.at; ended = b.ended; stands = word (record { taken = (head, refl) }) b.stands }

pub reads_back : (text : List ℕ) (e : Expr) → CelText text e → ReadsBack e (bytes_of (written e))
reads_back text e c short =
    let r = derived_reads c.derived.2 (cut_passes c.cut) in
    let k = printed (written e) ((runs e).at r false Whole false) in
    let n = lighter (start_of c.tokens) c.derived.0 e k.tokens c.derived.2 k.same in
    let b = behind (written e) k.tokens 0 k.same in
    let d = (again e).at r Whole false (start_of k.tokens) b.at b.stands in
    record {
      tree = d.tree;
      is = record {
        tokens = k.tokens;
        short = short;
        cut = k.cut;
        few = let f = n.shorter in let g = c.few in omega (arith, f, g);
        shallow = let f = n.shallower in let g = c.shallow in omega (arith, f, g);
        derived = (b.at, b.ended, d.derived);
      };
      same = d.same;
    }
