-- The names among the tokens of a text are names.
use Rattle.std.proofs.Common.{◌≡◌, ℕ, ◌^◌, Bool, true, false, cond, List, Result, Ok, Err, refl, ap, ◌∙◌}
use Rattle.std.specs.Prelude.{◌&&◌, ◌||◌, not, nat_le, codes, bytes_eq}
use Rattle.std.proofs.lemmas.Bool.{and_from, or_from, not_from_false}
use Rattle.cel_tree.specs.declared.token.Sign.TheVariants as sign
use Rattle.cel_tree.specs.declared.token.Token.{Token as Placed}
use Rattle.cel_tree.specs.declared.token.TokenKind.{TokenKind}
use Rattle.cel_tree.specs.declared.token.TokenKind.TheVariants as kind
use Rattle.cel_tree.specs.Spelling.{is_word, is_reserved, is_grammar_word, is_name}
use Rattle.cel_lexeme.specs.declared.lexeme.Lexeme.{Lexeme}
use Rattle.cel_lexeme.specs.declared.lexeme.Lexeme.TheVariants.{Token, Reserved, Bad}
use Rattle.cel_lexeme.specs.Lexeme.{Spells, word_lexeme, number_lexeme, string_lexeme}
use Rattle.cel_lexeme.specs.Lexeme as spec
use Rattle.cel_lexer.specs.declared.seen.Seen.{Seen}
use Rattle.cel_lexer.specs.declared.stop.CutFault.{CutFault}
use Rattle.cel_lexer.specs.Cut as cut
use Rattle.cel_lexer.specs.Cut.{Cut, with_token, token_at}
use Rattle.cel_shown.specs.Readable.{passes, all_pass}

abbrev LexemePasses : Lexeme → Type 0
LexemePasses (Token k) = passes k ≡ true
LexemePasses Reserved = Unit {0}
LexemePasses Bad = Unit {0}

word_passes : (w : List ℕ) → is_word w ≡ true → LexemePasses (word_lexeme w)
unfolding is_name
word_passes w h = go (bytes_eq w (codes "in")) (bytes_eq w (codes "true")) (bytes_eq w (codes "false")) (is_reserved w) refl refl refl refl
  where
    go : (i t f r : Bool) → bytes_eq w (codes "in") ≡ i → bytes_eq w (codes "true") ≡ t → bytes_eq w (codes "false") ≡ f → is_reserved w ≡ r
        → LexemePasses (cond i (Token (kind.Sign sign.In)) (cond t (Token (kind.Truth true)) (cond f (Token (kind.Truth false)) (cond r Reserved (Token (kind.Name w))))))
    go true t f r hi ht hf hr = refl
    go false true f r hi ht hf hr = refl
    go false false true r hi ht hf hr = refl
    go false false false true hi ht hf hr = tt
    go false false false false hi ht hf hr =
        let grammar : is_grammar_word w ≡ false = or_from (bytes_eq w (codes "in") || bytes_eq w (codes "true")) _ (or_from (bytes_eq w (codes "in")) _ hi ht) hf in
        and_from (is_word w && not (is_grammar_word w)) _ (and_from (is_word w) _ h (not_from_false (is_grammar_word w) grammar)) (not_from_false (is_reserved w) hr)

number_passes : (n : ℕ) → LexemePasses (number_lexeme n)
number_passes n = go (nat_le n (2 ^ 63))
  where
    go : (t : Bool) → LexemePasses (cond t (Token (kind.Number n)) Bad)
    go true = refl
    go false = tt

string_passes : (sound : Bool) (value : List ℕ) → LexemePasses (string_lexeme sound value)
string_passes true value = refl
string_passes false value = tt

lexeme_passes : {lexeme : Lexeme} {bytes : List ℕ} → Spells lexeme bytes → LexemePasses lexeme
lexeme_passes spec.sign = refl
lexeme_passes (spec.word {w = w} h) = word_passes w h
lexeme_passes (spec.decimal_number a) = number_passes _
lexeme_passes (spec.hexadecimal_number a) = number_passes _
lexeme_passes (spec.string {sound = sound} {value = value} q n body) = string_passes sound value
lexeme_passes (spec.raw_string {sound = sound} {value = value} m q n body) = string_passes sound value

abbrev ResultPasses : Result (List Placed) CutFault → Type 0
ResultPasses (Ok tokens) = all_pass tokens ≡ true
ResultPasses (Err stop) = Unit {0}

more_passes : (t : Placed) (more : Result (List Placed) CutFault) → passes t.kind ≡ true → ResultPasses more → ResultPasses (with_token t more)
more_passes t (Ok tokens) h p = ap (λ b. b && all_pass tokens) h ∙ p
more_passes t (Err stop) h p = tt

pub cut_passes : {n : ℕ} {seen : Seen} {z : List ℕ} {result : Result (List Placed) CutFault} → Cut n seen z result → ResultPasses result
cut_passes (cut.ended p) = refl
cut_passes (cut.token {n = n} {len = len} {here = here} {k = k} {more = more} p h m c) = more_passes (token_at n here len k) more (lexeme_passes h.spelled) (cut_passes c)
cut_passes (cut.large p h m) = tt
cut_passes (cut.reserved p h) = tt
cut_passes (cut.bad p h) = tt
cut_passes (cut.none p l h) = tt
