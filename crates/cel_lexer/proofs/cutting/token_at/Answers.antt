use Rattle.std.proofs.Common.{◌∙◌, sym, subst, Err}
use Rattle.cel_lexeme.specs.declared.lexeme.Lexeme.{Lexeme}
use Rattle.cel_lexeme.specs.Lexeme.{IsLongest}
use Rattle.cel_lexeme.proofs.Proper.{longest_is, none_is}
use Rattle.cel_lexer.specs.Cut as spec
use Rattle.cel_lexer.specs.Cut.{Cut}
use Rattle.cel_lexer.specs.declared.stop.CutFault.TheVariants.{BadToken, ReservedWord}
use Rattle.cel_lexer.proofs.cutting.token_at.Goals as goal

pub returns-in_default : goal.returns-in_default
returns-in_default c =
    let h = none_is c.args.here.now (sym c.in_ok-lexeme.ensures ∙ c.in_default.is) in
    λ n text e p. subst (λ at. Cut n c.args.seen text (Err (BadToken at))) e (spec.none p c.requires.some h)

pub returns-then-not-may_stand : goal.returns-then-not-may_stand
returns-then-not-may_stand c =
    let k = longest_is c.args.here.now (c.in-Some.lexeme, c.in-Some.len) (sym c.in_ok-lexeme.ensures ∙ c.in-Some.is) in
    let h = subst (λ (l : Lexeme). IsLongest c.args.here.now l c.in-Some.len) c.in-Token.is k in
    λ n text e p. subst (λ at. Cut n c.args.seen text (Err (BadToken at))) e (spec.large p h (sym c.if-not-may_stand.ensures))

pub returns-else-not-may_stand : goal.returns-else-not-may_stand
returns-else-not-may_stand c =
    let k = longest_is c.args.here.now (c.in-Some.lexeme, c.in-Some.len) (sym c.in_ok-lexeme.ensures ∙ c.in-Some.is) in
    (subst (λ (l : Lexeme). IsLongest c.args.here.now l c.in-Some.len) c.in-Token.is k, sym c.if-not-may_stand.ensures)

pub returns-in-Reserved : goal.returns-in-Reserved
returns-in-Reserved c =
    let k = longest_is c.args.here.now (c.in-Some.lexeme, c.in-Some.len) (sym c.in_ok-lexeme.ensures ∙ c.in-Some.is) in
    let h = subst (λ (l : Lexeme). IsLongest c.args.here.now l c.in-Some.len) c.in-Reserved.is k in
    λ n text e p. subst (λ at. Cut n c.args.seen text (Err (ReservedWord at))) e (spec.reserved p h)

pub returns-in-Bad : goal.returns-in-Bad
returns-in-Bad c =
    let k = longest_is c.args.here.now (c.in-Some.lexeme, c.in-Some.len) (sym c.in_ok-lexeme.ensures ∙ c.in-Some.is) in
    let h = subst (λ (l : Lexeme). IsLongest c.args.here.now l c.in-Some.len) c.in-Bad.is k in
    λ n text e p. subst (λ at. Cut n c.args.seen text (Err (BadToken at))) e (spec.bad p h)
