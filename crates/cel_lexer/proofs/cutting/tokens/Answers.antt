use Rattle.std.proofs.Common.{◌≡◌, arith, length, length-drop}
use Rattle.std.proofs.lemmas.List.{take_rest}
use Rattle.std.proofs.lemmas.List.Elements.{All-push}
use Rattle.std.proofs.lemmas.Grind.{common_steps}
use Rattle.cel_tree.specs.Spelling.{IsProper}
use Rattle.cel_lexeme.specs.declared.lexeme.Lexeme.TheVariants as lexeme
use Rattle.cel_lexeme.proofs.Proper.{rest_is, proper}
use Rattle.cel_lexer.proofs.Passed.{past_utf8}
use Rattle.cel_lexer.proofs.Turn.{past_at, past_none, finish, stop_is, turn}
use Rattle.cel_lexer.proofs.cutting.tokens.Goals as goal

pub returns-then-is_empty-clause-cut : goal.returns-then-is_empty-clause-cut
returns-then-is_empty-clause-cut c =
    let none : length c.past-here.result.now ≡ 0 = grind (arith, common_steps) in
    finish c.args.text.now c.cut.found c.cut.seen c.cut.rest.now c.cut.invariant.so_far (past_none c.cut.rest.now c.past-here.result.now c.past-here.ensures.rest none)

pub token_at-requires-clause-utf8 : goal.token_at-requires-clause-utf8
token_at-requires-clause-utf8 c = past_utf8 (past_at c.cut.rest.now c.past-here.result.now c.past-here.ensures.rest) c.cut.invariant.utf8

pub returns-in_err-kind-clause-cut : goal.returns-in_err-kind-clause-cut
returns-in_err-kind-clause-cut c =
    let p = past_at c.cut.rest.now c.past-here.result.now c.past-here.ensures.rest in
    stop_is c.args.text.now c.cut.found c.cut.seen c.cut.rest.now c.past-here.result.now _ c.in_err-kind.field-0.0 c.from_residual.result c.cut.invariant.so_far p
    c.as_bytes-bytes.ensures.len c.in_err-kind.ensures c.from_residual.ensures.1

pub cut-preserved : goal.cut-preserved
cut-preserved c =
    let text = c.args.text.now in
    let front = c.past-here.result.now in
    let len = c.in_ok-kind.len in
    let p = past_at c.cut.rest.now front c.past-here.ensures.rest in
    let h = c.in_ok-kind.ensures in
    let u = past_utf8 p c.cut.invariant.utf8 in
    let bytes = c.as_bytes-bytes.ensures.len in
    record {
      so_far = rw (c.in_ok-push.ensures, take_rest front len, bytes, c.after-seen.ensures)
          (turn text c.cut.found c.cut.seen c.cut.rest.now front c.in_ok-kind.kind len c.cut.invariant.so_far p h.0 h.1);
      within = rw (take_rest front len) (omega (arith, length-drop len front, c.past-here.ensures.within, c.cut.invariant.within));
      utf8 = rw (take_rest front len) (rest_is front (lexeme.Token c.in_ok-kind.kind) len u h.0);
      proper = rw c.in_ok-push.ensures (All-push (λ token. IsProper token.kind) c.cut.found _ c.cut.invariant.proper (proper front c.in_ok-kind.kind len u h.0));
    }
