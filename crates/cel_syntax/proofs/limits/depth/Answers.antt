use Rattle.std.proofs.Common.{◌≡◌, ◌+◌, ◌∷◌, suc, max, drop, drop-cons, add-one, sym, ◌∙◌, ap, arith}
use Rattle.cel_tree.specs.declared.token.Token.{Token}
use Rattle.cel_grammar.specs.Depth.{deepest}
use Rattle.cel_syntax.proofs.Whole.{at_least, opened_little}
use Rattle.cel_syntax.proofs.limits.depth.Goals as goal

pub loop-token-preserved : goal.loop-token-preserved
loop-token-preserved c =
    let xs = c.args.tokens.now in
    let i = c.loop-token.token-index in
    let count' = c.opened-count.result in
    let e : drop i xs ≡ c.token-item.result ∷ drop (i + 1) xs = rw add-one (drop-cons xs i c.token-item.result c.loop-token-test.true ∙ ap (λ (t : Token). t ∷ drop (suc i) xs) (sym c.token-item.is)) in
    let f : deepest c.loop-token.count (drop i xs) ≡ max c.loop-token.count (deepest count' (drop (i + 1) xs)) =
    ap (deepest c.loop-token.count) e ∙ ap (λ n. max c.loop-token.count (deepest n (drop (i + 1) xs))) (sym c.opened-count.ensures) in
    let l = at_least count' (drop (i + 1) xs) in
    (omega (arith, f, l), omega (arith, opened_little c.loop-token.count c.token-item.result.kind), omega arith)
