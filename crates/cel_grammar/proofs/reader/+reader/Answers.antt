use Rattle.std.proofs.Common.{rules, arith, ◌≡◌}
use Rattle.std.proofs.lemmas.Grind.{common_steps}
use Rattle.cel_grammar.specs.Position.{from}
use Rattle.cel_grammar.specs.Reader as spec
use Rattle.cel_grammar.specs.Reader.{whole_at, whole_of, picked, args_from, row_from, chain_from, member_from, negs, nots}
use Rattle.cel_grammar.proofs.Turns.{one_more, deeper}
use Rattle.cel_grammar.proofs.reader.+reader.Goals as goal

pub args-loop-turn-preserved : goal.args-loop-turn-preserved
unfolding args_from
args-loop-turn-preserved t c =
    let e = one_more (λ n. args_from (whole_at c.args.depth) n c.loop-turn.found c.loop-turn.tokens) c.left-turns.result c.loop-turn._turn c.loop-turn-test.true c.loop-turn.invariant in
    first_of (search rules, grind (arith, common_steps))

pub chain-loop-turn-preserved : goal.chain-loop-turn-preserved
unfolding chain_from
chain-loop-turn-preserved t c =
    let w = whole_at c.args.depth in
    let e = one_more (λ n. chain_from w c.args.level (spec.side w c.args.level) n (from c.args.tokens.now) c.loop-turn.left c.loop-turn.tokens) c.left-turns.result c.loop-turn._turn c.loop-turn-test.true c.loop-turn.invariant in
    first_of (search rules, grind (arith, common_steps))

pub member-loop-turn-preserved : goal.member-loop-turn-preserved
unfolding member_from
member-loop-turn-preserved t c =
    let e = one_more (λ n. member_from (whole_at c.args.depth) n (from c.args.tokens.now) c.loop-turn.left c.loop-turn.tokens) c.left-turns.result c.loop-turn._turn c.loop-turn-test.true c.loop-turn.invariant in
    first_of (search rules, grind (arith, common_steps))

pub negs-returns-then-turns-eq0 : goal.negs-returns-then-turns-eq0
unfolding negs
negs-returns-then-turns-eq0 t c = let none : c.args.turns ≡ 0 = omega arith in rw none c.member.ensures

pub nots-returns-then-turns-eq0 : goal.nots-returns-then-turns-eq0
unfolding nots
nots-returns-then-turns-eq0 t c = let none : c.args.turns ≡ 0 = omega arith in rw none c.member.ensures

pub whole-returns-in_err-expect : goal.whole-returns-in_err-expect
unfolding whole_at whole_of picked
whole-returns-in_err-expect t c =
    let e = deeper (λ n. whole_at n c.args.tokens.now) c.args.depth (omega arith) in
    first_of (search rules, grind (arith, common_steps))

pub whole-returns-in_err-b : goal.whole-returns-in_err-b
unfolding whole_at whole_of picked
whole-returns-in_err-b t c =
    let e = deeper (λ n. whole_at n c.args.tokens.now) c.args.depth (omega arith) in
    first_of (search rules, grind (arith, common_steps))

pub negs-returns-then-not-eat_negation : goal.negs-returns-then-not-eat_negation
unfolding negs
negs-returns-then-not-eat_negation t c =
    let e = deeper (λ n. negs (whole_at c.args.depth) n c.args.tokens.now) c.args.turns (omega arith) in
    first_of (search rules, grind (arith, common_steps))

pub nots-returns-then-not-eat : goal.nots-returns-then-not-eat
unfolding nots
nots-returns-then-not-eat t c =
    let e = deeper (λ n. nots (whole_at c.args.depth) n c.args.tokens.now) c.args.turns (omega arith) in
    first_of (search rules, grind (arith, common_steps))

pub row-loop-turn-preserved : goal.row-loop-turn-preserved
unfolding row_from
row-loop-turn-preserved t c =
    let e = one_more (λ n. row_from (whole_at c.args.depth) n c.loop-turn.found c.loop-turn.tokens) c.left-turns.result c.loop-turn._turn c.loop-turn-test.true c.loop-turn.invariant in
    first_of (search rules, grind (arith, common_steps))
