use Rattle.std.proofs.Common.{◌≡◌, ℕ, ◌+◌, ◌-◌, ◌*◌, ◌^◌}
use Rattle.cel_grammar.specs.Position.{from}
use Rattle.cel_grammar.specs.Grammar.{Binary}
use Rattle.cel_grammar.specs.Reader as spec
use Rattle.cel_grammar.proofs.Rank.{sort_rank}
use Rattle.cel_grammar.proofs.reader.+reader.Given as goal

-- A depth has room for all calls below it, and those that count turns stand between the others.
abbrev size : ℕ → ℕ → ℕ
size depth below = 2 ^ 70 * depth + below

abbrev pub decreases-whole : goal.decreases-whole
decreases-whole l = size l.depth 0

abbrev pub decreases-args : goal.decreases-args
decreases-args l = size l.depth 1

abbrev pub decreases-selected : goal.decreases-selected
decreases-selected l = size l.depth 2

abbrev pub decreases-primary : goal.decreases-primary
decreases-primary l = size l.depth 3

abbrev pub decreases-member : goal.decreases-member
decreases-member l = size l.depth 4

abbrev pub decreases-negs : goal.decreases-negs
decreases-negs l = size l.depth (5 + l.turns)

abbrev pub decreases-nots : goal.decreases-nots
decreases-nots l = size l.depth (5 + l.turns)

abbrev pub decreases-unary : goal.decreases-unary
decreases-unary l = size l.depth (2 ^ 65)

abbrev pub decreases-side : goal.decreases-side
decreases-side l = size l.depth (2 ^ 65 + 2 * sort_rank (Binary l.level))

abbrev pub decreases-chain : goal.decreases-chain
decreases-chain l = size l.depth (2 ^ 65 + 2 * sort_rank (Binary l.level) + 1)

abbrev pub invariant-args-loop-turn : goal.invariant-args-loop-turn
invariant-args-loop-turn l =
    spec.args (spec.whole_at l.depth) l.fn.tokens ≡ spec.args_from (spec.whole_at l.depth) (l.turns - l._turn) l.found l.tokens

abbrev pub invariant-chain-loop-turn : goal.invariant-chain-loop-turn
invariant-chain-loop-turn l =
    spec.chain (spec.whole_at l.depth) l.level l.fn.tokens
    ≡ spec.chain_from (spec.whole_at l.depth) l.level (spec.side (spec.whole_at l.depth) l.level) (l.turns - l._turn) (from l.fn.tokens) l.left l.tokens

abbrev pub invariant-member-loop-turn : goal.invariant-member-loop-turn
invariant-member-loop-turn l =
    spec.member (spec.whole_at l.depth) l.fn.tokens ≡ spec.member_from (spec.whole_at l.depth) (l.turns - l._turn) (from l.fn.tokens) l.left l.tokens

abbrev pub decreases-row : goal.decreases-row
decreases-row l = size l.depth 1

abbrev pub invariant-row-loop-turn : goal.invariant-row-loop-turn
invariant-row-loop-turn l =
    spec.row (spec.whole_at l.depth) l.fn.tokens ≡ spec.row_from (spec.whole_at l.depth) (l.turns - l._turn) l.found l.tokens
