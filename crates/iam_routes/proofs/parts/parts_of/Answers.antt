use Rattle.std.proofs.Common.{rules, IsUtf8}
use Rattle.iam_names.specs.declared.node.NodeKind.TheVariants.{Organization}
use Rattle.iam_routes.specs.declared.table.Piece.TheVariants.{NodeIn}
use Rattle.iam_routes.proofs.Segments.{next_piece, no_segment, no_piece, all_taken, nil_from}
use Rattle.iam_routes.proofs.parts.parts_of.Goals as goal

pub returns-in_default : goal.returns-in_default
returns-in_default c =
    no_segment c.args.pieces.now c.loop-piece.piece-index (NodeIn Organization) c.args.place.now c.loop-piece.rest.now c.loop-piece.parts c.loop-piece-test.true c.loop-piece.invariant.1 c.in_default.ensures

pub returns-then-not-branch : goal.returns-then-not-branch
returns-then-not-branch c =
    let given = rw c.if-not-branch.true at c.in_ok-give.ensures in
    no_piece c.args.pieces.now c.loop-piece.piece-index _ c.args.place.now c.loop-piece.rest.now c.loop-piece.parts c.give.new.parts c.in-Some.segment c.in-Some.ensures.0 c.loop-piece-test.true c.loop-piece.invariant.1
    c.in-Some.ensures.1 c.in-Some.ensures.2 given

pub loop-piece-preserved : goal.loop-piece-preserved
loop-piece-preserved c =
    let given = rw c.if-not-branch.false at c.in_ok-give.ensures in
    let text : IsUtf8 c.in-Some.segment.rest.now = search rules in (
      text,
      next_piece c.args.pieces.now c.loop-piece.piece-index _ c.args.place.now c.loop-piece.rest.now c.loop-piece.parts c.give.new.parts c.in-Some.segment c.in-Some.ensures.0 c.loop-piece-test.true c.loop-piece.invariant.1
          c.in-Some.ensures.1 c.in-Some.ensures.2 given,
    )

pub returns-then-is_empty : goal.returns-then-is_empty
returns-then-is_empty c =
    all_taken c.args.pieces.now c.loop-piece.piece-index c.args.place.now c.loop-piece.rest.now c.loop-piece.parts c.loop-piece-test.false c.loop-piece.invariant.1
    (nil_from c.loop-piece.rest.now c.is_empty.result c.is_empty.ensures c.if-is_empty.true)
