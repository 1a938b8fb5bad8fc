use Rattle.std.proofs.Common.{◌≤◌, length}
use Rattle.std.specs.Str.{IsUtf8}
use Rattle.std.specs.List.{All}
use Rattle.cel_tree.specs.Spelling.{IsProper}
use Rattle.cel_lexer.proofs.Turn.{IsSoFar}
use Rattle.cel_lexer.proofs.cutting.tokens.Given as goal

abbrev pub invariant-cut : goal.invariant-cut
invariant-cut l = record {
  so_far : IsSoFar l.text l.found l.seen l.rest;
  within : length l.rest ≤ length l.text;
  utf8 : IsUtf8 l.rest;
  proper : All (λ token. IsProper token.kind) l.found;
}

abbrev pub decreases-cut : goal.decreases-cut
decreases-cut l = length l.rest
