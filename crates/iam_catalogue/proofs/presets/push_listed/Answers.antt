use Rattle.std.proofs.Common.{ℕ, List, ◌++◌, map, ap, ◌∙◌, arith, Bor}
use Rattle.iam_names.specs.Permission.{IsPermission}
use Rattle.iam_model.specs.Catalogue.{permission_of}
use Rattle.iam_catalogue.specs.Lines.{line_of, listed_at, pattern_of}
use Rattle.iam_catalogue.proofs.Fitting.{All-mapped, flat_done, listed_together}
use Rattle.iam_catalogue.proofs.presets.push_listed.Goals as goal

pub push_if_listed-requires : goal.push_if_listed-requires
push_if_listed-requires c =
    All-mapped (λ (verb : List ℕ). IsPermission (permission_of (line_of c.args.line.now) verb)) (λ (verb : Bor (List ℕ)). verb.now)
    c.args.line.now.verbs.now c.requires c.loop-verb.verb-index _ (omega arith)

pub returns : goal.returns
returns c = c.loop-verb.invariant ∙ ap (λ (ps : List (List ℕ)). c.args.permissions.now ++ ps)
    (flat_done (listed_at (map pattern_of c.args.patterns.now) (line_of c.args.line.now)) (λ (verb : Bor (List ℕ)). verb.now) c.args.line.now.verbs.now c.loop-verb.verb-index (omega arith)
    ∙ listed_together (map pattern_of c.args.patterns.now) (line_of c.args.line.now) (map (λ (verb : Bor (List ℕ)). verb.now) c.args.line.now.verbs.now))
