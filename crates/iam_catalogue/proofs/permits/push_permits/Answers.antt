use Rattle.std.proofs.Common.{ℕ, List, ◌++◌, ap, ◌∙◌, arith, Bor}
use Rattle.iam_types.specs.declared.catalogue.Permit.{Permit}
use Rattle.iam_names.specs.Permission.{IsPermission}
use Rattle.iam_model.specs.Catalogue.{permission_of, permit_of}
use Rattle.iam_catalogue.specs.Lines.{line_of}
use Rattle.iam_catalogue.proofs.Fitting.{All-mapped, map_done}
use Rattle.iam_catalogue.proofs.permits.push_permits.Goals as goal

pub permit-requires : goal.permit-requires
permit-requires c =
    All-mapped (λ (verb : List ℕ). IsPermission (permission_of (line_of c.args.line.now) verb)) (λ (verb : Bor (List ℕ)). verb.now)
    c.args.line.now.verbs.now c.requires c.loop-verb.verb-index _ (omega arith)

pub returns : goal.returns
returns c = c.loop-verb.invariant ∙ ap (λ (ps : List Permit). c.args.permits.now ++ ps)
    (map_done (permit_of (line_of c.args.line.now)) (λ (verb : Bor (List ℕ)). verb.now) c.args.line.now.verbs.now c.loop-verb.verb-index (omega arith))
