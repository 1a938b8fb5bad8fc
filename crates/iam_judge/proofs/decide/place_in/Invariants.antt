use Rattle.std.proofs.Common.{◌≡◌, take}
use Rattle.std.specs.Option.{option_map}
use Rattle.iam_law.specs.Decide.{binding_grants}
use Rattle.iam_law.specs.First.{IsFirstOf}
use Rattle.iam_judge.proofs.decide.place_in.Given as goal

-- the best so far is the first of the bindings so far
abbrev pub invariant-loop-binding : goal.invariant-loop-binding
invariant-loop-binding l = record {
  counted : l.place ≡ l.binding-index;
  first : IsFirstOf (binding_grants l.tables l.query) (take l.binding-index l.bindings) (option_map (λ found. (found.0, found.1.now)) l.best);
}
