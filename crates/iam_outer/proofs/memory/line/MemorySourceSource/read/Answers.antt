use Rattle.std.proofs.Common.{◌≡◌, ◌∙◌, ap, drop}
use Rattle.iam_outer.proofs.Moving.{moved, at_end}
use Rattle.iam_outer.proofs.memory.line.MemorySourceSource.read.Goals as goal

pub returns-clause-bytes : goal.returns-clause-bytes
returns-clause-bytes c =
    let rest_is : c.split_at.result.1.now ≡ drop c.self.inside.at c.self.inside.bytes = c.split_at.ensures.back ∙ ap (λ xs. drop c.self.inside.at xs) c.as_slice.ensures in
    rw (← c.self.view_is) (moved _ _ _ _ _ rest_is c.copy_some-count.ensures.copied, λ none _. at_end _ _ _ _ _ rest_is c.copy_some-count.ensures.count none c.requires)
