use Rattle.iam_routes.proofs.parts.give.Goals as goal

pub returns-in-None : goal.returns-in-None
returns-in-None c =
    let none = rw c.in-None.is at c.in_ok-part-in-NodeIn.ensures in rw c.in-NodeIn.is (λ given gives. none gives.0 gives.1)
