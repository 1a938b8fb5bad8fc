use Rattle.iam_routes.proofs.Matching.{none_at, some_at}
use Rattle.iam_routes.proofs.routes.Routes.path_at.Goals as goal

pub returns-in-Ok : goal.returns-in-Ok
returns-in-Ok c =
    let found = rw c.args.self.now.is_router at c.in-Ok.ensures.found in
    some_at c.args.self.now.paths.now c.args.place.now _ c.path_in.result c.args.self.now.is_table c.utf8.place found c.path_in.ensures

pub returns-in-Err : goal.returns-in-Err
returns-in-Err c =
    let missing = rw c.args.self.now.is_router at c.in-Err.ensures.missing in
    none_at c.args.self.now.paths.now c.args.place.now c.args.self.now.is_table c.utf8.place missing
