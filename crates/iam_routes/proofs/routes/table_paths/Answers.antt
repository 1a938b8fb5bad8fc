use Rattle.std.proofs.Common.{refl}
use Rattle.matchit.proofs.OnLiterals.{matchit_on_literals}
use Rattle.iam_routes.specs.Routes.{lines}
use Rattle.iam_routes.proofs.routes.table_paths.Goals as goal

pub returns : goal.returns
unfolding matchit_on_literals lines
returns c = record { lines_are = refl; free = refl; all_whole = refl; led_to = refl }
