use Rattle.std.proofs.Common.{◌≡◌, refl, pos, arith, FitsSigned, w8, w16, w32}
use Rattle.std.proofs.lemmas.Int.{to_z-of_z, to_z_pos}
use Rattle.std.specs.Int.{cast_signed}
use Rattle.cel_meaning.proofs.Days.{number_is}
use Rattle.cel_meaning.proofs.timestamps.day_number.Goals as goal

pub returns-in-Ok : goal.returns-in-Ok
returns-in-Ok c =
    let year : cast_signed w16 c.args.year ≡ pos c.args.year = to_z_pos w16 c.args.year (omega arith) in
    let month : cast_signed w8 c.args.month ≡ pos c.args.month = to_z_pos w8 c.args.month (omega arith) in
    let day : cast_signed w8 c.args.day ≡ pos c.args.day = to_z_pos w8 c.args.day (omega arith) in
    let has = simp (year, month, day) at c.in-Ok.ensures.succeeds in
    let ymd = simp (year, month, day) at c.in-Ok.ensures.value in
    let fits : FitsSigned w32 c.to_unix_epoch_day.result = record { sfits = c.to_unix_epoch_day.type_inv } in
    simp to_z-of_z (number_is c.args.year c.args.month c.args.day c.in-Ok.date _ (has.0 refl) ymd c.to_unix_epoch_day.ensures.value)
