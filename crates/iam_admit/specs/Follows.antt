-- How a call that tries rules ends.
use Rattle.std.specs.Prelude.{◌≡◌, Result, Ok, Err, Some, None}
use Rattle.std.specs.declared.option.Option.{Option}
use Rattle.iam_types.specs.declared.refusal.Refusal.{Refusal}
use Rattle.iam_admit.specs.declared.stop.AdmitStop.{AdmitStop}
use Rattle.iam_admit.specs.declared.stop.AdmitStop.TheVariants.{Refused, OutOfMemory}

-- It goes on exactly where there is no refusal, and else stops with it. Want of memory is free.
abbrev pub Follows : {X : Type 0} → Result X AdmitStop → Option Refusal → Type 0
Follows (Ok done) refusal = refusal ≡ None
Follows (Err (Refused given)) refusal = refusal ≡ Some given
Follows (Err OutOfMemory) refusal = Unit {0}
