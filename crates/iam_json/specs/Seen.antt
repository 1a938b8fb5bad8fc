-- A line of the table of refusals.
use Rattle.iam_json.specs.declared.line.RefusalLine.{RefusalLine}
use Rattle.iam_json.specs.Refusals.{Called}

abbrev pub seen : RefusalLine → Called
seen line = record { number = line.number; code = line.code; reason = line.reason.now; status = line.status.now }
