use Rattle.std.proofs.Common.{arith}
use Rattle.std.proofs.lemmas.Nat.{be_bytes_8}
use Rattle.iam_json_data.proofs.etag.number_of.Goals as goal

pub returns : goal.returns
returns c = be_bytes_8 c.args.bytes.now _ c.requires (λ i. omega (arith, c.type_inv.bytes i)) (rw c.copy_from_slice.ensures.after at c.from_be_bytes.ensures)
