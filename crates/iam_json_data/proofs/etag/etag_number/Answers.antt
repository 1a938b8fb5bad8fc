use Rattle.std.proofs.Common.{◌≡◌, ◌≤◌, length, arith, length-take}
use Rattle.iam_json_data.proofs.Etags.{none_from_length, none_from_err, none_from_other, some_from_decoded}
use Rattle.iam_json_data.proofs.etag.etag_number.Goals as goal

pub returns-then-input-ne12 : goal.returns-then-input-ne12
returns-then-input-ne12 c =
    none_from_length c.args.text.now (rw c.as_bytes-input.ensures.value at c.if-input-ne12.true)

pub returns-then-len-eq8 : goal.returns-then-len-eq8
returns-then-len-eq8 c =
    let ok = rw (c.as_bytes-input.ensures.value, c.if-len-eq8.true) at c.in-Ok.ensures.ok in
    some_from_decoded c.args.text.now _ c.number_of.result (λ i. omega (arith, c.type_inv.text i)) c.number_of.type_inv c.number_of.ensures ok.0

pub returns-else-len-eq8 : goal.returns-else-len-eq8
returns-else-len-eq8 c =
    let ok = rw c.as_bytes-input.ensures.value at c.in-Ok.ensures.ok in
    let room : c.in-Ok.len ≤ 9 = ok.2 in
    let size : length c.decode_slice_unchecked.new.output ≡ 9 = c.decode_slice_unchecked.auto.output in
    none_from_other c.args.text.now _ ok.0 (λ same. c.if-len-eq8.false (omega (arith, length-take c.in-Ok.len c.decode_slice_unchecked.new.output)))

pub returns-in-Err : goal.returns-in-Err
returns-in-Err c =
    let err = rw c.as_bytes-input.ensures.value at c.in-Err.ensures.err in
    none_from_err c.args.text.now _ err
